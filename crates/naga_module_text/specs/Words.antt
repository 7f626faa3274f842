-- Words that say where a resource is bound, and when a case is executed.
use Rattle.std.specs.Prelude.{ℕ, List, [], ◌∷◌, Option, Some, None, bytes_eq, codes, if◌then◌else◌, ◌==◌}
use Rattle.naga_ir.specs.declared.ir.ResourceBinding.{ResourceBinding}
use Rattle.naga_ir.specs.declared.statement.SwitchValue.{SwitchValue}
use Rattle.naga_ir.specs.declared.statement.SwitchValue.TheVariants.{Default, I32, U32}
use Rattle.naga_text.specs.Words.{integer_up_to, largest_i32, number_of, pieces_of}
use Rattle.naga_text.specs.WordForms.{◌>>=◌}

-- the binding of the pieces of a word: the number of its group, and its number in the group
abbrev pub resource_binding_in : List (List ℕ) → Option ResourceBinding
resource_binding_in (g ∷ b ∷ []) = do
  group ← number_of g
  binding ← number_of b
  Some (record { group = group; binding = binding })
resource_binding_in _ = None

-- the binding that the word `w` says: two numbers with a colon between them
abbrev pub resource_binding_of : List ℕ → Option ResourceBinding
resource_binding_of w = resource_binding_in (pieces_of w)

-- the letter `i`, after which the value of a signed selector stands
abbrev pub letter_i : ℕ
letter_i = 105

-- the value of the word `w`, which is not `default`: signed behind the letter i, and else unsigned
abbrev pub selected_of : List ℕ → Option SwitchValue
selected_of [] = None
selected_of (c ∷ cs) =
    if c == letter_i then integer_up_to largest_i32 cs >>= (λ n. Some (I32 n))
    else number_of (c ∷ cs) >>= (λ n. Some (U32 n))

-- the value of a selector at which a case with the word `w` is executed
abbrev pub switch_value_of : List ℕ → Option SwitchValue
switch_value_of w = if bytes_eq w (codes "default") then Some Default else selected_of w
