-- The index of each type and global expression in the order of visits, by a formula.
use Rattle.std.specs.Prelude.{◌≡◌, ℕ, zero, suc, ◌+◌, max, nat_lt, Bool, length, Option, Some, None, if◌then◌else◌}
use Rattle.naga_ir.specs.Handles.{NamesType, OrderedReference, size_initialiser}
use Rattle.naga_ir.specs.ItemReferences.{GlobalLists}
use Rattle.naga_ir.specs.declared.reference.Reference.{Reference}
use Rattle.naga_ir.specs.declared.reference.Reference.TheVariants as to

-- how many expressions a size needs
abbrev pub reach : Option ℕ → ℕ
reach None = 0
reach (Some n) = n + 1

-- one more than the greatest initialiser that sizes a type before t, or 0
unfoldable pub top_before : GlobalLists → ℕ → ℕ
top_before g zero = 0
top_before g (suc t) = max (top_before g t) (reach (size_initialiser g t))

-- the least number below n of which `p` holds, or n if there is none
unfoldable pub least : (ℕ → Bool) → ℕ → ℕ
least p zero = 0
least p (suc n) = if p 0 then 0 else suc (least (λ t. p (suc t)) n)

-- the type t is sized by an initialiser at or after e
abbrev pub asks_for : GlobalLists → ℕ → ℕ → Bool
asks_for g e t = nat_lt e (reach (size_initialiser g t))

-- the first type whose size needs expression `e`, or the number of types
unfoldable pub first_waiting : GlobalLists → ℕ → ℕ
first_waiting g e = least (asks_for g e) (length g.types)

-- a type comes after the types before it, and after all expressions that their sizes and its own need
abbrev pub rank_of_type : GlobalLists → ℕ → ℕ
rank_of_type g t = t + top_before g (t + 1)

-- an expression comes after the expressions before it, and after all types before the first whose size needs it
abbrev pub rank_of_expression : GlobalLists → ℕ → ℕ
rank_of_expression g e = e + first_waiting g e

-- a type or global expression needs another one: it refers back to it, is sized by it, or names it as a type
pub data DependsOn (g : GlobalLists) : Reference → Reference → Type 0 where
  goes_back : (s t : Reference) → OrderedReference g s t → DependsOn g s t
  sized : (t n : ℕ) → size_initialiser g t ≡ Some n → DependsOn g (to.Type_ t) (to.Expression n)
  names_type : (e u : ℕ) → NamesType g e u → DependsOn g (to.Expression e) (to.Type_ u)
