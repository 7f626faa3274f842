-- What the readers of one word return.
use Rattle.std.specs.Prelude.{ℕ, zero, suc, List, [], ◌∷◌, Option, Some, None, codes, false, bytes_eq, if◌then◌else◌, option_and_then, ◌==◌}
use Rattle.std.proofs.Math.Nat.{zero-lt-suc}
use Rattle.std.specs.declared.num.NonZeroU32.{NonZeroU32}
use Rattle.naga_ir.specs.declared.types.ArraySize.{ArraySize}
use Rattle.naga_ir.specs.declared.types.ArraySize.TheVariants.{Constant, Pending, Dynamic}
use Rattle.naga_ir.specs.declared.types.Binding.{Binding}
use Rattle.naga_ir.specs.declared.types.Binding.TheVariants.{Location}
use Rattle.naga_ir.specs.declared.types.CooperativeSize.{CooperativeSize}
use Rattle.naga_ir.specs.declared.types.CooperativeSize.TheVariants.{Eight, Sixteen}
use Rattle.naga_ir.specs.declared.types.StructMember.{StructMember}
use Rattle.naga_ir.specs.declared.types.VectorSize.{VectorSize}
use Rattle.naga_ir.specs.declared.types.VectorSize.TheVariants.{Bi, Tri, Quad}
use Rattle.naga_text.specs.Bytes.{letter_o}
use Rattle.naga_text.specs.Tables.{chosen}
use Rattle.naga_text.specs.Words.{handle_of, number_of, number_up_to, pieces_of}

-- what the second reads of the value of the first, as `?` in code
infixl 10 ◌>>=◌
abbrev pub ◌>>=◌ : {A B : Type 0} → Option A → (A → Option B) → Option B
read >>= f = option_and_then f read

-- the values of all words, if each has one
abbrev pub read_each : {A : Type 0} → (List ℕ → Option A) → List (List ℕ) → Option (List A)
read_each reader [] = Some []
read_each reader (w ∷ ws) = do
  value ← reader w
  values ← read_each reader ws
  Some (value ∷ values)

-- the size that has this number
abbrev pub size_at : ℕ → Option VectorSize
size_at n = if n == 2 then Some Bi else if n == 3 then Some Tri else if n == 4 then Some Quad else None

-- the size that a word writes
abbrev pub size_of : List ℕ → Option VectorSize
size_of w = number_up_to 4 w >>= size_at

-- the size of a value pointer that has this number, which is none for 0
abbrev pub pointed_size_at : ℕ → Option (Option VectorSize)
pointed_size_at n = if n == 0 then Some None else size_at n >>= (λ size. Some (Some size))

-- the size of a value pointer that a word writes
abbrev pub pointed_size_of : List ℕ → Option (Option VectorSize)
pointed_size_of w = number_up_to 4 w >>= pointed_size_at

-- the size of a cooperative matrix that has this number
abbrev pub cooperative_size_at : ℕ → Option CooperativeSize
cooperative_size_at n = if n == 8 then Some Eight else if n == 16 then Some Sixteen else None

-- the size of a cooperative matrix that a word writes
abbrev pub cooperative_size_of : List ℕ → Option CooperativeSize
cooperative_size_of w = number_up_to 16 w >>= cooperative_size_at

-- a number as a count, which 0 is not
abbrev pub count_at : ℕ → Option NonZeroU32
count_at zero = None
count_at (suc n) = Some (record { value = suc n; ok = zero-lt-suc n })

-- the count that a word writes
abbrev pub count_of : List ℕ → Option NonZeroU32
count_of w = number_of w >>= count_at

-- the override of a word that begins with the letter o, and else the count
abbrev pub bounded_size_of : List ℕ → Option ArraySize
bounded_size_of [] = None
bounded_size_of (c ∷ cs) =
    if c == letter_o then handle_of cs >>= (λ size. Some (Pending size))
    else count_of (c ∷ cs) >>= (λ count. Some (Constant count))

-- how many elements a word says that an array has
abbrev pub array_size_of : List ℕ → Option ArraySize
array_size_of w = if bytes_eq w (codes "dyn") then Some Dynamic else bounded_size_of w

-- the value of a word, or none for a minus
abbrev pub optional_of : {A : Type 0} → (List ℕ → Option A) → List ℕ → Option (Option A)
optional_of reader w = if bytes_eq w (codes "-") then Some None else reader w >>= (λ a. Some (Some a))

-- the binding of the pieces after a member's type and offset
abbrev pub binding_of : List (List ℕ) → Option (Option Binding)
binding_of [] = Some None
binding_of (l ∷ []) = do
  location ← number_of l
  Some (Some (Location location None None None false))
binding_of (l ∷ b ∷ []) = do
  location ← number_of l
  blend_src ← number_of b
  Some (Some (Location location None None (Some blend_src) false))
binding_of _ = None

-- the member of the pieces of a word
abbrev pub member_in : List (List ℕ) → Option StructMember
member_in (t ∷ o ∷ rest) = do
  ty ← handle_of t
  binding ← binding_of rest
  offset ← number_of o
  Some (record { name = None; ty = ty; binding = binding; offset = offset })
member_in _ = None

-- the member that a word says
abbrev pub member_of : List ℕ → Option StructMember
member_of w = member_in (pieces_of w)

-- what reads the words after a keyword
abbrev pub Reader : Type 0 → Type 0
Reader A = List (List ℕ) → Option A

-- what the reader of a keyword reads of the words after it
abbrev pub read_by : {A : Type 0} → List (List ℕ × Reader A) → List ℕ → Reader A
read_by readers keyword words = do
  reader ← chosen readers keyword
  reader words
