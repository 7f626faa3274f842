-- The leaves of small types, written out.
use Rattle.std.proofs.Common.{◌≡◌, ◌≤◌, ℕ, zero, suc, List, [], ◌∷◌, Contains, Some, None, map, option_map, refl, sym, ap, ◌∙◌, arith}
use Rattle.std.proofs.Math.Nat.{zero-lt-suc}
use Rattle.std.proofs.lemmas.List.Elements.{All-contains, All-from_recursion}
use Rattle.std.proofs.lemmas.Option.{same_Some}
use Rattle.naga_ir.specs.ItemReferences.{GlobalLists}
use Rattle.naga_ir.specs.declared.expression.Expression.TheVariants.{Literal}
use Rattle.naga_ir.specs.declared.expression.Literal.TheVariants.{U32}
use Rattle.naga_ir.specs.declared.types.«Type».{«Type»}
use Rattle.naga_ir.specs.declared.types.ArraySize.{ArraySize}
use Rattle.naga_ir.specs.declared.types.ArraySize.TheVariants.{Constant, Pending, Dynamic}
use Rattle.naga_ir.specs.declared.types.ScalarKind.TheVariants.{Float, Uint}
use Rattle.naga_ir.specs.declared.types.StructMember.{StructMember}
use Rattle.naga_ir.specs.declared.types.TypeInner.{TypeInner}
use Rattle.naga_ir.specs.declared.types.TypeInner.TheVariants.{Scalar, Vector, Matrix, Array, Struct}
use Rattle.naga_ir.specs.declared.types.VectorSize.TheVariants.{Bi, Tri, Quad}
use Rattle.naga_typing.proofs.LeafAlignments.{alignment-of_array, alignment-of_leaf}
use Rattle.naga_typing.proofs.LeafLemmas.{leaf-past_end, no-leaf}
use Rattle.naga_typing.specs.Leaves.{EndsInArray, HasNoShortStride, IsLeafAlignment, LeafBytes, elements, end_of, itself, last_member, leaf_at, moved}

-- a type without a name
abbrev typed : TypeInner → «Type»
typed inner = record { name = None; inner = inner }

-- lists of these types, and of nothing else
abbrev of_types : List TypeInner → GlobalLists
of_types inners = record { types = map typed inners; constants = []; overrides = []; expressions = [] }

-- unsigned numbers
abbrev number : TypeInner
number = Scalar (record { kind = Uint; width = 4 })

-- floating-point numbers
abbrev float : TypeInner
float = Scalar (record { kind = Float; width = 4 })

-- vectors of four of these
abbrev vector : TypeInner
vector = Vector Quad (record { kind = Float; width = 4 })

-- a member of a type, at an offset
abbrev member : ℕ → ℕ → StructMember
member ty offset = record { name = None; ty = ty; binding = None; offset = offset }

-- the size of an array of `n + 1` elements
abbrev one_and : ℕ → ArraySize
one_and n = Constant (record { value = suc n; ok = zero-lt-suc n })

-- a leaf of these bytes
abbrev bytes : ℕ → ℕ → ℕ → LeafBytes
bytes first size alignment = record { first = first; size = size; alignment = alignment }

-- paths, and the leaves to which they lead
abbrev Leaves : Type 0
Leaves = List (List ℕ × LeafBytes)

-- each of these paths leads to its leaf, if runtime-sized arrays have `n` elements
abbrev HasLeaves : GlobalLists → ℕ → ℕ → Leaves → Type 0
HasLeaves g n t leaves = map (λ (l : List ℕ × LeafBytes). leaf_at g (elements g n) t l.0) leaves ≡ map (λ (l : List ℕ × LeafBytes). Some l.1) leaves

-- no other path leads to a leaf
abbrev HasNoOther : GlobalLists → ℕ → ℕ → Leaves → Type 0
HasNoOther g n t leaves = (path : List ℕ) (leaf : LeafBytes) → leaf_at g (elements g n) t path ≡ Some leaf → Contains leaves (path, leaf)

-- a number, and a vector of numbers at the next multiple of its alignment
abbrev padded : GlobalLists
padded = of_types (number ∷ vector ∷ Struct (member 0 0 ∷ member 1 16 ∷ []) 32 ∷ [])

-- the leaves of the number and the vector
abbrev padded_leaves : Leaves
padded_leaves = (0 ∷ [], bytes 0 4 4) ∷ (1 ∷ [], bytes 16 16 16) ∷ []

-- the number and the vector have these leaves
pub padded-leaves : (n : ℕ) → HasLeaves padded n 2 padded_leaves
unfolding leaf_at
padded-leaves n = refl

-- the number and the vector have no other leaf
pub padded-no_other : (n : ℕ) → HasNoOther padded n 2 padded_leaves
unfolding leaf_at
padded-no_other n [] leaf h = cc h
padded-no_other n (zero ∷ []) leaf h = (0, omega arith, ap (λ l. (0 ∷ [], l)) (same_Some _ _ h))
padded-no_other n (suc zero ∷ []) leaf h = (1, omega arith, ap (λ l. (1 ∷ [], l)) (same_Some _ _ h))
padded-no_other n (zero ∷ j ∷ path) leaf h = cc h
padded-no_other n (suc zero ∷ j ∷ path) leaf h = cc h
padded-no_other n (suc (suc i) ∷ path) leaf h = cc h

-- the number and the vector have no short stride, since no array is inside
pub padded-has_no_short_stride : HasNoShortStride padded 2
padded-has_no_short_stride zero base size stride inside is = cc is
padded-has_no_short_stride (suc zero) base size stride inside is = cc is
padded-has_no_short_stride (suc (suc zero)) base size stride inside is = cc is
padded-has_no_short_stride (suc (suc (suc u))) base size stride inside is = cc is

-- a number, and as many vectors as a buffer has room for
abbrev open_ended : GlobalLists
open_ended = of_types (number ∷ vector ∷ Array 1 Dynamic 16 ∷ Struct (member 0 0 ∷ member 2 16 ∷ []) 32 ∷ [])

-- the leaves of the number and the vectors, if there are three
abbrev open_leaves : Leaves
open_leaves = (0 ∷ [], bytes 0 4 4) ∷ (1 ∷ 0 ∷ [], bytes 16 16 16) ∷ (1 ∷ 1 ∷ [], bytes 32 16 16) ∷ (1 ∷ 2 ∷ [], bytes 48 16 16) ∷ []

-- the number and three vectors have these leaves
pub open-leaves : HasLeaves open_ended 3 3 open_leaves
unfolding leaf_at
open-leaves = refl

-- the number and three vectors have no other leaf
pub open-no_other : HasNoOther open_ended 3 3 open_leaves
unfolding leaf_at
open-no_other [] leaf h = cc h
open-no_other (zero ∷ []) leaf h = (0, omega arith, ap (λ l. (0 ∷ [], l)) (same_Some _ _ h))
open-no_other (zero ∷ j ∷ path) leaf h = cc h
open-no_other (suc zero ∷ []) leaf h = cc h
open-no_other (suc zero ∷ zero ∷ []) leaf h = (1, omega arith, ap (λ l. (1 ∷ 0 ∷ [], l)) (same_Some _ _ h))
open-no_other (suc zero ∷ suc zero ∷ []) leaf h = (2, omega arith, ap (λ l. (1 ∷ 1 ∷ [], l)) (same_Some _ _ h))
open-no_other (suc zero ∷ suc (suc zero) ∷ []) leaf h = (3, omega arith, ap (λ l. (1 ∷ 2 ∷ [], l)) (same_Some _ _ h))
open-no_other (suc zero ∷ zero ∷ k ∷ path) leaf h = cc h
open-no_other (suc zero ∷ suc zero ∷ k ∷ path) leaf h = cc h
open-no_other (suc zero ∷ suc (suc zero) ∷ k ∷ path) leaf h = cc h
open-no_other (suc zero ∷ suc (suc (suc j)) ∷ path) leaf h =
    let none = leaf-past_end open_ended (elements open_ended 3) 2 1 Dynamic 16 (suc (suc (suc j))) path refl (omega arith) in
    no-leaf leaf (sym (ap (option_map (moved 16)) none) ∙ h)
open-no_other (suc (suc i) ∷ path) leaf h = cc h

-- a leaf ends by a byte
abbrev EndsBy : ℕ → List ℕ × LeafBytes → Type 0
EndsBy limit l = end_of l.1 ≤ limit

-- the leaves of the number and three vectors end where the three strides end
pub open-ends : (path : List ℕ) (leaf : LeafBytes) → leaf_at open_ended (elements open_ended 3) 3 path ≡ Some leaf → end_of leaf ≤ 64
open-ends path leaf h =
    All-contains (EndsBy 64) open_leaves (path, leaf)
    (All-from_recursion (EndsBy 64) open_leaves (omega arith, (omega arith, (omega arith, (omega arith, tt)))))
    (open-no_other path leaf h)

-- the array that it ends in begins at byte 16
pub open-ends_in_array : EndsInArray open_ended 3 16 16
open-ends_in_array = last_member (member 0 0 ∷ []) (member 2 16) 32 1 16 refl refl

-- numbers, as many as an override says
abbrev sized_by : GlobalLists
sized_by = record {
  types = typed number ∷ typed (Array 0 (Pending 0) 16) ∷ [];
  constants = [];
  overrides = record { name = None; id = None; ty = 0; init = Some 0 } ∷ [];
  expressions = Literal (U32 3) ∷ [];
}

-- the leaves of the numbers, if the override says three
abbrev sized_leaves : Leaves
sized_leaves = (0 ∷ [], bytes 0 4 4) ∷ (1 ∷ [], bytes 16 4 4) ∷ (2 ∷ [], bytes 32 4 4) ∷ []

-- the numbers have these leaves
pub sized-leaves : (n : ℕ) → HasLeaves sized_by n 1 sized_leaves
unfolding leaf_at
sized-leaves n = refl

-- the array that an override sizes has no other leaf
pub sized-no_other : (n : ℕ) → HasNoOther sized_by n 1 sized_leaves
unfolding leaf_at
sized-no_other n [] leaf h = cc h
sized-no_other n (zero ∷ []) leaf h = (0, omega arith, ap (λ l. (0 ∷ [], l)) (same_Some _ _ h))
sized-no_other n (suc zero ∷ []) leaf h = (1, omega arith, ap (λ l. (1 ∷ [], l)) (same_Some _ _ h))
sized-no_other n (suc (suc zero) ∷ []) leaf h = (2, omega arith, ap (λ l. (2 ∷ [], l)) (same_Some _ _ h))
sized-no_other n (zero ∷ j ∷ path) leaf h = cc h
sized-no_other n (suc zero ∷ j ∷ path) leaf h = cc h
sized-no_other n (suc (suc zero) ∷ j ∷ path) leaf h = cc h
sized-no_other n (suc (suc (suc i)) ∷ path) leaf h = no-leaf leaf (sym (leaf-past_end sized_by (elements sized_by n) 1 0 (Pending 0) 16 (suc (suc (suc i))) path refl (omega arith)) ∙ h)

-- numbers, as many as an override without an initialiser says
abbrev unsized : GlobalLists
unsized = record sized_by { overrides = record { name = None; id = None; ty = 0; init = None } ∷ [] }

-- an array whose override has no initialiser has no leaf
pub unsized-no_leaves : (n : ℕ) → HasNoOther unsized n 1 []
unfolding leaf_at
unsized-no_leaves n [] leaf h = cc h
unsized-no_leaves n (i ∷ path) leaf h = no-leaf leaf (sym (leaf-past_end unsized (elements unsized n) 1 0 (Pending 0) 16 i path refl (omega arith)) ∙ h)

-- the leaf alignment of the array is the alignment of the one element that it would have
pub unsized-alignment : IsLeafAlignment unsized 1 4
unsized-alignment = alignment-of_array unsized 1 0 (Pending 0) 16 4 refl (alignment-of_leaf unsized 0 number refl refl)

-- two numbers in one place
abbrev crowded : GlobalLists
crowded = of_types (float ∷ Array 0 (one_and 1) 0 ∷ [])

-- both leaves of the two numbers in one place begin at byte 0
pub crowded-leaves : (n : ℕ) → HasLeaves crowded n 1 ((0 ∷ [], bytes 0 4 4) ∷ (1 ∷ [], bytes 0 4 4) ∷ [])
unfolding leaf_at
crowded-leaves n = refl

-- the stride of the two numbers in one place is short
pub crowded-has_a_short_stride : HasNoShortStride crowded 1 → ⊥
crowded-has_a_short_stride none = omega (arith, none 1 0 (one_and 1) 0 itself refl)

-- matrices of three rows in an array in a struct: a column takes as many bytes as one of four rows
abbrev matrices : GlobalLists
matrices = of_types (number ∷ Matrix Bi Tri (record { kind = Float; width = 4 }) ∷ Array 1 (one_and 1) 48 ∷ Struct (member 0 0 ∷ member 2 16 ∷ []) 112 ∷ [])

-- each has its place, moved by the strides before it
pub matrices-leaves : (n : ℕ) → HasLeaves matrices n 3 ((0 ∷ [], bytes 0 4 4) ∷ (1 ∷ 0 ∷ [], bytes 16 32 16) ∷ (1 ∷ 1 ∷ [], bytes 64 32 16) ∷ [])
unfolding leaf_at
matrices-leaves n = refl

-- a struct twice in another
abbrev nested : GlobalLists
nested = of_types (number ∷ vector ∷ Struct (member 0 0 ∷ member 0 4 ∷ []) 8 ∷ Struct (member 1 0 ∷ member 2 16 ∷ member 2 24 ∷ []) 32 ∷ [])

-- the leaves of the struct that is twice in another
abbrev nested_leaves : Leaves
nested_leaves =
    (0 ∷ [], bytes 0 16 16) ∷ (1 ∷ 0 ∷ [], bytes 16 4 4) ∷ (1 ∷ 1 ∷ [], bytes 20 4 4) ∷ (2 ∷ 0 ∷ [], bytes 24 4 4) ∷ (2 ∷ 1 ∷ [], bytes 28 4 4) ∷ []

-- each leaf is moved by the offset of the inner struct
pub nested-leaves : (n : ℕ) → HasLeaves nested n 3 nested_leaves
unfolding leaf_at
nested-leaves n = refl

-- two arrays of three numbers
abbrev rows : GlobalLists
rows = of_types (number ∷ Array 0 (one_and 2) 4 ∷ Array 1 (one_and 1) 16 ∷ [])

-- the leaves of two arrays of three numbers, row by row
abbrev row_leaves : Leaves
row_leaves =
    (0 ∷ 0 ∷ [], bytes 0 4 4) ∷ (0 ∷ 1 ∷ [], bytes 4 4 4) ∷ (0 ∷ 2 ∷ [], bytes 8 4 4)
    ∷ (1 ∷ 0 ∷ [], bytes 16 4 4) ∷ (1 ∷ 1 ∷ [], bytes 20 4 4) ∷ (1 ∷ 2 ∷ [], bytes 24 4 4)
    ∷ []

-- the index of a row comes first
pub row-leaves : (n : ℕ) → HasLeaves rows n 2 row_leaves
unfolding leaf_at
row-leaves n = refl

-- neither array has one more element
pub rows-end : (n : ℕ) (path : List ℕ) → (leaf_at rows (elements rows n) 2 (2 ∷ path) ≡ None) × (leaf_at rows (elements rows n) 2 (0 ∷ 3 ∷ path) ≡ None)
unfolding leaf_at
rows-end n path = (refl, refl)
