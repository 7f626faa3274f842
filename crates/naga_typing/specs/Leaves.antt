-- Where the leaves of a value are: its scalars, vectors, matrices and atomics, at any depth of arrays and structs.
use Rattle.std.specs.Prelude.{◌≡◌, ◌+◌, ◌*◌, ◌%◌, ◌≤◌, ◌⊎◌, ◌≢◌, ℕ, Bool, true, false, ltb, List, [], ◌∷◌, ◌++◌, Option, Some, None, Contains, option_and_then, option_map, slice_get, unwrap_or, if◌then◌else◌}
use Rattle.naga_ir.specs.ItemReferences.{GlobalLists}
use Rattle.naga_ir.specs.declared.types.«Type».{«Type»}
use Rattle.naga_ir.specs.declared.types.ArraySize.{ArraySize}
use Rattle.naga_ir.specs.declared.types.ArraySize.TheVariants.{Constant, Pending, Dynamic}
use Rattle.naga_ir.specs.declared.types.StructMember.{StructMember}
use Rattle.naga_ir.specs.declared.types.TypeInner.{TypeInner}
use Rattle.naga_ir.specs.declared.types.TypeInner.TheVariants.{Scalar, Vector, Matrix, CooperativeMatrix, Atomic, Array, Struct}
use Rattle.naga_typing.specs.Constants.{override_count}
use Rattle.naga_typing.specs.Layout.{alignment_of, size_of}

-- the bytes of a leaf: the first, how many, and what the first has to be a multiple of
pub record LeafBytes : Type 0 where
  pub first : ℕ
  pub size : ℕ
  pub alignment : ℕ

-- the first byte after a leaf
abbrev pub end_of : LeafBytes → ℕ
end_of leaf = leaf.first + leaf.size

-- the `TypeInner` of the type of an index
abbrev pub inner_at : GlobalLists → ℕ → Option TypeInner
inner_at g t = option_map (λ (ty : «Type»). ty.inner) (slice_get g.types t)

-- a value of type `inner` is a leaf: scalars, vectors, matrices and atomics are, and have no parts
abbrev pub is_leaf : TypeInner → Bool
is_leaf (Scalar scalar) = true
is_leaf (Vector size scalar) = true
is_leaf (Matrix columns rows scalar) = true
is_leaf (CooperativeMatrix columns rows scalar role) = true
is_leaf (Atomic scalar) = true
is_leaf _ = false

-- all bytes of a value that is a leaf: its alignment depends on no other type
abbrev pub whole_leaf : GlobalLists → TypeInner → Option LeafBytes
whole_leaf g inner =
    if is_leaf inner
    then Some (record { first = 0; size = size_of g inner; alignment = alignment_of [] inner }) else None

-- how many elements an array has, by its size
abbrev pub Elements : Type 0
Elements = ArraySize → ℕ

-- how many elements arrays have if a runtime-sized one has `n`: none if an override that gives no count sizes the array
abbrev pub elements : GlobalLists → ℕ → Elements
elements g n (Constant count) = count.value
elements g n (Pending o) = unwrap_or (override_count g o) 0
elements g n Dynamic = n

-- a part of a value: its type, and its first byte
pub record Part : Type 0 where
  pub ty : ℕ
  pub first : ℕ

-- the element or the member of an index
abbrev pub part_at : Elements → TypeInner → ℕ → Option Part
part_at elements_of (Array base size stride) i =
    if ltb i (elements_of size) then Some (record { ty = base; first = i * stride }) else None
part_at elements_of (Struct members span) i =
    option_map (λ (m : StructMember). let part : Part = record { ty = m.ty; first = m.offset } in part)
    (slice_get members i)
part_at _ _ _ = None

-- a leaf of a part, as one of the whole
abbrev pub moved : ℕ → LeafBytes → LeafBytes
moved by leaf = record leaf { first = by + leaf.first }

-- the leaf of a type to which the indexes of elements and members lead
unfoldable pub leaf_at : GlobalLists → Elements → ℕ → List ℕ → Option LeafBytes
leaf_at g elements_of t [] = option_and_then (whole_leaf g) (inner_at g t)
leaf_at g elements_of t (i ∷ path) =
    option_and_then (λ part. option_map (moved part.first) (leaf_at g elements_of part.ty path))
    (option_and_then (λ inner. part_at elements_of inner i) (inner_at g t))

-- two leaves share no byte
abbrev pub ShareNoByte : LeafBytes → LeafBytes → Type 0
ShareNoByte a b = (end_of a ≤ b.first) ⊎ (end_of b ≤ a.first)

-- the leaves of the type of index `t`, if a runtime-sized array has `n` elements, are aligned, end by byte `limit`, and
-- share no byte
pub record AreSeparate (g : GlobalLists) (n t limit : ℕ) : Type 0 where
  pub aligned : (path : List ℕ) (leaf : LeafBytes) → leaf_at g (elements g n) t path ≡ Some leaf
      → leaf.first % leaf.alignment ≡ 0
  pub contained : (path : List ℕ) (leaf : LeafBytes) → leaf_at g (elements g n) t path ≡ Some leaf → end_of leaf ≤ limit
  pub disjoint : (path path′ : List ℕ) (leaf leaf′ : LeafBytes) → path ≢ path′
      → leaf_at g (elements g n) t path ≡ Some leaf → leaf_at g (elements g n) t path′ ≡ Some leaf′
      → ShareNoByte leaf leaf′

-- a type is inside the type of index `t`: it is that type itself, or at any depth an element or a member of it
pub data IsInside (g : GlobalLists) (t : ℕ) : ℕ → Type 0 where
  itself : IsInside g t t
  element : (u base : ℕ) (size : ArraySize) (stride : ℕ) → IsInside g t u → inner_at g u ≡ Some (Array base size stride)
      → IsInside g t base
  member : (u : ℕ) (members : List StructMember) (span : ℕ) (m : StructMember) → IsInside g t u
      → inner_at g u ≡ Some (Struct members span) → Contains members m → IsInside g t m.ty

-- the size of the type of an index, and 0 if there is none
abbrev pub size_at_index : GlobalLists → ℕ → ℕ
size_at_index g t = unwrap_or (option_map (size_of g) (inner_at g t)) 0

-- no array inside the type of index `t` has a stride below the size of its elements
abbrev pub HasNoShortStride : GlobalLists → ℕ → Type 0
HasNoShortStride g t =
    (u base : ℕ) (size : ArraySize) (stride : ℕ) → IsInside g t u → inner_at g u ≡ Some (Array base size stride)
    → size_at_index g base ≤ stride

-- the type of index `t` is a runtime-sized array, or a struct that ends in one: the array begins at the first number,
-- and its stride is the second one
pub data EndsInArray (g : GlobalLists) (t : ℕ) : ℕ → ℕ → Type 0 where
  array : (base stride : ℕ) → inner_at g t ≡ Some (Array base Dynamic stride) → EndsInArray g t 0 stride
  last_member : (front : List StructMember) (m : StructMember) (span base stride : ℕ)
      → inner_at g t ≡ Some (Struct (front ++ m ∷ []) span) → inner_at g m.ty ≡ Some (Array base Dynamic stride)
      → EndsInArray g t m.offset stride

-- every array has one element
abbrev pub one_each : Elements
one_each size = 1

-- `alignment` is the greatest alignment of a leaf of the type of index `t`, if every array has one element
pub record IsLeafAlignment (g : GlobalLists) (t alignment : ℕ) : Type 0 where
  pub path : List ℕ
  pub leaf : LeafBytes
  pub stands : leaf_at g one_each t path ≡ Some leaf
  pub is_its : alignment ≡ leaf.alignment
  pub is_greatest : (other : List ℕ) (x : LeafBytes) → leaf_at g one_each t other ≡ Some x → x.alignment ≤ alignment
