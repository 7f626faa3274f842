-- Sizes and alignments of types, in bytes.
use Rattle.std.specs.Prelude.{ℕ, ◌-◌, ◌*◌, ◌^◌, ◌≤◌, List, [], ◌∷◌, Option, Some, None, Result, Ok, Err, map, max, leb, All, IsOk, slice_get, unwrap_or, ⊤, if◌then◌else◌}
use Rattle.std.specs.Int.{is_power_of_two}
use Rattle.naga_arena.specs.InOrder.{AllAcceptedInOrder, RuleInOrder}
use Rattle.naga_arena.specs.Numbers.{largest_u32}
use Rattle.naga_ir.specs.ItemReferences.{GlobalLists}
use Rattle.naga_ir.specs.Sizes.{components, cooperative_components, vector_alignment}
use Rattle.naga_ir.specs.declared.types.«Type».{«Type»}
use Rattle.naga_ir.specs.declared.types.ArraySize.{ArraySize}
use Rattle.naga_ir.specs.declared.types.ArraySize.TheVariants.{Constant, Pending, Dynamic}
use Rattle.naga_ir.specs.declared.types.StructMember.{StructMember}
use Rattle.naga_ir.specs.declared.types.TypeInner.{TypeInner}
use Rattle.naga_ir.specs.declared.types.TypeInner.TheVariants.{Scalar, Vector, Matrix, CooperativeMatrix, Atomic, Pointer, ValuePointer, Array, Struct}
use Rattle.naga_typing.specs.Constants.{override_count}
use Rattle.naga_typing.specs.declared.layouter.TypeLayout.{TypeLayout}
use Rattle.naga_typing.specs.declared.layouter.LayoutErrorInner.{LayoutErrorInner}
use Rattle.naga_typing.specs.declared.layouter.LayoutErrorInner.TheVariants.{TooLarge, NonPowerOfTwoWidth}

-- the greatest size of an array that has a layout
abbrev pub max_type_size : ℕ
max_type_size = 2 ^ 31 - 1

-- how many elements the size of an array counts: one if the array is runtime-sized, and none if an
-- override that gives no count sizes it
abbrev pub element_count : GlobalLists → ArraySize → ℕ
element_count g (Constant n) = n.value
element_count g (Pending o) = unwrap_or (override_count g o) 0
element_count g Dynamic = 1

-- the size of a value: a column of three rows takes as many bytes as one of four
abbrev pub size_of : GlobalLists → TypeInner → ℕ
size_of g (Scalar scalar) = scalar.width
size_of g (Vector size scalar) = components size * scalar.width
size_of g (Matrix columns rows scalar) = components columns * (vector_alignment rows * scalar.width)
size_of g (CooperativeMatrix columns rows scalar role) =
    cooperative_components columns * (cooperative_components rows * scalar.width)
size_of g (Atomic scalar) = scalar.width
size_of g (Pointer base space) = 4
size_of g (ValuePointer size scalar space) = 4
size_of g (Array base size stride) = element_count g size * stride
size_of g (Struct members span) = span
size_of _ _ = 0

-- the size of a value is a number of 32 bits: the size of an array may not be, the size of any other type is
abbrev pub SizeFits : GlobalLists → TypeInner → Type 0
SizeFits g (Array base size stride) = element_count g size * stride ≤ largest_u32
SizeFits _ _ = ⊤

-- the greatest of some alignments, and 1 if there are none
abbrev pub greatest : List ℕ → ℕ
greatest [] = 1
greatest (a ∷ rest) = max a (greatest rest)

-- the alignment of a layout, and 1 if there is none
abbrev pub alignment_in : Option TypeLayout → ℕ
alignment_in None = 1
alignment_in (Some layout) = layout.alignment

-- the alignment of the type of an index
abbrev pub alignment_at : List TypeLayout → ℕ → ℕ
alignment_at layouts t = alignment_in (slice_get layouts t)

-- the alignment of a value, by the layouts of other types: of a matrix the alignment of its columns, of an array of its
-- base, of a struct the greatest of its members
abbrev pub alignment_of : List TypeLayout → TypeInner → ℕ
alignment_of layouts (Scalar scalar) = scalar.width
alignment_of layouts (Vector size scalar) = vector_alignment size * scalar.width
alignment_of layouts (Matrix columns rows scalar) = vector_alignment rows * scalar.width
alignment_of layouts (CooperativeMatrix columns rows scalar role) = scalar.width
alignment_of layouts (Atomic scalar) = scalar.width
alignment_of layouts (Array base size stride) = alignment_at layouts base
alignment_of layouts (Struct members span) = greatest (map (λ (m : StructMember). alignment_at layouts m.ty) members)
alignment_of _ _ = 1

-- the layout of a type, by the layouts of other types
abbrev pub layout_of_inner : GlobalLists → List TypeLayout → TypeInner → TypeLayout
layout_of_inner g layouts inner = record { size = size_of g inner; alignment = alignment_of layouts inner }

-- the layout of a type, by the layouts of other types
abbrev pub layout_of : GlobalLists → List TypeLayout → «Type» → TypeLayout
layout_of g layouts t = layout_of_inner g layouts t.inner

-- the width of the scalars of a type, and 1 if it has none of its own
abbrev pub width_of : TypeInner → ℕ
width_of (Scalar scalar) = scalar.width
width_of (Vector size scalar) = scalar.width
width_of (Matrix columns rows scalar) = scalar.width
width_of (CooperativeMatrix columns rows scalar role) = scalar.width
width_of (Atomic scalar) = scalar.width
width_of _ = 1

-- a size is not too large
abbrev pub within_max_type_size : ℕ → Result (Unit {0}) LayoutErrorInner
within_max_type_size size = if leb size max_type_size then Ok tt else Err TooLarge

-- an array is not too large
abbrev pub size_rule : GlobalLists → TypeInner → Result (Unit {0}) LayoutErrorInner
size_rule g (Array base size stride) = within_max_type_size (element_count g size * stride)
size_rule _ _ = Ok tt

-- a type has a layout if the width of its scalars is a power of two, and an array if it is not too large
abbrev pub layout_rule : GlobalLists → TypeInner → Result (Unit {0}) LayoutErrorInner
layout_rule g inner = if is_power_of_two (width_of inner) then size_rule g inner else Err NonPowerOfTwoWidth

-- for each type whether it has a layout
abbrev pub layout_results : GlobalLists → List (Result (Unit {0}) LayoutErrorInner)
layout_results g = map (λ (t : «Type»). layout_rule g t.inner) g.types

-- the layout of a type as a rule in order, which refuses no type
abbrev pub layout_in_order : GlobalLists → RuleInOrder «Type» TypeLayout ⊥
layout_in_order g before t x = Ok (layout_of g before x)

-- each type has a layout, and these are the layouts, each by the layouts of the types before it
pub record AreLayouts (g : GlobalLists) (layouts : List TypeLayout) : Type 0 where
  pub accepted : All IsOk (layout_results g)
  pub in_order : AllAcceptedInOrder (layout_in_order g) g.types layouts
