-- The types that words say: one reader for each, of the operands after the name.
use Rattle.std.specs.Prelude.{◌==◌, ℕ, List, [], ◌∷◌, Option, Some, None, drop, if◌then◌else◌, slice_get, take}
use Rattle.naga_ir.specs.declared.types.«Type».{«Type»}
use Rattle.naga_ir.specs.declared.types.StructMember.{StructMember}
use Rattle.naga_ir.specs.declared.types.TypeInner.{TypeInner}
use Rattle.naga_ir.specs.declared.types.TypeInner.TheVariants as inner
use Rattle.naga_words.specs.Reading.{read_all, read_by, reads_one, reads_pair}
use Rattle.naga_words.specs.Texts.{name_of}
use Rattle.naga_words.specs.declared.opcodes.TheConstants as code
use Rattle.naga_words.specs.Tables.{bools, dimensions, roles}
use Rattle.naga_words.specs.Operands.{◌>>=◌, array_size_of, binding_of, class_of, cooperative_size_of, handle_of, pointed_size_of, scalar_of, size_of, space_of}

-- the reader of `Vector`
abbrev pub vector_type_of : List ℕ → Option TypeInner
vector_type_of (n ∷ k ∷ w ∷ []) = do
  size ← size_of n
  scalar ← scalar_of k w
  Some (inner.Vector size scalar)
vector_type_of _ = None

-- the reader of `Matrix`
abbrev pub matrix_type_of : List ℕ → Option TypeInner
matrix_type_of (m ∷ n ∷ k ∷ w ∷ []) = do
  columns ← size_of m
  rows ← size_of n
  scalar ← scalar_of k w
  Some (inner.Matrix columns rows scalar)
matrix_type_of _ = None

-- the reader of `CooperativeMatrix`
abbrev pub cooperative_matrix_type_of : List ℕ → Option TypeInner
cooperative_matrix_type_of (m ∷ n ∷ k ∷ w ∷ r ∷ []) = do
  columns ← cooperative_size_of m
  rows ← cooperative_size_of n
  scalar ← scalar_of k w
  role ← slice_get roles r
  Some (inner.CooperativeMatrix columns rows scalar role)
cooperative_matrix_type_of _ = None

-- the reader of `Pointer`
abbrev pub pointer_type_of : List ℕ → Option TypeInner
pointer_type_of (t ∷ s ∷ x ∷ []) = do
  base ← handle_of t
  space ← space_of s x
  Some (inner.Pointer base space)
pointer_type_of _ = None

-- the reader of `ValuePointer`
abbrev pub value_pointer_type_of : List ℕ → Option TypeInner
value_pointer_type_of (n ∷ k ∷ w ∷ s ∷ x ∷ []) = do
  size ← pointed_size_of n
  scalar ← scalar_of k w
  space ← space_of s x
  Some (inner.ValuePointer size scalar space)
value_pointer_type_of _ = None

-- the reader of `Array`
abbrev pub array_type_of : List ℕ → Option TypeInner
array_type_of (t ∷ z ∷ n ∷ stride ∷ []) = do
  base ← handle_of t
  size ← array_size_of z n
  Some (inner.Array base size stride)
array_type_of _ = None

-- the reader of `Image`
abbrev pub image_type_of : List ℕ → Option TypeInner
image_type_of (d ∷ r ∷ z ∷ a ∷ b ∷ []) = do
  dim ← slice_get dimensions d
  arrayed ← slice_get bools r
  class ← class_of z a b
  Some (inner.Image dim arrayed class)
image_type_of _ = None

-- the reader of `BindingArray`
abbrev pub binding_array_type_of : List ℕ → Option TypeInner
binding_array_type_of (t ∷ z ∷ n ∷ []) = do
  base ← handle_of t
  size ← array_size_of z n
  Some (inner.BindingArray base size)
binding_array_type_of _ = None

-- the readers of types that are not structs, of the operands after the name
abbrev pub memberless_types : List (ℕ × (List ℕ → Option TypeInner))
memberless_types =
    (code.OP_SCALAR, reads_pair scalar_of inner.Scalar) ∷
    (code.OP_VECTOR, vector_type_of) ∷
    (code.OP_MATRIX, matrix_type_of) ∷
    (code.OP_COOPERATIVE_MATRIX, cooperative_matrix_type_of) ∷
    (code.OP_ATOMIC, reads_pair scalar_of inner.Atomic) ∷
    (code.OP_POINTER, pointer_type_of) ∷
    (code.OP_VALUE_POINTER, value_pointer_type_of) ∷
    (code.OP_ARRAY, array_type_of) ∷
    (code.OP_IMAGE, image_type_of) ∷
    (code.OP_SAMPLER, reads_one (slice_get bools) inner.Sampler) ∷
    (code.OP_ACCELERATION_STRUCTURE, reads_one (slice_get bools) inner.AccelerationStructure) ∷
    (code.OP_RAY_QUERY, reads_one (slice_get bools) inner.RayQuery) ∷
    (code.OP_BINDING_ARRAY, binding_array_type_of) ∷
    []

-- the member of this name, of the operands after it
abbrev pub member_of : Option (List ℕ) → List ℕ → Option StructMember
member_of name (t ∷ offset ∷ z ∷ a ∷ b ∷ []) = do
  ty ← handle_of t
  binding ← binding_of z a b
  Some (record { name = name; ty = ty; binding = binding; offset = offset })
member_of name _ = None

-- the member with which words begin, and the words after it
abbrev pub first_member : List ℕ → Option (StructMember × List ℕ)
first_member ws = do
  name ← name_of ws
  member ← member_of name.0 (take 5 name.1)
  Some (member, drop 5 name.1)

-- a struct, of its span and its members
abbrev pub struct_type_of : List ℕ → Option TypeInner
struct_type_of [] = None
struct_type_of (span ∷ ws) = do
  members ← read_all first_member ws
  Some (inner.Struct members span)

-- what a type is made of, of an opcode and the operands after its name
abbrev pub inner_of : ℕ → List ℕ → Option TypeInner
inner_of o ws = if o == code.OP_STRUCT then struct_type_of ws else read_by memberless_types o ws

-- the type of an opcode and its operands
abbrev pub type_of : ℕ → List ℕ → Option «Type»
type_of o ws = do
  name ← name_of ws
  inner ← inner_of o name.1
  Some (record { name = name.0; inner = inner })
