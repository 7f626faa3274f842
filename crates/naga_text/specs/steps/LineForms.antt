-- What the readers of one line return.
use Rattle.std.specs.Prelude.{ℕ, List, [], ◌∷◌, Option, Some, None, bytes_eq, codes, if◌then◌else◌}
use Rattle.naga_arena.specs.Numbers.{largest_u8}
use Rattle.naga_flags.specs.Bits.{all_capabilities, all_validation_flags}
use Rattle.naga_ir.specs.declared.types.Scalar.{Scalar as ScalarType}
use Rattle.naga_ir.specs.declared.types.TypeInner.{TypeInner}
use Rattle.naga_ir.specs.declared.types.TypeInner.TheVariants.{Scalar, Vector, Matrix, CooperativeMatrix, Atomic, Pointer, ValuePointer, Array, Struct, Image, Sampler, AccelerationStructure, RayQuery, BindingArray}
use Rattle.naga_text.specs.ExpressionReaders.{expression_of}
use Rattle.naga_text.specs.Tables.{bools, chosen, classes, dimensions, kinds, roles, spaces}
use Rattle.naga_text.specs.Words.{handle_of, largest_u16, number_of, number_up_to}
use Rattle.naga_text.specs.WordForms.{Reader, ◌>>=◌, array_size_of, cooperative_size_of, member_of, optional_of, pointed_size_of, read_by, read_each, size_of}
use Rattle.naga_text.specs.declared.line.FixedLine.{FixedLine}
use Rattle.naga_text.specs.declared.line.FixedLine.TheVariants.{Flags, Capabilities, Resolved, Constant, Override, Doc}
use Rattle.naga_text.specs.declared.line.Line.{Line}
use Rattle.naga_text.specs.declared.line.Line.TheVariants.{Type_, Expression, Fixed}

-- the scalar of a word for its kind and one for its width
abbrev pub scalar_of : List ℕ → List ℕ → Option ScalarType
scalar_of k w = do
  kind ← chosen kinds k
  width ← number_up_to largest_u8 w
  Some (record { kind = kind; width = width })

-- the type of the words after `scalar`
abbrev pub scalar_type_of : Reader TypeInner
scalar_type_of (k ∷ w ∷ []) = do
  scalar ← scalar_of k w
  Some (Scalar scalar)
scalar_type_of _ = None

-- the type of the words after `vector`
abbrev pub vector_of : Reader TypeInner
vector_of (n ∷ k ∷ w ∷ []) = do
  size ← size_of n
  scalar ← scalar_of k w
  Some (Vector size scalar)
vector_of _ = None

-- the type of the words after `matrix`
abbrev pub matrix_of : Reader TypeInner
matrix_of (m ∷ n ∷ k ∷ w ∷ []) = do
  columns ← size_of m
  rows ← size_of n
  scalar ← scalar_of k w
  Some (Matrix columns rows scalar)
matrix_of _ = None

-- the type of the words after `coop`
abbrev pub cooperative_matrix_of : Reader TypeInner
cooperative_matrix_of (m ∷ n ∷ k ∷ w ∷ r ∷ []) = do
  columns ← cooperative_size_of m
  rows ← cooperative_size_of n
  scalar ← scalar_of k w
  role ← chosen roles r
  Some (CooperativeMatrix columns rows scalar role)
cooperative_matrix_of _ = None

-- the type of the words after `atomic`
abbrev pub atomic_of : Reader TypeInner
atomic_of (k ∷ w ∷ []) = do
  scalar ← scalar_of k w
  Some (Atomic scalar)
atomic_of _ = None

-- the type of the words after `pointer`
abbrev pub pointer_of : Reader TypeInner
pointer_of (t ∷ s ∷ []) = do
  base ← handle_of t
  space ← chosen spaces s
  Some (Pointer base space)
pointer_of _ = None

-- the type of the words after `valuepointer`
abbrev pub value_pointer_of : Reader TypeInner
value_pointer_of (n ∷ k ∷ w ∷ s ∷ []) = do
  size ← pointed_size_of n
  scalar ← scalar_of k w
  space ← chosen spaces s
  Some (ValuePointer size scalar space)
value_pointer_of _ = None

-- the type of the words after `array`
abbrev pub array_of : Reader TypeInner
array_of (t ∷ z ∷ s ∷ []) = do
  base ← handle_of t
  size ← array_size_of z
  stride ← number_of s
  Some (Array base size stride)
array_of _ = None

-- the type of the words after `bindingarray`
abbrev pub binding_array_of : Reader TypeInner
binding_array_of (t ∷ z ∷ []) = do
  base ← handle_of t
  size ← array_size_of z
  Some (BindingArray base size)
binding_array_of _ = None

-- the type of the words after `image`
abbrev pub image_of : Reader TypeInner
image_of (d ∷ a ∷ x ∷ []) = do
  dim ← chosen dimensions d
  arrayed ← chosen bools a
  class ← chosen classes x
  Some (Image dim arrayed class)
image_of _ = None

-- the type of the words after `sampler`
abbrev pub sampler_of : Reader TypeInner
sampler_of (b ∷ []) = do
  comparison ← chosen bools b
  Some (Sampler comparison)
sampler_of _ = None

-- the type of the words after `accel`
abbrev pub acceleration_structure_of : Reader TypeInner
acceleration_structure_of (b ∷ []) = do
  vertex_return ← chosen bools b
  Some (AccelerationStructure vertex_return)
acceleration_structure_of _ = None

-- the type of the words after `rayquery`
abbrev pub ray_query_of : Reader TypeInner
ray_query_of (b ∷ []) = do
  vertex_return ← chosen bools b
  Some (RayQuery vertex_return)
ray_query_of _ = None

-- the type of the words after `struct`
abbrev pub struct_of : Reader TypeInner
struct_of [] = None
struct_of (s ∷ ws) = do
  span ← number_of s
  members ← read_each member_of ws
  Some (Struct members span)

-- the readers of the words after the form of a type that has no members
abbrev pub memberless_readers : List (List ℕ × Reader TypeInner)
memberless_readers =
    (codes "scalar", scalar_type_of) ∷
    (codes "vector", vector_of) ∷
    (codes "matrix", matrix_of) ∷
    (codes "coop", cooperative_matrix_of) ∷
    (codes "atomic", atomic_of) ∷
    (codes "pointer", pointer_of) ∷
    (codes "valuepointer", value_pointer_of) ∷
    (codes "array", array_of) ∷
    (codes "bindingarray", binding_array_of) ∷
    (codes "image", image_of) ∷
    (codes "sampler", sampler_of) ∷
    (codes "accel", acceleration_structure_of) ∷
    (codes "rayquery", ray_query_of) ∷ []

-- the readers of the words after the form of a type
abbrev pub type_readers : List (List ℕ × Reader TypeInner)
type_readers = (codes "struct", struct_of) ∷ memberless_readers

-- the type of the words after `type`
abbrev pub type_of : Reader TypeInner
type_of [] = None
type_of (form ∷ words) = read_by type_readers form words

-- what the words after `flags` say
abbrev pub flags_of : Reader FixedLine
flags_of (n ∷ []) = do
  bits ← number_up_to all_validation_flags n
  Some (Flags (record { 0 = bits }))
flags_of _ = None

-- what the words after `caps` say
abbrev pub capabilities_of : Reader FixedLine
capabilities_of (n ∷ []) = do
  bits ← number_up_to all_capabilities n
  Some (Capabilities (record { 0 = bits }))
capabilities_of _ = None

-- what the words after `resolved` say
abbrev pub resolved_of : Reader FixedLine
resolved_of [] = Some Resolved
resolved_of _ = None

-- what the words after `type` say
abbrev pub type_line_of : Reader Line
type_line_of words = do
  inner ← type_of words
  Some (Type_ inner)

-- what the words after `expr` say
abbrev pub expression_line_of : Reader Line
expression_line_of words = do
  expression ← expression_of words
  Some (Expression expression)

-- what the words after `const` say
abbrev pub constant_of : Reader FixedLine
constant_of (t ∷ e ∷ []) = do
  ty ← handle_of t
  init ← handle_of e
  Some (Constant ty init)
constant_of _ = None

-- what the words after `override` say
abbrev pub override_of : Reader FixedLine
override_of (t ∷ e ∷ i ∷ []) = do
  ty ← handle_of t
  init ← optional_of handle_of e
  id ← optional_of (number_up_to largest_u16) i
  Some (Override ty init id)
override_of _ = None

-- what the words after `doc` say
abbrev pub doc_of : Reader FixedLine
doc_of (t ∷ m ∷ []) = do
  ty ← handle_of t
  member ← handle_of m
  Some (Doc ty member)
doc_of _ = None

-- the readers of the words after the keyword of a line that has a fixed number of words
abbrev pub fixed_readers : List (List ℕ × Reader FixedLine)
fixed_readers =
    (codes "flags", flags_of) ∷
    (codes "caps", capabilities_of) ∷
    (codes "resolved", resolved_of) ∷
    (codes "const", constant_of) ∷
    (codes "override", override_of) ∷
    (codes "doc", doc_of) ∷ []

-- what the words after the keyword of a line of a fixed number of words say
abbrev pub fixed_line_of : List ℕ → Reader Line
fixed_line_of keyword words = do
  line ← read_by fixed_readers keyword words
  Some (Fixed line)

-- what words say
abbrev pub line_of : Reader Line
line_of [] = None
line_of (keyword ∷ words) =
    if bytes_eq keyword (codes "type") then type_line_of words
    else if bytes_eq keyword (codes "expr") then expression_line_of words
    else fixed_line_of keyword words
