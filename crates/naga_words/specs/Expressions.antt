-- The expressions that words say: one reader for each form, of its operands.
use Rattle.std.specs.Prelude.{◌==◌, ℕ, List, [], ◌∷◌, Option, Some, None, if◌then◌else◌, nat_lt, slice_get}
use Rattle.naga_ir.specs.declared.expression.Expression.{Expression}
use Rattle.naga_ir.specs.declared.expression.Expression.TheVariants as expression
use Rattle.naga_words.specs.Reading.{read_by, read_each, reads_five, reads_none, reads_one, reads_three, reads_triple, reads_two}
use Rattle.naga_words.specs.declared.opcodes.TheConstants as code
use Rattle.naga_words.specs.Tables.{binary_operators, bools, components, kinds, math_functions, relational_functions, unary_operators}
use Rattle.naga_words.specs.Operands.{◌>>=◌, converted_width_of, handle_of, level_of, literal_of, optional_component_of, query_of, shape_of, size_of}

-- the reader of `Swizzle`
abbrev pub swizzle_of : List ℕ → Option Expression
swizzle_of (n ∷ v ∷ a ∷ b ∷ c ∷ d ∷ []) = do
  size ← size_of n
  vector ← handle_of v
  x ← slice_get components a
  y ← slice_get components b
  z ← slice_get components c
  w ← slice_get components d
  Some (expression.Swizzle size vector (x ∷ y ∷ z ∷ w ∷ []))
swizzle_of _ = None

-- the reader of `ImageSample`
abbrev pub image_sample_of : List ℕ → Option Expression
image_sample_of (m ∷ s ∷ g ∷ c ∷ i ∷ o ∷ z ∷ a ∷ b ∷ d ∷ e ∷ []) = do
  image ← handle_of m
  sampler ← handle_of s
  gather ← optional_component_of g
  coordinate ← handle_of c
  level ← level_of z a b
  clamp ← slice_get bools e
  Some (expression.ImageSample image sampler gather coordinate (handle_of i) (handle_of o) level (handle_of d) clamp)
image_sample_of _ = None

-- the reader of `ImageQuery`
abbrev pub image_query_of : List ℕ → Option Expression
image_query_of (m ∷ z ∷ a ∷ []) = do
  image ← handle_of m
  query ← query_of z a
  Some (expression.ImageQuery image query)
image_query_of _ = None

-- the readers of the first forms, except `compose`
abbrev pub early_forms : List (ℕ × (List ℕ → Option Expression))
early_forms =
    (code.FORM_LITERAL, reads_triple literal_of expression.Literal) ∷
    (code.FORM_CONSTANT, reads_one handle_of expression.Constant) ∷
    (code.FORM_OVERRIDE, reads_one handle_of expression.Override) ∷
    (code.FORM_ZERO_VALUE, reads_one handle_of expression.ZeroValue) ∷
    (code.FORM_ACCESS, reads_two handle_of handle_of expression.Access) ∷
    (code.FORM_ACCESS_INDEX, reads_two handle_of Some expression.AccessIndex) ∷
    (code.FORM_SPLAT, reads_two size_of handle_of expression.Splat) ∷
    (code.FORM_SWIZZLE, swizzle_of) ∷
    (code.FORM_FUNCTION_ARGUMENT, reads_one Some expression.FunctionArgument) ∷
    (code.FORM_GLOBAL_VARIABLE, reads_one handle_of expression.GlobalVariable) ∷
    (code.FORM_LOCAL_VARIABLE, reads_one handle_of expression.LocalVariable) ∷
    (code.FORM_LOAD, reads_one handle_of expression.Load) ∷
    (code.FORM_IMAGE_SAMPLE, image_sample_of) ∷
    (code.FORM_IMAGE_LOAD, reads_five handle_of handle_of expression.ImageLoad) ∷
    (code.FORM_IMAGE_QUERY, image_query_of) ∷
    []

-- the reader of `CooperativeLoad`, which may say the shape of the matrix
abbrev pub cooperative_load_of : List ℕ → Option Expression
cooperative_load_of (p ∷ s ∷ []) = do
  pointer ← handle_of p
  stride ← handle_of s
  Some (expression.CooperativeLoad None pointer stride)
cooperative_load_of (p ∷ s ∷ c ∷ r ∷ o ∷ []) = do
  pointer ← handle_of p
  stride ← handle_of s
  shape ← shape_of c r o
  Some (expression.CooperativeLoad (Some shape) pointer stride)
cooperative_load_of _ = None

-- the readers of the other forms
abbrev pub late_forms : List (ℕ × (List ℕ → Option Expression))
late_forms =
    (code.FORM_UNARY, reads_two (slice_get unary_operators) handle_of expression.Unary) ∷
    (code.FORM_BINARY, reads_three (slice_get binary_operators) handle_of handle_of expression.Binary) ∷
    (code.FORM_SELECT, reads_three handle_of handle_of handle_of expression.Select) ∷
    (code.FORM_DERIVATIVE, reads_one handle_of expression.Derivative) ∷
    (code.FORM_RELATIONAL, reads_two (slice_get relational_functions) handle_of expression.Relational) ∷
    (code.FORM_MATH, reads_five (slice_get math_functions) handle_of expression.Math) ∷
    (code.FORM_AS, reads_three handle_of (slice_get kinds) converted_width_of expression.As) ∷
    (code.FORM_CALL_RESULT, reads_one handle_of expression.CallResult) ∷
    (code.FORM_ATOMIC_RESULT, reads_two handle_of (slice_get bools) expression.AtomicResult) ∷
    (code.FORM_WORKGROUP_UNIFORM_LOAD_RESULT, reads_one handle_of expression.WorkGroupUniformLoadResult) ∷
    (code.FORM_ARRAY_LENGTH, reads_one handle_of expression.ArrayLength) ∷
    (code.FORM_RAY_QUERY_PROCEED_RESULT, reads_none expression.RayQueryProceedResult) ∷
    (code.FORM_RAY_QUERY_GET_INTERSECTION, reads_two handle_of (slice_get bools) expression.RayQueryGetIntersection) ∷
    (code.FORM_RAY_QUERY_VERTEX_POSITIONS, reads_two handle_of (slice_get bools) expression.RayQueryVertexPositions) ∷
    (code.FORM_SUBGROUP_BALLOT_RESULT, reads_none expression.SubgroupBallotResult) ∷
    (code.FORM_SUBGROUP_OPERATION_RESULT, reads_one handle_of expression.SubgroupOperationResult) ∷
    (code.FORM_COOPERATIVE_LOAD, cooperative_load_of) ∷
    (code.FORM_COOPERATIVE_MULTIPLY_ADD, reads_three handle_of handle_of handle_of expression.CooperativeMultiplyAdd) ∷
    []

-- the composition of its type and its components
abbrev pub compose_of : List ℕ → Option Expression
compose_of [] = None
compose_of (t ∷ ws) = do
  ty ← handle_of t
  components ← read_each handle_of ws
  Some (expression.Compose ty components)

-- the expression of a form and its operands
abbrev pub expression_of : ℕ → List ℕ → Option Expression
expression_of z ws =
    if z == code.FORM_COMPOSE then compose_of ws
    else if nat_lt z code.FORM_UNARY then read_by early_forms z ws
    else read_by late_forms z ws
