-- Items as words: the opcode of each, and its operands.
use Rattle.std.specs.Int.{Width, w16, w32, w64, cast_unsigned, from_le_bytes}
use Rattle.std.specs.List.{AllByRecursion, position_or_len}
use Rattle.std.specs.Option.{option_eq}
use Rattle.std.specs.Prelude.{◌≢◌, false, true, zero, ◌+◌, ◌*◌, ◌/◌, ◌%◌, ◌^◌, ℕ, ℤ, ◌<◌, ◌≤◌, Bool, FitsSigned, List, [], ◌∷◌, ◌++◌, Option, Some, None, length, map, ⊤}
use Rattle.std.specs.Int.NonZero.{non_zero_u32_get}
use Rattle.std.specs.Str.{IsUtf8}
use Rattle.naga_arena.specs.Numbers.{largest_u8}
use Rattle.naga_ir.specs.BuiltIns.{number as built_in_number}
use Rattle.naga_ir.specs.Sizes.{components as component_count, cooperative_components}
use Rattle.std.specs.contracts.prelude.BoolPartialEq.TheImpl as of_bool
use Rattle.naga_ir.specs.contracts.expression.BinaryOperatorPartialEq.TheImpl as of_binary
use Rattle.naga_ir.specs.contracts.expression.MathFunctionPartialEq.TheImpl as of_math
use Rattle.naga_ir.specs.contracts.expression.RelationalFunctionPartialEq.TheImpl as of_relational
use Rattle.naga_ir.specs.contracts.expression.SwizzleComponentPartialEq.TheImpl as of_component
use Rattle.naga_ir.specs.contracts.expression.UnaryOperatorPartialEq.TheImpl as of_unary
use Rattle.naga_ir.specs.contracts.ir.EarlyDepthTestPartialEq.TheImpl as of_early
use Rattle.naga_ir.specs.contracts.ir.MemoryDecorationsPartialEq.TheImpl as of_decorations
use Rattle.naga_ir.specs.contracts.ir.MeshOutputTopologyPartialEq.TheImpl as of_topology
use Rattle.naga_ir.specs.contracts.ir.ShaderStagePartialEq.TheImpl as of_stage
use Rattle.naga_ir.specs.contracts.statement.BarrierPartialEq.TheImpl as of_barrier
use Rattle.naga_ir.specs.contracts.statement.CollectiveOperationPartialEq.TheImpl as of_collective
use Rattle.naga_ir.specs.contracts.statement.SubgroupOperationPartialEq.TheImpl as of_subgroup
use Rattle.naga_ir.specs.contracts.storage_format.StorageFormatPartialEq.TheImpl as of_format
use Rattle.naga_ir.specs.contracts.types.InterpolationPartialEq.TheImpl as of_interpolation
use Rattle.naga_ir.specs.contracts.types.SamplingPartialEq.TheImpl as of_sampling
use Rattle.naga_ir.specs.contracts.types.CooperativeRolePartialEq.TheImpl as of_role
use Rattle.naga_ir.specs.contracts.types.ImageDimensionPartialEq.TheImpl as of_dimension
use Rattle.naga_ir.specs.contracts.types.ScalarKindPartialEq.TheImpl as of_kind
use Rattle.naga_ir.specs.contracts.types.StorageAccessPartialEq.TheImpl as of_access
use Rattle.naga_ir.specs.declared.expression.CooperativeShape.{CooperativeShape}
use Rattle.naga_ir.specs.declared.expression.Expression.{Expression}
use Rattle.naga_ir.specs.declared.expression.Expression.TheVariants as expression
use Rattle.naga_ir.specs.declared.expression.ImageQuery.{ImageQuery}
use Rattle.naga_ir.specs.declared.expression.ImageQuery.TheVariants as query
use Rattle.naga_ir.specs.declared.expression.Literal.{Literal}
use Rattle.naga_ir.specs.declared.expression.Literal.TheVariants as literal
use Rattle.naga_ir.specs.declared.expression.SwizzleComponent.{SwizzleComponent}
use Rattle.naga_ir.specs.declared.expression.SampleLevel.{SampleLevel}
use Rattle.naga_ir.specs.declared.expression.SampleLevel.TheVariants as level
use Rattle.naga_ir.specs.declared.ir.GlobalVariable.{GlobalVariable}
use Rattle.naga_ir.specs.declared.ir.MeshOutputTopology.{MeshOutputTopology}
use Rattle.naga_ir.specs.declared.ir.MeshOutputTopology.TheVariants as topology
use Rattle.naga_ir.specs.declared.ir.ResourceBinding.{ResourceBinding}
use Rattle.naga_ir.specs.declared.statement.AtomicFunction.{AtomicFunction}
use Rattle.naga_ir.specs.declared.statement.AtomicFunction.TheVariants as atomic
use Rattle.naga_ir.specs.declared.statement.Barrier.{Barrier}
use Rattle.naga_ir.specs.declared.statement.CollectiveOperation.{CollectiveOperation}
use Rattle.naga_ir.specs.declared.statement.CollectiveOperation.TheVariants as collective
use Rattle.naga_ir.specs.declared.statement.GatherMode.{GatherMode}
use Rattle.naga_ir.specs.declared.statement.GatherMode.TheVariants as gather
use Rattle.naga_ir.specs.declared.statement.RayPipelineFunction.TheVariants.{TraceRay}
use Rattle.naga_ir.specs.declared.statement.RayQueryFunction.{RayQueryFunction}
use Rattle.naga_ir.specs.declared.statement.RayQueryFunction.TheVariants as step
use Rattle.naga_ir.specs.declared.statement.Statement.{Statement}
use Rattle.naga_ir.specs.declared.statement.Statement.TheVariants as statement
use Rattle.naga_ir.specs.declared.statement.SwitchValue.{SwitchValue}
use Rattle.naga_ir.specs.declared.statement.SwitchValue.TheVariants as value
use Rattle.naga_ir.specs.declared.types.AddressSpace.{AddressSpace}
use Rattle.naga_ir.specs.declared.types.AddressSpace.TheVariants as space
use Rattle.naga_ir.specs.declared.types.ArraySize.{ArraySize}
use Rattle.naga_ir.specs.declared.types.ArraySize.TheVariants as sized
use Rattle.naga_ir.specs.declared.types.Binding.{Binding}
use Rattle.naga_ir.specs.declared.types.Binding.TheVariants.{BuiltIn, Location}
use Rattle.naga_ir.specs.declared.types.ImageClass.{ImageClass}
use Rattle.naga_ir.specs.declared.types.ImageClass.TheVariants as class
use Rattle.naga_ir.specs.declared.types.Interpolation.{Interpolation}
use Rattle.naga_ir.specs.declared.types.Sampling.{Sampling}
use Rattle.naga_ir.specs.declared.types.Scalar.{Scalar}
use Rattle.naga_ir.specs.declared.types.StorageAccess.{StorageAccess}
use Rattle.naga_ir.specs.declared.types.StructMember.{StructMember}
use Rattle.naga_ir.specs.declared.types.TypeInner.{TypeInner}
use Rattle.naga_ir.specs.declared.types.TypeInner.TheVariants as inner
use Rattle.naga_ir.specs.declared.types.VectorSize.{VectorSize}
use Rattle.naga_draft.specs.declared.item.Commented.{Commented}
use Rattle.naga_draft.specs.declared.item.Commented.TheVariants as on
use Rattle.naga_draft.specs.declared.item.Item.{Item}
use Rattle.naga_draft.specs.declared.item.Item.TheVariants as item
use Rattle.naga_draft.specs.declared.item.Mark.{Mark}
use Rattle.naga_draft.specs.declared.item.Mark.TheVariants as mark
use Rattle.naga_draft.specs.declared.item.Part.{Part}
use Rattle.naga_draft.specs.declared.item.Part.TheVariants as part
use Rattle.naga_flags.specs.Bits.{all_capabilities, all_validation_flags}
use Rattle.naga_words.specs.Numbers.{largest_u16}
use Rattle.naga_words.specs.Operands.{none}
use Rattle.naga_words.specs.Tables.{accesses, barriers, binary_operators, bools, collective_operations, components, dimensions, early_depth_tests, interpolations, kinds, math_functions, memory_decorations, relational_functions, roles, samplings, stages, storage_formats, subgroup_operations, topologies, unary_operators, work_group}
use Rattle.naga_words.specs.declared.opcodes.TheConstants as code

-- a word of an item, and what has to hold so that what was written is read of it
pub record Operand : Type 1 where
  pub word : ℕ
  pub can : Type 0

-- operands, one word each
abbrev pub Operands : Type 1
Operands = List Operand

-- a number
abbrev pub number : ℕ → Operand
number n = record { word = n; can = ⊤ }

-- a number up to `most`
abbrev pub up_to : ℕ → ℕ → Operand
up_to most n = record { word = n; can = n ≤ most }

-- an index, which is not the word that stands for nothing
abbrev pub index : ℕ → Operand
index i = record { word = i; can = i ≢ none }

-- what `write` writes, or the word that stands for nothing
abbrev pub optional : {A : Type 0} → (A → Operand) → Option A → Operand
optional write None = number none
optional write (Some a) = write a

-- the place of a value in a table, by an equality of values
abbrev pub place : {A : Type 0} → (A → A → Bool) → List A → A → Operand
place eq table a = number (position_or_len (eq a) table)

-- a bool
abbrev pub bool : Bool → Operand
bool = place of_bool.ghosts.eq bools

-- the kind of a scalar and its width, before `more`
abbrev pub scalar : Scalar → Operands → Operands
scalar s more = place of_kind.ghosts.eq kinds s.kind ∷ up_to largest_u8 s.width ∷ more

-- what may be done with storage
abbrev pub access : StorageAccess → Operand
access = place of_access.ghosts.eq accesses

-- a component of a vector
abbrev pub component : SwizzleComponent → Operand
component = place of_component.ghosts.eq components

-- the size of a value pointer
abbrev pub pointed_size : Option VectorSize → Operand
pointed_size None = number 0
pointed_size (Some size) = number (component_count size)

-- an address space, and the access of storage, before `more`
abbrev pub space_operands : AddressSpace → Operands → Operands
space_operands space.Function more = number 0 ∷ number 0 ∷ more
space_operands space.Private more = number 1 ∷ number 0 ∷ more
space_operands space.WorkGroup more = number 2 ∷ number 0 ∷ more
space_operands space.Uniform more = number 3 ∷ number 0 ∷ more
space_operands (space.Storage a) more = number 4 ∷ access a ∷ more
space_operands space.Handle more = number 5 ∷ number 0 ∷ more
space_operands space.Immediate more = number 6 ∷ number 0 ∷ more
space_operands space.TaskPayload more = number 7 ∷ number 0 ∷ more
space_operands space.RayPayload more = number 8 ∷ number 0 ∷ more
space_operands space.IncomingRayPayload more = number 9 ∷ number 0 ∷ more

-- the length of an array, before `more`
abbrev pub array_size_operands : ArraySize → Operands → Operands
array_size_operands (sized.Constant n) more = number 0 ∷ number (non_zero_u32_get n) ∷ more
array_size_operands (sized.Pending o) more = number 1 ∷ index o ∷ more
array_size_operands sized.Dynamic more = number 2 ∷ number 0 ∷ more

-- the place of a value in a table that begins with none
abbrev pub place_or_none : {A : Type 0} → (A → A → Bool) → List (Option A) → Option A → ℕ
place_or_none eq table a = position_or_len (option_eq eq a) table

-- the form of a location in the lowest byte of a word, how and where its value is made in the next two, and whether it
-- is that of a primitive in the last
abbrev pub location_form : ℕ → Option Interpolation → Option Sampling → Bool → Operand
location_form form interpolation sampling per_primitive = number (
    form + 256 * place_or_none of_interpolation.ghosts.eq interpolations interpolation
    + 65536 * place_or_none of_sampling.ghosts.eq samplings sampling
    + 16777216 * position_or_len (of_bool.ghosts.eq per_primitive) bools
    )

-- a binding, or none, before `more`
abbrev pub binding_operands : Option Binding → Operands → Operands
binding_operands None more = number 0 ∷ number 0 ∷ number 0 ∷ more
binding_operands (Some (BuiltIn value)) more = number 1 ∷ number (built_in_number value) ∷ number 0 ∷ more
binding_operands (Some (Location location interpolation sampling None per_primitive)) more =
    location_form 2 interpolation sampling per_primitive ∷ number location ∷ number 0 ∷ more
binding_operands (Some (Location location interpolation sampling (Some blend_src) per_primitive)) more =
    location_form 3 interpolation sampling per_primitive ∷ number location ∷ number blend_src ∷ more

-- the binding of a resource, or none, before `more`
abbrev pub resource_operands : Option ResourceBinding → Operands → Operands
resource_operands None more = number 0 ∷ number 0 ∷ number 0 ∷ more
resource_operands (Some b) more = number 1 ∷ number b.group ∷ number b.binding ∷ more

-- the class of an image, before `more`
abbrev pub class_operands : ImageClass → Operands → Operands
class_operands (class.Sampled kind multi) more = number 0 ∷ place of_kind.ghosts.eq kinds kind ∷ bool multi ∷ more
class_operands (class.Depth multi) more = number 1 ∷ bool multi ∷ number 0 ∷ more
class_operands (class.Storage format a) more = number 2 ∷ place of_format.ghosts.eq storage_formats format ∷ access a ∷ more
class_operands class.External more = number 3 ∷ number 0 ∷ number 0 ∷ more

-- the level of a sample, before `more`
abbrev pub level_operands : SampleLevel → Operands → Operands
level_operands level.Auto more = number 0 ∷ number 0 ∷ number 0 ∷ more
level_operands level.Zero more = number 1 ∷ number 0 ∷ number 0 ∷ more
level_operands (level.Exact e) more = number 2 ∷ index e ∷ number 0 ∷ more
level_operands (level.Bias e) more = number 3 ∷ index e ∷ number 0 ∷ more
level_operands (level.Gradient x y) more = number 4 ∷ index x ∷ index y ∷ more

-- a query of an image, before `more`
abbrev pub query_operands : ImageQuery → Operands → Operands
query_operands (query.Size level) more = number 0 ∷ optional index level ∷ more
query_operands query.NumLevels more = number 1 ∷ number 0 ∷ more
query_operands query.NumLayers more = number 2 ∷ number 0 ∷ more
query_operands query.NumSamples more = number 3 ∷ number 0 ∷ more

-- a number of 64 bits, in two words
abbrev pub wide_number : ℕ → Operands
wide_number n = number (n % 2 ^ 32) ∷ number (n / 2 ^ 32) ∷ []

-- a signed number of as many bits as `width` has, in two's complement and two words
abbrev pub signed : Width → ℤ → Operands
signed width z =
    record { word = cast_unsigned width z % 2 ^ 32; can = FitsSigned width z } ∷
    number (cast_unsigned width z / 2 ^ 32) ∷ []

-- a literal: its type and its value
abbrev pub literal_operands : Literal → Operands
literal_operands (literal.F64 bits) = number 0 ∷ wide_number bits
literal_operands (literal.F32 bits) = number 1 ∷ number bits ∷ number 0 ∷ []
literal_operands (literal.F16 bits) = number 2 ∷ up_to largest_u16 bits ∷ number 0 ∷ []
literal_operands (literal.U16 value) = number 3 ∷ up_to largest_u16 value ∷ number 0 ∷ []
literal_operands (literal.I16 value) = number 4 ∷ signed w16 value
literal_operands (literal.U32 value) = number 5 ∷ number value ∷ number 0 ∷ []
literal_operands (literal.I32 value) = number 6 ∷ signed w32 value
literal_operands (literal.U64 value) = number 7 ∷ wide_number value
literal_operands (literal.I64 value) = number 8 ∷ signed w64 value
literal_operands (literal.Bool value) = number 9 ∷ bool value ∷ number 0 ∷ []
literal_operands (literal.AbstractInt value) = number 10 ∷ signed w64 value
literal_operands (literal.AbstractFloat bits) = number 11 ∷ wide_number bits

-- the words of bytes, four in each, the first of them lowest
abbrev pub packed : List ℕ → List ℕ
packed [] = []
packed (a ∷ []) = from_le_bytes w32 (a ∷ []) ∷ []
packed (a ∷ b ∷ []) = from_le_bytes w32 (a ∷ b ∷ []) ∷ []
packed (a ∷ b ∷ c ∷ []) = from_le_bytes w32 (a ∷ b ∷ c ∷ []) ∷ []
packed (a ∷ b ∷ c ∷ d ∷ rest) = from_le_bytes w32 (a ∷ b ∷ c ∷ d ∷ []) ∷ packed rest

-- a text that is UTF-8, before `more`: the number of its bytes, and the bytes
abbrev pub text_operands : List ℕ → Operands → Operands
text_operands bytes more =
    record { word = length bytes; can = IsUtf8 bytes × AllByRecursion (λ b. b < 256) bytes } ∷
    (map number (packed bytes) ++ more)

-- a name, before `more`, which is no longer than its number of bytes can say, or none
abbrev pub name_operands : Option (List ℕ) → Operands → Operands
name_operands None more = number none ∷ more
name_operands (Some bytes) more =
    record {
      word = length bytes;
      can = (length bytes < none) × IsUtf8 bytes × AllByRecursion (λ b. b < 256) bytes;
    } ∷ (map number (packed bytes) ++ more)

-- a member of a struct, before `more`
abbrev pub member_operands : StructMember → Operands → Operands
member_operands m more = name_operands m.name (index m.ty ∷ number m.offset ∷ binding_operands m.binding more)

-- the members of a struct
abbrev pub members_operands : List StructMember → Operands
members_operands [] = []
members_operands (m ∷ members) = member_operands m (members_operands members)

-- an opcode, or the number of a form, and the operands
abbrev pub Written : Type 1
Written = ℕ × Operands

-- a type after its name
abbrev pub written_inner : TypeInner → Written
written_inner (inner.Scalar s) = (code.OP_SCALAR, scalar s [])
written_inner (inner.Vector size s) = (code.OP_VECTOR, number (component_count size) ∷ scalar s [])
written_inner (inner.Matrix columns rows s) =
    (code.OP_MATRIX, number (component_count columns) ∷ number (component_count rows) ∷ scalar s [])
written_inner (inner.CooperativeMatrix columns rows s role) = (
  code.OP_COOPERATIVE_MATRIX,
  number (cooperative_components columns) ∷ number (cooperative_components rows) ∷
      scalar s (place of_role.ghosts.eq roles role ∷ []),
)
written_inner (inner.Atomic s) = (code.OP_ATOMIC, scalar s [])
written_inner (inner.Pointer base p) = (code.OP_POINTER, index base ∷ space_operands p [])
written_inner (inner.ValuePointer size s p) =
    (code.OP_VALUE_POINTER, pointed_size size ∷ scalar s (space_operands p []))
written_inner (inner.Array base size stride) =
    (code.OP_ARRAY, index base ∷ array_size_operands size (number stride ∷ []))
written_inner (inner.Struct members span) = (code.OP_STRUCT, number span ∷ members_operands members)
written_inner (inner.Image dim arrayed c) =
    (code.OP_IMAGE, place of_dimension.ghosts.eq dimensions dim ∷ bool arrayed ∷ class_operands c [])
written_inner (inner.Sampler comparison) = (code.OP_SAMPLER, bool comparison ∷ [])
written_inner (inner.AccelerationStructure vertex_return) = (code.OP_ACCELERATION_STRUCTURE, bool vertex_return ∷ [])
written_inner (inner.RayQuery vertex_return) = (code.OP_RAY_QUERY, bool vertex_return ∷ [])
written_inner (inner.BindingArray base size) = (code.OP_BINDING_ARRAY, index base ∷ array_size_operands size [])

-- what can't be written
abbrev pub never : Written
never = (0, record { word = 0; can = ⊥ } ∷ [])

-- the shape of a cooperative matrix, if it is said
abbrev pub shape_operands : Option CooperativeShape → Operands
shape_operands None = []
shape_operands (Some shape) =
    number (cooperative_components shape.columns) ∷ number (cooperative_components shape.rows) ∷
    place of_role.ghosts.eq roles shape.role ∷ []

-- an expression: the number of its form, and its operands. A swizzle's pattern has four components
abbrev pub written_expression : Expression → Written
written_expression (expression.Literal value) = (code.FORM_LITERAL, literal_operands value)
written_expression (expression.Constant constant) = (code.FORM_CONSTANT, index constant ∷ [])
written_expression (expression.Override id) = (code.FORM_OVERRIDE, index id ∷ [])
written_expression (expression.ZeroValue ty) = (code.FORM_ZERO_VALUE, index ty ∷ [])
written_expression (expression.Compose ty parts) = (code.FORM_COMPOSE, index ty ∷ map index parts)
written_expression (expression.Access base i) = (code.FORM_ACCESS, index base ∷ index i ∷ [])
written_expression (expression.AccessIndex base i) = (code.FORM_ACCESS_INDEX, index base ∷ number i ∷ [])
written_expression (expression.Splat size value) = (code.FORM_SPLAT, number (component_count size) ∷ index value ∷ [])
written_expression (expression.Swizzle size vector (x ∷ y ∷ z ∷ w ∷ [])) = (
  code.FORM_SWIZZLE,
  number (component_count size) ∷ index vector ∷ component x ∷ component y ∷ component z ∷
      component w ∷ [],
)
written_expression (expression.Swizzle size vector _) = never
written_expression (expression.FunctionArgument i) = (code.FORM_FUNCTION_ARGUMENT, number i ∷ [])
written_expression (expression.GlobalVariable variable) = (code.FORM_GLOBAL_VARIABLE, index variable ∷ [])
written_expression (expression.LocalVariable variable) = (code.FORM_LOCAL_VARIABLE, index variable ∷ [])
written_expression (expression.Load pointer) = (code.FORM_LOAD, index pointer ∷ [])
written_expression (expression.ImageSample image sampler gather coordinate array_index offset l depth_ref clamp) = (
  code.FORM_IMAGE_SAMPLE,
  index image ∷ index sampler ∷ optional component gather ∷ index coordinate ∷
      optional index array_index ∷ optional index offset ∷
      level_operands l (optional index depth_ref ∷ bool clamp ∷ []),
)
written_expression (expression.ImageLoad image coordinate array_index sample by) = (
  code.FORM_IMAGE_LOAD,
  index image ∷ index coordinate ∷ optional index array_index ∷ optional index sample ∷
      optional index by ∷ [],
)
written_expression (expression.ImageQuery image q) = (code.FORM_IMAGE_QUERY, index image ∷ query_operands q [])
written_expression (expression.Unary op value) =
    (code.FORM_UNARY, place of_unary.ghosts.eq unary_operators op ∷ index value ∷ [])
written_expression (expression.Binary op left right) =
    (code.FORM_BINARY, place of_binary.ghosts.eq binary_operators op ∷ index left ∷ index right ∷ [])
written_expression (expression.Select condition accept reject) =
    (code.FORM_SELECT, index condition ∷ index accept ∷ index reject ∷ [])
written_expression (expression.Derivative value) = (code.FORM_DERIVATIVE, index value ∷ [])
written_expression (expression.Relational fun argument) =
    (code.FORM_RELATIONAL, place of_relational.ghosts.eq relational_functions fun ∷ index argument ∷ [])
written_expression (expression.Math fun arg arg1 arg2 arg3) = (
  code.FORM_MATH,
  place of_math.ghosts.eq math_functions fun ∷ index arg ∷ optional index arg1 ∷
      optional index arg2 ∷ optional index arg3 ∷ [],
)
written_expression (expression.As value kind convert) =
    (code.FORM_AS, index value ∷ place of_kind.ghosts.eq kinds kind ∷ optional (up_to largest_u8) convert ∷ [])
written_expression (expression.CallResult function) = (code.FORM_CALL_RESULT, index function ∷ [])
written_expression (expression.AtomicResult ty comparison) = (code.FORM_ATOMIC_RESULT, index ty ∷ bool comparison ∷ [])
written_expression (expression.WorkGroupUniformLoadResult ty) = (code.FORM_WORKGROUP_UNIFORM_LOAD_RESULT, index ty ∷ [])
written_expression (expression.ArrayLength array) = (code.FORM_ARRAY_LENGTH, index array ∷ [])
written_expression expression.RayQueryProceedResult = (code.FORM_RAY_QUERY_PROCEED_RESULT, [])
written_expression (expression.RayQueryGetIntersection query committed) =
    (code.FORM_RAY_QUERY_GET_INTERSECTION, index query ∷ bool committed ∷ [])
written_expression (expression.RayQueryVertexPositions query committed) =
    (code.FORM_RAY_QUERY_VERTEX_POSITIONS, index query ∷ bool committed ∷ [])
written_expression expression.SubgroupBallotResult = (code.FORM_SUBGROUP_BALLOT_RESULT, [])
written_expression (expression.SubgroupOperationResult ty) = (code.FORM_SUBGROUP_OPERATION_RESULT, index ty ∷ [])
written_expression (expression.CooperativeLoad shape pointer stride) =
    (code.FORM_COOPERATIVE_LOAD, index pointer ∷ index stride ∷ shape_operands shape)
written_expression (expression.CooperativeMultiplyAdd a b c) =
    (code.FORM_COOPERATIVE_MULTIPLY_ADD, index a ∷ index b ∷ index c ∷ [])

-- an atomic function, before `more`
abbrev pub atomic_operands : AtomicFunction → Operands → Operands
atomic_operands atomic.Add more = number 0 ∷ number 0 ∷ more
atomic_operands atomic.Subtract more = number 1 ∷ number 0 ∷ more
atomic_operands atomic.And more = number 2 ∷ number 0 ∷ more
atomic_operands atomic.ExclusiveOr more = number 3 ∷ number 0 ∷ more
atomic_operands atomic.InclusiveOr more = number 4 ∷ number 0 ∷ more
atomic_operands atomic.Min more = number 5 ∷ number 0 ∷ more
atomic_operands atomic.Max more = number 6 ∷ number 0 ∷ more
atomic_operands (atomic.Exchange compare) more = number 7 ∷ optional index compare ∷ more

-- a step of a ray query, before `more`
abbrev pub step_operands : RayQueryFunction → Operands → Operands
step_operands (step.Initialize structure descriptor) more = number 0 ∷ index structure ∷ index descriptor ∷ more
step_operands (step.Proceed result) more = number 1 ∷ index result ∷ number 0 ∷ more
step_operands (step.GenerateIntersection hit_t) more = number 2 ∷ index hit_t ∷ number 0 ∷ more
step_operands step.ConfirmIntersection more = number 3 ∷ number 0 ∷ number 0 ∷ more
step_operands step.Terminate more = number 4 ∷ number 0 ∷ number 0 ∷ more

-- a way to gather values, before `more`
abbrev pub gather_operands : GatherMode → Operands → Operands
gather_operands gather.BroadcastFirst more = number 0 ∷ number 0 ∷ more
gather_operands (gather.Broadcast invocation) more = number 1 ∷ index invocation ∷ more
gather_operands (gather.Shuffle invocation) more = number 2 ∷ index invocation ∷ more
gather_operands (gather.ShuffleDown invocation) more = number 3 ∷ index invocation ∷ more
gather_operands (gather.ShuffleUp invocation) more = number 4 ∷ index invocation ∷ more
gather_operands (gather.ShuffleXor invocation) more = number 5 ∷ index invocation ∷ more
gather_operands (gather.QuadBroadcast invocation) more = number 6 ∷ index invocation ∷ more
gather_operands gather.QuadSwap more = number 7 ∷ number 0 ∷ more

-- the memory of a barrier, unless it is that of the workgroup alone
abbrev pub memory_operands : (is_work_group : Bool) → Barrier → Operands
memory_operands true b = []
memory_operands false b = place of_barrier.ghosts.eq barriers b ∷ []

-- the memory of a barrier, which the workgroup's needs not say
abbrev pub barrier_operands : Barrier → Operands
barrier_operands b = memory_operands (of_barrier.ghosts.eq b work_group) b

-- for which invocations a subgroup makes one value of many, unless it is for all
abbrev pub collective_operands : CollectiveOperation → Operands
collective_operands collective.Reduce = []
collective_operands op = place of_collective.ghosts.eq collective_operations op ∷ []

-- a statement without blocks
abbrev pub written_statement : Statement → Written
written_statement (statement.Emit range) = (code.STATEMENT_EMIT, number range.start ∷ number range.end ∷ [])
written_statement statement.Break = (code.STATEMENT_BREAK, [])
written_statement statement.Continue = (code.STATEMENT_CONTINUE, [])
written_statement (statement.Return value) = (code.STATEMENT_RETURN, optional index value ∷ [])
written_statement statement.Kill = (code.STATEMENT_KILL, [])
written_statement (statement.ControlBarrier barrier) = (code.STATEMENT_CONTROL_BARRIER, barrier_operands barrier)
written_statement (statement.MemoryBarrier barrier) = (code.STATEMENT_MEMORY_BARRIER, barrier_operands barrier)
written_statement (statement.Store pointer value) = (code.STATEMENT_STORE, index pointer ∷ index value ∷ [])
written_statement (statement.ImageStore image coordinate array_index value) =
    (code.STATEMENT_IMAGE_STORE, index image ∷ index coordinate ∷ optional index array_index ∷ index value ∷ [])
written_statement (statement.Atomic pointer fun value result) =
    (code.STATEMENT_ATOMIC, index pointer ∷ atomic_operands fun (index value ∷ optional index result ∷ []))
written_statement (statement.ImageAtomic image coordinate array_index fun value) = (
  code.STATEMENT_IMAGE_ATOMIC,
  index image ∷ index coordinate ∷ optional index array_index ∷
      atomic_operands fun (index value ∷ []),
)
written_statement (statement.WorkGroupUniformLoad pointer result) =
    (code.STATEMENT_WORKGROUP_UNIFORM_LOAD, index pointer ∷ index result ∷ [])
written_statement (statement.Call function arguments result) =
    (code.STATEMENT_CALL, index function ∷ optional index result ∷ map index arguments)
written_statement (statement.RayQuery query fun) = (code.STATEMENT_RAY_QUERY, index query ∷ step_operands fun [])
written_statement (statement.RayPipelineFunction (TraceRay structure descriptor payload)) =
    (code.STATEMENT_TRACE_RAY, index structure ∷ index descriptor ∷ index payload ∷ [])
written_statement (statement.SubgroupBallot result predicate) =
    (code.STATEMENT_SUBGROUP_BALLOT, index result ∷ optional index predicate ∷ [])
written_statement (statement.SubgroupGather mode argument result) =
    (code.STATEMENT_SUBGROUP_GATHER, gather_operands mode (index argument ∷ index result ∷ []))
written_statement (statement.SubgroupCollectiveOperation op collective_op argument result) = (
  code.STATEMENT_SUBGROUP_OPERATION,
  place of_subgroup.ghosts.eq subgroup_operations op ∷ index argument ∷
      index result ∷ collective_operands collective_op,
)
written_statement (statement.CooperativeStore target pointer stride) =
    (code.STATEMENT_COOPERATIVE_STORE, index target ∷ index pointer ∷ index stride ∷ [])
written_statement _ = never

-- when a case is executed, if that is said
abbrev pub value_operands : Option SwitchValue → Operands
value_operands None = []
value_operands (Some value.Default) = number 0 ∷ number 0 ∷ []
value_operands (Some (value.I32 z)) =
    number 1 ∷ record { word = cast_unsigned w32 z; can = FitsSigned w32 z } ∷ []
value_operands (Some (value.U32 n)) = number 2 ∷ number n ∷ []

-- an item of a body
abbrev pub written_mark : Mark → Written
written_mark (mark.Statement s) = written_statement s
written_mark mark.Block = (code.STATEMENT_BLOCK, [])
written_mark (mark.If condition) = (code.STATEMENT_IF, index condition ∷ [])
written_mark mark.Else = (code.STATEMENT_ELSE, [])
written_mark (mark.Switch selector) = (code.STATEMENT_SWITCH, index selector ∷ [])
written_mark (mark.Case head) = (code.STATEMENT_CASE, bool head.fall_through ∷ value_operands head.value)
written_mark mark.Loop = (code.STATEMENT_LOOP, [])
written_mark mark.Continuing = (code.STATEMENT_CONTINUING, [])
written_mark mark.End = (code.STATEMENT_END, [])
written_mark (mark.EndOfLoop condition) = (code.STATEMENT_END_LOOP, optional index condition ∷ [])

-- of what a mesh is made, and of how much at most, unless nothing of it is said
abbrev pub mesh_operands : MeshOutputTopology → ℕ → ℕ → Operands
mesh_operands topology.Points zero zero = []
mesh_operands t vertices primitives =
    place of_topology.ghosts.eq topologies t ∷ number vertices ∷ number primitives ∷ []

-- what an item says of a function or entry point. A workgroup has three sizes
abbrev pub written_part : Part → Written
written_part (part.Argument a) = (code.OP_ARGUMENT, name_operands a.name (index a.ty ∷ binding_operands a.binding []))
written_part (part.LocalVariable v) =
    (code.OP_LOCAL_VARIABLE, name_operands v.name (index v.ty ∷ optional index v.init ∷ []))
written_part (part.Result r) = (code.OP_RESULT, index r.ty ∷ binding_operands r.binding [])
written_part (part.NamedExpression expression bytes) =
    (code.OP_NAMED_EXPRESSION, text_operands bytes (index expression ∷ []))
written_part (part.FilterLeaf filter) = (code.OP_FUNCTION_FILTER_LEAF, index filter ∷ [])
written_part (part.WorkgroupSizes (x ∷ y ∷ z ∷ [])) =
    (code.OP_WORKGROUP_SIZES, optional index x ∷ optional index y ∷ optional index z ∷ [])
written_part (part.WorkgroupSizes _) = never
written_part (part.TaskPayload variable) = (code.OP_TASK_PAYLOAD, index variable ∷ [])
written_part (part.MeshOutput m) = (
  code.OP_MESH_OUTPUT,
  index m.output_variable ∷ index m.vertex_output_type ∷ index m.primitive_output_type ∷
      optional index m.max_vertices_override ∷ optional index m.max_primitives_override ∷
      mesh_operands m.topology m.max_vertices m.max_primitives,
)
written_part (part.Stage s) = (
  code.OP_STAGE,
  number (place_or_none of_stage.ghosts.eq stages s.stage) ∷
      number (place_or_none of_early.ghosts.eq early_depth_tests s.early_depth_test) ∷ [],
)
written_part (part.WorkgroupSize (x ∷ y ∷ z ∷ [])) = (code.OP_WORKGROUP_SIZE, number x ∷ number y ∷ number z ∷ [])
written_part (part.WorkgroupSize _) = never
written_part (part.Expression x) = (code.OP_EXPRESSION + (written_expression x).0, (written_expression x).1)
written_part (part.Mark m) = written_mark m

-- what a comment is on
abbrev pub written_comment : Commented → Written
written_comment (on.Type_ ty) = (code.OP_COMMENT_ON_TYPE, index ty ∷ [])
written_comment (on.Member ty i) = (code.OP_COMMENT_ON_MEMBER, index ty ∷ index i ∷ [])
written_comment (on.Function function) = (code.OP_COMMENT_ON_FUNCTION, index function ∷ [])
written_comment (on.EntryPoint i) = (code.OP_COMMENT_ON_ENTRY_POINT, index i ∷ [])
written_comment (on.Constant constant) = (code.OP_COMMENT_ON_CONSTANT, index constant ∷ [])
written_comment (on.GlobalVariable variable) = (code.OP_COMMENT_ON_GLOBAL_VARIABLE, index variable ∷ [])

-- a global variable has a binding or memory decorations
abbrev pub is_bound : Option ResourceBinding → (coherent is_volatile : Bool) → Bool
is_bound None false false = false
is_bound _ _ _ = true

-- a global variable, by whether it has a binding or memory decorations
abbrev pub written_variable : GlobalVariable → Bool → Written
written_variable v false =
    (code.OP_GLOBAL_VARIABLE, name_operands v.name (space_operands v.space (index v.ty ∷ optional index v.init ∷ [])))
written_variable v true = (
  code.OP_RESOURCE,
  name_operands v.name (space_operands v.space (
      index v.ty ∷ optional index v.init ∷
      resource_operands v.binding (place of_decorations.ghosts.eq memory_decorations v.memory_decorations ∷ [])
      )),
)

-- an item
abbrev pub written_item : Item → Written
written_item (item.Flags flags) = (code.OP_FLAGS, up_to all_validation_flags flags.0 ∷ [])
written_item (item.Capabilities c) =
    (code.OP_CAPABILITIES, record { word = c.0 % 2 ^ 32; can = c.0 ≤ all_capabilities } ∷ number (c.0 / 2 ^ 32) ∷ [])
written_item item.Resolved = (code.OP_RESOLVED, [])
written_item (item.SpecialTypes desc intersection vertex_return) =
    (code.OP_SPECIAL_TYPES, optional index desc ∷ optional index intersection ∷ optional index vertex_return ∷ [])
written_item (item.PredeclaredType ty) = (code.OP_PREDECLARED_TYPE, index ty ∷ [])
written_item (item.Filter filter) = (code.OP_FILTER, optional index filter.parent ∷ [])
written_item (item.FilterLeaf filter) = (code.OP_FILTER_LEAF, index filter ∷ [])
written_item (item.Comment on) = written_comment on
written_item (item.Type_ ty) = ((written_inner ty.inner).0, name_operands ty.name (written_inner ty.inner).1)
written_item (item.Constant c) = (code.OP_CONSTANT, name_operands c.name (index c.ty ∷ index c.init ∷ []))
written_item (item.Override o) = (
  code.OP_OVERRIDE,
  name_operands o.name (index o.ty ∷ optional index o.init ∷ optional (up_to largest_u16) o.id ∷
      []),
)
written_item (item.GlobalVariable v) =
    written_variable v (is_bound v.binding v.memory_decorations.coherent v.memory_decorations.is_volatile)
written_item (item.Expression x) = (code.OP_GLOBAL_EXPRESSION + (written_expression x).0, (written_expression x).1)
written_item (item.Function bytes) = (code.OP_FUNCTION, name_operands bytes [])
written_item (item.EntryPoint bytes) = (code.OP_ENTRY_POINT, text_operands bytes [])
written_item (item.Part p) = written_part p

-- the words of operands
abbrev pub words : Operands → List ℕ
words operands = map (λ (o : Operand). o.word) operands

-- what has to hold of operands
abbrev pub Can : Operands → Type 0
Can [] = ⊤
Can (o ∷ operands) = o.can × Can operands

-- the words of an item: its head and its operands
abbrev pub item_words : Item → List ℕ
item_words x = (length (written_item x).1 * 256 + (written_item x).0) ∷ words (written_item x).1
