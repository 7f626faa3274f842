-- The values that words stand for: a word is the place of its value in a table.
use Rattle.std.specs.Prelude.{Bool as Boolean, true, false, List, [], ◌∷◌, Option, None, Some}
use Rattle.naga_ir.specs.declared.expression.BinaryOperator.{BinaryOperator}
use Rattle.naga_ir.specs.declared.expression.BinaryOperator.TheVariants as binary
use Rattle.naga_ir.specs.declared.expression.MathFunction.{MathFunction}
use Rattle.naga_ir.specs.declared.expression.MathFunction.TheVariants as math
use Rattle.naga_ir.specs.declared.expression.RelationalFunction.{RelationalFunction}
use Rattle.naga_ir.specs.declared.expression.RelationalFunction.TheVariants as relational
use Rattle.naga_ir.specs.declared.expression.SwizzleComponent.{SwizzleComponent}
use Rattle.naga_ir.specs.declared.expression.SwizzleComponent.TheVariants.{X, Y, Z, W}
use Rattle.naga_ir.specs.declared.expression.UnaryOperator.{UnaryOperator}
use Rattle.naga_ir.specs.declared.expression.UnaryOperator.TheVariants as unary
use Rattle.naga_ir.specs.declared.ir.ConservativeDepth.TheVariants.{GreaterEqual, LessEqual, Unchanged}
use Rattle.naga_ir.specs.declared.ir.EarlyDepthTest.{EarlyDepthTest}
use Rattle.naga_ir.specs.declared.ir.EarlyDepthTest.TheVariants.{Allow, Force}
use Rattle.naga_ir.specs.declared.ir.MemoryDecorations.{MemoryDecorations}
use Rattle.naga_ir.specs.declared.ir.MeshOutputTopology.{MeshOutputTopology}
use Rattle.naga_ir.specs.declared.ir.MeshOutputTopology.TheVariants as topology
use Rattle.naga_ir.specs.declared.ir.ShaderStage.{ShaderStage}
use Rattle.naga_ir.specs.declared.ir.ShaderStage.TheVariants as stage
use Rattle.naga_ir.specs.declared.statement.Barrier.{Barrier}
use Rattle.naga_ir.specs.declared.statement.CollectiveOperation.{CollectiveOperation}
use Rattle.naga_ir.specs.declared.statement.CollectiveOperation.TheVariants as collective
use Rattle.naga_ir.specs.declared.storage_format.StorageFormat.{StorageFormat}
use Rattle.naga_ir.specs.declared.storage_format.StorageFormat.TheVariants as format
use Rattle.naga_ir.specs.declared.types.Interpolation.{Interpolation}
use Rattle.naga_ir.specs.declared.types.Interpolation.TheVariants as interpolation
use Rattle.naga_ir.specs.declared.types.Sampling.{Sampling}
use Rattle.naga_ir.specs.declared.types.Sampling.TheVariants as sampling
use Rattle.naga_ir.specs.declared.statement.SubgroupOperation.{SubgroupOperation}
use Rattle.naga_ir.specs.declared.statement.SubgroupOperation.TheVariants as subgroup
use Rattle.naga_ir.specs.declared.types.CooperativeRole.{CooperativeRole}
use Rattle.naga_ir.specs.declared.types.CooperativeRole.TheVariants as role
use Rattle.naga_ir.specs.declared.types.ImageDimension.{ImageDimension}
use Rattle.naga_ir.specs.declared.types.ImageDimension.TheVariants.{D1, D2, D3, Cube}
use Rattle.naga_ir.specs.declared.types.ScalarKind.{ScalarKind}
use Rattle.naga_ir.specs.declared.types.StorageAccess.{StorageAccess}
use Rattle.naga_ir.specs.declared.types.ScalarKind.TheVariants.{Sint, Uint, Float, Bool, AbstractInt, AbstractFloat}

-- the bools
abbrev pub bools : List Boolean
bools = false ∷ true ∷ []

-- the kinds of scalars
abbrev pub kinds : List ScalarKind
kinds = Sint ∷ Uint ∷ Float ∷ Bool ∷ AbstractInt ∷ AbstractFloat ∷ []

-- the operands that cooperative matrices are
abbrev pub roles : List CooperativeRole
roles = role.A ∷ role.B ∷ role.C ∷ []

-- what may be done with storage: of three bits the first says that values may be loaded, the second
-- stored, the third changed by atomics
abbrev pub accesses : List StorageAccess
accesses =
    record { load = false; store = false; atomic = false } ∷
    record { load = true; store = false; atomic = false } ∷
    record { load = false; store = true; atomic = false } ∷
    record { load = true; store = true; atomic = false } ∷
    record { load = false; store = false; atomic = true } ∷
    record { load = true; store = false; atomic = true } ∷
    record { load = false; store = true; atomic = true } ∷
    record { load = true; store = true; atomic = true } ∷
    []

-- the dimensions of images
abbrev pub dimensions : List ImageDimension
dimensions = D1 ∷ D2 ∷ D3 ∷ Cube ∷ []

-- the components of vectors
abbrev pub components : List SwizzleComponent
components = X ∷ Y ∷ Z ∷ W ∷ []

-- the operators on one value
abbrev pub unary_operators : List UnaryOperator
unary_operators = unary.Negate ∷ unary.LogicalNot ∷ unary.BitwiseNot ∷ []

-- the operators on two values
abbrev pub binary_operators : List BinaryOperator
binary_operators =
    binary.Add ∷
    binary.Subtract ∷
    binary.Multiply ∷
    binary.Divide ∷
    binary.Modulo ∷
    binary.Equal ∷
    binary.NotEqual ∷
    binary.Less ∷
    binary.LessEqual ∷
    binary.Greater ∷
    binary.GreaterEqual ∷
    binary.And ∷
    binary.ExclusiveOr ∷
    binary.InclusiveOr ∷
    binary.LogicalAnd ∷
    binary.LogicalOr ∷
    binary.ShiftLeft ∷
    binary.ShiftRight ∷
    []

-- the relational functions
abbrev pub relational_functions : List RelationalFunction
relational_functions =
    relational.All ∷
    relational.Any ∷
    relational.IsNan ∷
    relational.IsInf ∷
    []

-- the mathematical functions
abbrev pub math_functions : List MathFunction
math_functions =
    math.Abs ∷
    math.Min ∷
    math.Max ∷
    math.Clamp ∷
    math.Saturate ∷
    math.Cos ∷
    math.Cosh ∷
    math.Sin ∷
    math.Sinh ∷
    math.Tan ∷
    math.Tanh ∷
    math.Acos ∷
    math.Asin ∷
    math.Atan ∷
    math.Atan2 ∷
    math.Asinh ∷
    math.Acosh ∷
    math.Atanh ∷
    math.Radians ∷
    math.Degrees ∷
    math.Ceil ∷
    math.Floor ∷
    math.Round ∷
    math.Fract ∷
    math.Trunc ∷
    math.Exp ∷
    math.Exp2 ∷
    math.Log ∷
    math.Log2 ∷
    math.Pow ∷
    math.Dot ∷
    math.Cross ∷
    math.Distance ∷
    math.Length ∷
    math.Normalize ∷
    math.FaceForward ∷
    math.Reflect ∷
    math.Refract ∷
    math.Sign ∷
    math.Fma ∷
    math.Mix ∷
    math.Step ∷
    math.SmoothStep ∷
    math.Sqrt ∷
    math.InverseSqrt ∷
    math.Transpose ∷
    math.Determinant ∷
    math.QuantizeToF16 ∷
    math.CountTrailingZeros ∷
    math.CountLeadingZeros ∷
    math.CountOneBits ∷
    math.ReverseBits ∷
    math.ExtractBits ∷
    math.InsertBits ∷
    math.FirstTrailingBit ∷
    math.FirstLeadingBit ∷
    math.Pack2x16float ∷
    math.Unpack2x16float ∷
    math.Modf ∷
    math.Frexp ∷
    math.Ldexp ∷
    math.Dot4I8Packed ∷
    math.Dot4U8Packed ∷
    math.Outer ∷
    math.Inverse ∷
    math.Pack4x8snorm ∷
    math.Pack4x8unorm ∷
    math.Pack2x16snorm ∷
    math.Pack2x16unorm ∷
    math.Pack4xI8 ∷
    math.Pack4xU8 ∷
    math.Pack4xI8Clamp ∷
    math.Pack4xU8Clamp ∷
    math.Unpack4x8snorm ∷
    math.Unpack4x8unorm ∷
    math.Unpack2x16snorm ∷
    math.Unpack2x16unorm ∷
    math.Unpack4xI8 ∷
    math.Unpack4xU8 ∷
    []

-- the operations of subgroups
abbrev pub subgroup_operations : List SubgroupOperation
subgroup_operations =
    subgroup.All ∷
    subgroup.Any ∷
    subgroup.Add ∷
    subgroup.Mul ∷
    subgroup.Min ∷
    subgroup.Max ∷
    subgroup.And ∷
    subgroup.Or ∷
    subgroup.Xor ∷
    []

-- how the value of a fragment is made, if that is said
abbrev pub interpolations : List (Option Interpolation)
interpolations =
    None ∷
    Some interpolation.Perspective ∷
    Some interpolation.Linear ∷
    Some interpolation.Flat ∷
    Some interpolation.PerVertex ∷
    []

-- where the value of a fragment is taken, if that is said
abbrev pub samplings : List (Option Sampling)
samplings =
    None ∷
    Some sampling.Center ∷
    Some sampling.Centroid ∷
    Some sampling.Sample ∷
    Some sampling.First ∷
    Some sampling.Either ∷
    []

-- the formats of storage images
abbrev pub storage_formats : List StorageFormat
storage_formats =
    format.R8Unorm ∷
    format.R8Snorm ∷
    format.R8Uint ∷
    format.R8Sint ∷
    format.R16Uint ∷
    format.R16Sint ∷
    format.R16Float ∷
    format.Rg8Unorm ∷
    format.Rg8Snorm ∷
    format.Rg8Uint ∷
    format.Rg8Sint ∷
    format.R32Uint ∷
    format.R32Sint ∷
    format.R32Float ∷
    format.Rg16Uint ∷
    format.Rg16Sint ∷
    format.Rg16Float ∷
    format.Rgba8Unorm ∷
    format.Rgba8Snorm ∷
    format.Rgba8Uint ∷
    format.Rgba8Sint ∷
    format.Bgra8Unorm ∷
    format.Rgb10a2Uint ∷
    format.Rgb10a2Unorm ∷
    format.Rg11b10Ufloat ∷
    format.R64Uint ∷
    format.Rg32Uint ∷
    format.Rg32Sint ∷
    format.Rg32Float ∷
    format.Rgba16Uint ∷
    format.Rgba16Sint ∷
    format.Rgba16Float ∷
    format.Rgba32Uint ∷
    format.Rgba32Sint ∷
    format.Rgba32Float ∷
    format.R16Unorm ∷
    format.R16Snorm ∷
    format.Rg16Unorm ∷
    format.Rg16Snorm ∷
    format.Rgba16Unorm ∷
    format.Rgba16Snorm ∷
    []

-- nothing more holds of each access to a variable than of any
abbrev pub undecorated : MemoryDecorations
undecorated = record { coherent = false; is_volatile = false }

-- what holds of each access to a variable: of two bits the first says that the accesses are coherent, the second that
-- the value is volatile
abbrev pub memory_decorations : List MemoryDecorations
memory_decorations =
    record { coherent = false; is_volatile = false } ∷
    record { coherent = true; is_volatile = false } ∷
    record { coherent = false; is_volatile = true } ∷
    record { coherent = true; is_volatile = true } ∷
    []

-- the stages of pipelines, or none
abbrev pub stages : List (Option ShaderStage)
stages =
    None ∷
    Some stage.Vertex ∷
    Some stage.Task ∷
    Some stage.Mesh ∷
    Some stage.Fragment ∷
    Some stage.Compute ∷
    Some stage.RayGeneration ∷
    Some stage.Miss ∷
    Some stage.AnyHit ∷
    Some stage.ClosestHit ∷
    []

-- whether depths are tested early, if that is said
abbrev pub early_depth_tests : List (Option EarlyDepthTest)
early_depth_tests =
    None ∷
    Some Force ∷
    Some (Allow GreaterEqual) ∷
    Some (Allow LessEqual) ∷
    Some (Allow Unchanged) ∷
    []

-- what the primitives of meshes are
abbrev pub topologies : List MeshOutputTopology
topologies = topology.Points ∷ topology.Lines ∷ topology.Triangles ∷ []

-- for which invocations a subgroup makes one value of many
abbrev pub collective_operations : List CollectiveOperation
collective_operations = collective.Reduce ∷ collective.InclusiveScan ∷ collective.ExclusiveScan ∷ []

-- the memory of the workgroup alone
abbrev pub work_group : Barrier
work_group = record { storage = false; work_group = true; sub_group = false; texture = false }

-- the memory that barriers are for: of four bits the first says that it is that of storage buffers, the second of the
-- workgroup, the third of the subgroup, the fourth of storage images
abbrev pub barriers : List Barrier
barriers =
    record { storage = false; work_group = false; sub_group = false; texture = false } ∷
    record { storage = true; work_group = false; sub_group = false; texture = false } ∷
    record { storage = false; work_group = true; sub_group = false; texture = false } ∷
    record { storage = true; work_group = true; sub_group = false; texture = false } ∷
    record { storage = false; work_group = false; sub_group = true; texture = false } ∷
    record { storage = true; work_group = false; sub_group = true; texture = false } ∷
    record { storage = false; work_group = true; sub_group = true; texture = false } ∷
    record { storage = true; work_group = true; sub_group = true; texture = false } ∷
    record { storage = false; work_group = false; sub_group = false; texture = true } ∷
    record { storage = true; work_group = false; sub_group = false; texture = true } ∷
    record { storage = false; work_group = true; sub_group = false; texture = true } ∷
    record { storage = true; work_group = true; sub_group = false; texture = true } ∷
    record { storage = false; work_group = false; sub_group = true; texture = true } ∷
    record { storage = true; work_group = false; sub_group = true; texture = true } ∷
    record { storage = false; work_group = true; sub_group = true; texture = true } ∷
    record { storage = true; work_group = true; sub_group = true; texture = true } ∷
    []
