-- The numbers that words have for what errors hold.
use Rattle.std.specs.Prelude.{◌+◌, ◌*◌, ℕ, Bool as Boolean, true, false}
use Rattle.naga_ir.specs.declared.expression.BinaryOperator.TheVariants as binary
use Rattle.naga_ir.specs.declared.expression.BinaryOperator.{BinaryOperator}
use Rattle.naga_ir.specs.declared.expression.MathFunction.TheVariants as math
use Rattle.naga_ir.specs.declared.expression.MathFunction.{MathFunction}
use Rattle.naga_ir.specs.declared.expression.SwizzleComponent.TheVariants as component
use Rattle.naga_ir.specs.declared.expression.SwizzleComponent.{SwizzleComponent}
use Rattle.naga_ir.specs.declared.expression.UnaryOperator.TheVariants as unary
use Rattle.naga_ir.specs.declared.expression.UnaryOperator.{UnaryOperator}
use Rattle.naga_ir.specs.declared.ir.ShaderStage.TheVariants as stage
use Rattle.naga_ir.specs.declared.ir.ShaderStage.{ShaderStage}
use Rattle.naga_ir.specs.declared.storage_format.StorageFormat.TheVariants as format
use Rattle.naga_ir.specs.declared.storage_format.StorageFormat.{StorageFormat}
use Rattle.naga_ir.specs.declared.types.AddressSpace.TheVariants as space
use Rattle.naga_ir.specs.declared.types.AddressSpace.{AddressSpace}
use Rattle.naga_ir.specs.declared.types.ImageClass.TheVariants as class
use Rattle.naga_ir.specs.declared.types.ImageClass.{ImageClass}
use Rattle.naga_ir.specs.declared.types.ImageDimension.TheVariants as dimension
use Rattle.naga_ir.specs.declared.types.ImageDimension.{ImageDimension}
use Rattle.naga_ir.specs.declared.types.Interpolation.TheVariants as interpolation
use Rattle.naga_ir.specs.declared.types.Interpolation.{Interpolation}
use Rattle.naga_ir.specs.declared.types.Sampling.TheVariants as sampling
use Rattle.naga_ir.specs.declared.types.Sampling.{Sampling}
use Rattle.naga_ir.specs.declared.types.ScalarKind.TheVariants as kind
use Rattle.naga_ir.specs.declared.types.ScalarKind.{ScalarKind}
use Rattle.naga_ir.specs.declared.types.StorageAccess.{StorageAccess}

-- the number of the kind of a scalar
abbrev pub scalar_kind_number : ScalarKind → ℕ
scalar_kind_number kind.Sint = 0
scalar_kind_number kind.Uint = 1
scalar_kind_number kind.Float = 2
scalar_kind_number kind.Bool = 3
scalar_kind_number kind.AbstractInt = 4
scalar_kind_number kind.AbstractFloat = 5

-- the number of the dimension of an image
abbrev pub dimension_number : ImageDimension → ℕ
dimension_number dimension.D1 = 0
dimension_number dimension.D2 = 1
dimension_number dimension.D3 = 2
dimension_number dimension.Cube = 3

-- the number of a component of a vector
abbrev pub component_number : SwizzleComponent → ℕ
component_number component.X = 0
component_number component.Y = 1
component_number component.Z = 2
component_number component.W = 3

-- the number of an operator on one value
abbrev pub unary_operator_number : UnaryOperator → ℕ
unary_operator_number unary.Negate = 0
unary_operator_number unary.LogicalNot = 1
unary_operator_number unary.BitwiseNot = 2

-- the number of an operator on two values
abbrev pub binary_operator_number : BinaryOperator → ℕ
binary_operator_number binary.Add = 0
binary_operator_number binary.Subtract = 1
binary_operator_number binary.Multiply = 2
binary_operator_number binary.Divide = 3
binary_operator_number binary.Modulo = 4
binary_operator_number binary.Equal = 5
binary_operator_number binary.NotEqual = 6
binary_operator_number binary.Less = 7
binary_operator_number binary.LessEqual = 8
binary_operator_number binary.Greater = 9
binary_operator_number binary.GreaterEqual = 10
binary_operator_number binary.And = 11
binary_operator_number binary.ExclusiveOr = 12
binary_operator_number binary.InclusiveOr = 13
binary_operator_number binary.LogicalAnd = 14
binary_operator_number binary.LogicalOr = 15
binary_operator_number binary.ShiftLeft = 16
binary_operator_number binary.ShiftRight = 17

-- the number of a mathematical function
abbrev pub math_function_number : MathFunction → ℕ
math_function_number math.Abs = 0
math_function_number math.Min = 1
math_function_number math.Max = 2
math_function_number math.Clamp = 3
math_function_number math.Saturate = 4
math_function_number math.Cos = 5
math_function_number math.Cosh = 6
math_function_number math.Sin = 7
math_function_number math.Sinh = 8
math_function_number math.Tan = 9
math_function_number math.Tanh = 10
math_function_number math.Acos = 11
math_function_number math.Asin = 12
math_function_number math.Atan = 13
math_function_number math.Atan2 = 14
math_function_number math.Asinh = 15
math_function_number math.Acosh = 16
math_function_number math.Atanh = 17
math_function_number math.Radians = 18
math_function_number math.Degrees = 19
math_function_number math.Ceil = 20
math_function_number math.Floor = 21
math_function_number math.Round = 22
math_function_number math.Fract = 23
math_function_number math.Trunc = 24
math_function_number math.Exp = 25
math_function_number math.Exp2 = 26
math_function_number math.Log = 27
math_function_number math.Log2 = 28
math_function_number math.Pow = 29
math_function_number math.Dot = 30
math_function_number math.Cross = 31
math_function_number math.Distance = 32
math_function_number math.Length = 33
math_function_number math.Normalize = 34
math_function_number math.FaceForward = 35
math_function_number math.Reflect = 36
math_function_number math.Refract = 37
math_function_number math.Sign = 38
math_function_number math.Fma = 39
math_function_number math.Mix = 40
math_function_number math.Step = 41
math_function_number math.SmoothStep = 42
math_function_number math.Sqrt = 43
math_function_number math.InverseSqrt = 44
math_function_number math.Transpose = 45
math_function_number math.Determinant = 46
math_function_number math.QuantizeToF16 = 47
math_function_number math.CountTrailingZeros = 48
math_function_number math.CountLeadingZeros = 49
math_function_number math.CountOneBits = 50
math_function_number math.ReverseBits = 51
math_function_number math.ExtractBits = 52
math_function_number math.InsertBits = 53
math_function_number math.FirstTrailingBit = 54
math_function_number math.FirstLeadingBit = 55
math_function_number math.Pack2x16float = 56
math_function_number math.Unpack2x16float = 57
math_function_number math.Modf = 58
math_function_number math.Frexp = 59
math_function_number math.Ldexp = 60
math_function_number math.Dot4I8Packed = 61
math_function_number math.Dot4U8Packed = 62
math_function_number math.Outer = 63
math_function_number math.Inverse = 64
math_function_number math.Pack4x8snorm = 65
math_function_number math.Pack4x8unorm = 66
math_function_number math.Pack2x16snorm = 67
math_function_number math.Pack2x16unorm = 68
math_function_number math.Pack4xI8 = 69
math_function_number math.Pack4xU8 = 70
math_function_number math.Pack4xI8Clamp = 71
math_function_number math.Pack4xU8Clamp = 72
math_function_number math.Unpack4x8snorm = 73
math_function_number math.Unpack4x8unorm = 74
math_function_number math.Unpack2x16snorm = 75
math_function_number math.Unpack2x16unorm = 76
math_function_number math.Unpack4xI8 = 77
math_function_number math.Unpack4xU8 = 78

-- the number of a format of storage images
abbrev pub format_number : StorageFormat → ℕ
format_number format.R8Unorm = 0
format_number format.R8Snorm = 1
format_number format.R8Uint = 2
format_number format.R8Sint = 3
format_number format.R16Uint = 4
format_number format.R16Sint = 5
format_number format.R16Float = 6
format_number format.Rg8Unorm = 7
format_number format.Rg8Snorm = 8
format_number format.Rg8Uint = 9
format_number format.Rg8Sint = 10
format_number format.R32Uint = 11
format_number format.R32Sint = 12
format_number format.R32Float = 13
format_number format.Rg16Uint = 14
format_number format.Rg16Sint = 15
format_number format.Rg16Float = 16
format_number format.Rgba8Unorm = 17
format_number format.Rgba8Snorm = 18
format_number format.Rgba8Uint = 19
format_number format.Rgba8Sint = 20
format_number format.Bgra8Unorm = 21
format_number format.Rgb10a2Uint = 22
format_number format.Rgb10a2Unorm = 23
format_number format.Rg11b10Ufloat = 24
format_number format.R64Uint = 25
format_number format.Rg32Uint = 26
format_number format.Rg32Sint = 27
format_number format.Rg32Float = 28
format_number format.Rgba16Uint = 29
format_number format.Rgba16Sint = 30
format_number format.Rgba16Float = 31
format_number format.Rgba32Uint = 32
format_number format.Rgba32Sint = 33
format_number format.Rgba32Float = 34
format_number format.R16Unorm = 35
format_number format.R16Snorm = 36
format_number format.Rg16Unorm = 37
format_number format.Rg16Snorm = 38
format_number format.Rgba16Unorm = 39
format_number format.Rgba16Snorm = 40

-- the number of a bool
abbrev pub bool_number : Boolean → ℕ
bool_number false = 0
bool_number true = 1

-- the number of what may be done with storage: 1 for loads, 2 for stores and 4 for atomics, added
abbrev pub access_number : StorageAccess → ℕ
access_number access = bool_number access.load + 2 * bool_number access.store + 4 * bool_number access.atomic

-- the number of an address space
abbrev pub space_number : AddressSpace → ℕ
space_number space.Function = 0
space_number space.Private = 1
space_number space.WorkGroup = 2
space_number space.Uniform = 3
space_number (space.Storage _) = 4
space_number space.Handle = 5
space_number space.Immediate = 6
space_number space.TaskPayload = 7
space_number space.RayPayload = 8
space_number space.IncomingRayPayload = 9

-- the number of what may be done with an address space, which only storage has
abbrev pub space_access : AddressSpace → ℕ
space_access (space.Storage access) = access_number access
space_access _ = 0

-- the number of a class of images
abbrev pub class_number : ImageClass → ℕ
class_number (class.Sampled _ _) = 0
class_number (class.Depth _) = 1
class_number (class.Storage _ _) = 2
class_number class.External = 3

-- the first of the two words that follow the number of a class of images
abbrev pub class_first : ImageClass → ℕ
class_first (class.Sampled kind _) = scalar_kind_number kind
class_first (class.Depth multi) = bool_number multi
class_first (class.Storage format _) = format_number format
class_first class.External = 0

-- the second of them
abbrev pub class_second : ImageClass → ℕ
class_second (class.Sampled _ multi) = bool_number multi
class_second (class.Depth _) = 0
class_second (class.Storage _ access) = access_number access
class_second class.External = 0

-- the number of how the value of a fragment is made
abbrev pub interpolation_number : Interpolation → ℕ
interpolation_number interpolation.Perspective = 1
interpolation_number interpolation.Linear = 2
interpolation_number interpolation.Flat = 3
interpolation_number interpolation.PerVertex = 4

-- the number of where the value of a fragment is taken
abbrev pub sampling_number : Sampling → ℕ
sampling_number sampling.Center = 1
sampling_number sampling.Centroid = 2
sampling_number sampling.Sample = 3
sampling_number sampling.First = 4
sampling_number sampling.Either = 5

-- the number of the stage of an entry point
abbrev pub stage_number : ShaderStage → ℕ
stage_number stage.Vertex = 1
stage_number stage.Task = 2
stage_number stage.Mesh = 3
stage_number stage.Fragment = 4
stage_number stage.Compute = 5
stage_number stage.RayGeneration = 6
stage_number stage.Miss = 7
stage_number stage.AnyHit = 8
stage_number stage.ClosestHit = 9
