-- The images and samplers that operands stand for.
use Rattle.std.specs.Prelude.{ℕ, Bool as Boolean, Option, Some, None, Result, Ok, Err, ok_or, option_and_then, option_map, slice_get}
use Rattle.naga_image_exprs.specs.declared.resource.ImageType.{ImageType}
use Rattle.naga_ir.specs.declared.expression.Expression.{Expression}
use Rattle.naga_ir.specs.declared.expression.Expression.TheVariants as form
use Rattle.naga_ir.specs.declared.ir.FunctionArgument.{FunctionArgument}
use Rattle.naga_ir.specs.declared.ir.GlobalVariable.{GlobalVariable}
use Rattle.naga_ir.specs.declared.types.TypeInner.{TypeInner}
use Rattle.naga_ir.specs.declared.types.TypeInner.TheVariants.{Image, Sampler, BindingArray}
use Rattle.naga_info.specs.Surroundings.{ExpressionSurroundings}
use Rattle.naga_info.specs.declared.expression_error.ExpressionError.{ExpressionError}
use Rattle.naga_info.specs.declared.expression_error.ExpressionError.TheVariants as refusal
use Rattle.naga_typing.specs.Resolutions.{inner_in}
use Rattle.naga_typing.specs.declared.typifier.TypeResolution.TheVariants.{Handle}

-- what follows from a value, unless there is an error
abbrev pub and_then : {A B E : Type 0} → Result A E → (A → Result B E) → Result B E
and_then (Ok value) next = next value
and_then (Err error) next = Err error

-- where a resource comes from
pub data Source : Type 0 where
  in_variable : ℕ → Source
  in_argument : ℕ → Source
  in_element : ℕ → Source
  elsewhere : Source

-- an expression stands for a variable of the module, an argument, an element of what another stands for, or no resource
abbrev pub source_of : Expression → Source
source_of (form.GlobalVariable v) = in_variable v
source_of (form.FunctionArgument i) = in_argument i
source_of (form.Access base index) = in_element base
source_of (form.AccessIndex base index) = in_element base
source_of (form.Literal value) = elsewhere
source_of (form.Constant c) = elsewhere
source_of (form.Override o) = elsewhere
source_of (form.ZeroValue ty) = elsewhere
source_of (form.Compose ty components) = elsewhere
source_of (form.Splat size value) = elsewhere
source_of (form.Swizzle size vector pattern) = elsewhere
source_of (form.LocalVariable v) = elsewhere
source_of (form.Load pointer) = elsewhere
source_of (form.ImageSample image sampler gather coordinate array_index offset level depth_ref clamp_to_edge) =
    elsewhere
source_of (form.ImageLoad image coordinate array_index sample level) = elsewhere
source_of (form.ImageQuery image query) = elsewhere
source_of (form.Unary op expr) = elsewhere
source_of (form.Binary op left right) = elsewhere
source_of (form.Select condition accept reject) = elsewhere
source_of (form.Derivative expr) = elsewhere
source_of (form.Relational fun argument) = elsewhere
source_of (form.Math fun arg arg1 arg2 arg3) = elsewhere
source_of (form.As expr kind convert) = elsewhere
source_of (form.CallResult f) = elsewhere
source_of (form.AtomicResult ty comparison) = elsewhere
source_of (form.WorkGroupUniformLoadResult ty) = elsewhere
source_of (form.ArrayLength expr) = elsewhere
source_of form.RayQueryProceedResult = elsewhere
source_of (form.RayQueryGetIntersection query committed) = elsewhere
source_of (form.RayQueryVertexPositions query committed) = elsewhere
source_of form.SubgroupBallotResult = elsewhere
source_of (form.SubgroupOperationResult ty) = elsewhere
source_of (form.CooperativeLoad shape pointer stride) = elsewhere
source_of (form.CooperativeMultiplyAdd a b c) = elsewhere

-- what an expression stands for, which may not be there
abbrev pub source_in : Option Expression → Source
source_in None = elsewhere
source_in (Some x) = source_of x

-- the type of a variable of the module
abbrev pub variable_type : ExpressionSurroundings → ℕ → Option ℕ
variable_type s v = option_map (λ (x : GlobalVariable). x.ty) (slice_get s.«module».global_variables v)

-- the type of an argument
abbrev pub argument_type : ExpressionSurroundings → ℕ → Option ℕ
argument_type s i = option_map (λ (x : FunctionArgument). x.ty) (slice_get s.function.arguments i)

-- the type of the bindings of a binding array; other types have none
abbrev pub binding_of : TypeInner → Option ℕ
binding_of (BindingArray base size) = Some base
binding_of _ = None

-- the type of an element of a value of a type, which has to be a binding array
abbrev pub binding_type : ExpressionSurroundings → ℕ → Result ℕ ExpressionError
binding_type s array =
    ok_or (option_and_then binding_of (inner_in s.«module».types (Handle array)))
    (refusal.ExpectedBindingArrayType array)

-- the type of an element of a variable of the module
abbrev pub element_of_variable : ExpressionSurroundings → ℕ → Result ℕ ExpressionError
element_of_variable s v = and_then (ok_or (variable_type s v) refusal.ExpectedGlobalVariable) (binding_type s)

-- the type of an element of what comes from a source, which has to be a variable of the module
abbrev pub element_of : ExpressionSurroundings → Source → Result ℕ ExpressionError
element_of s (in_variable v) = element_of_variable s v
element_of _ _ = Err refusal.ExpectedGlobalVariable

-- the type of an element of what an expression stands for
abbrev pub element_type : ExpressionSurroundings → ℕ → Result ℕ ExpressionError
element_type s base = element_of s (source_in (slice_get s.function.expressions base))

-- the type of the resource that comes from a source
abbrev pub type_of_source : ExpressionSurroundings → Source → Result ℕ ExpressionError
type_of_source s (in_variable v) = ok_or (variable_type s v) refusal.ExpectedGlobalVariable
type_of_source s (in_argument i) = ok_or (argument_type s i) refusal.ExpectedGlobalVariable
type_of_source s (in_element base) = element_type s base
type_of_source s elsewhere = Err refusal.ExpectedGlobalVariable

-- the type of the resource that an expression stands for
abbrev pub resource_type : ExpressionSurroundings → ℕ → Result ℕ ExpressionError
resource_type s e = type_of_source s (source_in (slice_get s.function.expressions e))

-- dimension, `arrayed` and class of a type, if it is an image
abbrev pub image_of : TypeInner → Option ImageType
image_of (Image dim arrayed class) = Some (record { dim = dim; arrayed = arrayed; class = class })
image_of _ = None

-- dimension, `arrayed` and class of the type of index `ty`, or the error if it is not an image
abbrev pub image_type : ExpressionSurroundings → ℕ → Result ImageType ExpressionError
image_type s ty =
    ok_or (option_and_then image_of (inner_in s.«module».types (Handle ty))) (refusal.ExpectedImageType ty)

-- the image that an expression stands for
abbrev pub image_at : ExpressionSurroundings → ℕ → Result ImageType ExpressionError
image_at s image = and_then (resource_type s image) (image_type s)

-- whether a sampler compares, if a type is a sampler
abbrev pub sampler_of : TypeInner → Option Boolean
sampler_of (Sampler comparison) = Some comparison
sampler_of _ = None

-- whether the sampler of a type compares
abbrev pub sampler_comparison : ExpressionSurroundings → ℕ → Result Boolean ExpressionError
sampler_comparison s ty =
    ok_or (option_and_then sampler_of (inner_in s.«module».types (Handle ty))) (refusal.ExpectedSamplerType ty)
