-- The values that errors hold, outermost error first: handles as indices, numbers as they are, capabilities as bits,
-- and the rest by the numbers that words have. Types and texts are left out.
use Rattle.std.specs.Prelude.{ℕ, List, [], ◌∷◌, length}
use Rattle.naga_types.specs.declared.error.VaryingError.{VaryingError}
use Rattle.naga_types.specs.declared.error.VaryingError.TheVariants as varying_error
use Rattle.naga_flags.specs.declared.width.WidthError.{WidthError}
use Rattle.naga_flags.specs.declared.width.WidthError.TheVariants as width_error
use Rattle.naga_types.specs.declared.error.ComposeError.{ComposeError}
use Rattle.naga_types.specs.declared.error.ComposeError.TheVariants as compose_error
use Rattle.naga_info.specs.declared.const_expression_error.LiteralError.{LiteralError}
use Rattle.naga_info.specs.declared.const_expression_error.LiteralError.TheVariants as literal_error
use Rattle.naga_types.specs.declared.error.TypeError.{TypeError}
use Rattle.naga_types.specs.declared.error.TypeError.TheVariants as type_error
use Rattle.naga_info.specs.declared.const_expression_error.ConstExpressionError.{ConstExpressionError}
use Rattle.naga_info.specs.declared.const_expression_error.ConstExpressionError.TheVariants as const_expression_error
use Rattle.naga_info.specs.declared.expression_error.ExpressionError.{ExpressionError}
use Rattle.naga_info.specs.declared.expression_error.ExpressionError.TheVariants as expression_error
use Rattle.naga_handles.specs.declared.error.InvalidHandleError.{InvalidHandleError}
use Rattle.naga_handles.specs.declared.error.InvalidHandleError.TheVariants as handle_error
use Rattle.naga_valid.specs.declared.error.OverrideError.{OverrideError}
use Rattle.naga_valid.specs.declared.error.OverrideError.TheVariants as override_error
use Rattle.naga_ir.specs.BuiltIns.{number}
use Rattle.naga_ir.specs.Sizes.{components}
use Rattle.naga_c.specs.Kinds.{capability_named, scalar_named}
use Rattle.naga_c.specs.Numbers.{access_number, binary_operator_number, bool_number, class_first, class_number, class_second, component_number, dimension_number, format_number, interpolation_number, math_function_number, sampling_number, scalar_kind_number, space_access, space_number, stage_number, unary_operator_number}
use Rattle.naga_c.specs.declared.values.Values.{Values}

-- the first five of a list, and 0 for each that it doesn't have
abbrev pub five : List ℕ → List ℕ
five [] = 0 ∷ 0 ∷ 0 ∷ 0 ∷ 0 ∷ []
five (a ∷ []) = a ∷ 0 ∷ 0 ∷ 0 ∷ 0 ∷ []
five (a ∷ b ∷ []) = a ∷ b ∷ 0 ∷ 0 ∷ 0 ∷ []
five (a ∷ b ∷ c ∷ []) = a ∷ b ∷ c ∷ 0 ∷ 0 ∷ []
five (a ∷ b ∷ c ∷ d ∷ []) = a ∷ b ∷ c ∷ d ∷ 0 ∷ []
five (a ∷ b ∷ c ∷ d ∷ e ∷ more) = a ∷ b ∷ c ∷ d ∷ e ∷ []

-- the values of a list, which has at most five
abbrev pub counted : List ℕ → Values
counted xs = record { count = length xs; items = five xs }

-- the values of an error of handles
abbrev pub handle_error_values : InvalidHandleError → List ℕ
handle_error_values (handle_error.BadHandle e) = e.index ∷ []
handle_error_values (handle_error.ForwardDependency e) = e.subject ∷ e.depends_on ∷ []
handle_error_values (handle_error.BadRange e) = e.start ∷ e.end ∷ []

-- the values of why an input or output is refused, or why a struct can't have its blend sources
abbrev pub varying_error_values : VaryingError → List ℕ
varying_error_values (varying_error.InvalidBlendSrcIndex location blend_src) = location ∷ blend_src ∷ []
varying_error_values (varying_error.BindingCollisionBlendSrc blend_src) = blend_src ∷ []
varying_error_values (varying_error.InvalidBlendSrcWithOtherBindings location) = location ∷ []
varying_error_values (varying_error.BlendSrcOutputTypeMismatch first second) = first ∷ second ∷ []
varying_error_values (varying_error.NotIOShareableType ty) = ty ∷ []
varying_error_values (varying_error.IncompleteBlendSrcUsage blend_src) = blend_src ∷ []
varying_error_values (varying_error.InvalidType ty) = ty ∷ []
varying_error_values varying_error.InvalidInterpolation = []
varying_error_values (varying_error.InvalidInterpolationSamplingCombination interpolation sampling) =
    interpolation_number interpolation ∷ sampling_number sampling ∷ []
varying_error_values varying_error.MissingInterpolation = []
varying_error_values (varying_error.InvalidBuiltInStage value) = number value ∷ []
varying_error_values (varying_error.InvalidBuiltInType value) = number value ∷ []
varying_error_values varying_error.MissingBinding = []
varying_error_values (varying_error.MemberMissingBinding index) = index ∷ []
varying_error_values (varying_error.BindingCollision location) = location ∷ []
varying_error_values (varying_error.DuplicateBuiltIn value) = number value ∷ []
varying_error_values (varying_error.UnsupportedCapability capabilities) = capabilities.0 ∷ []
varying_error_values (varying_error.InvalidInputAttributeInStage stage) = stage_number stage ∷ []
varying_error_values (varying_error.InvalidAttributeInStage stage) = stage_number stage ∷ []
varying_error_values varying_error.InvalidMultiDimensionalSubgroupBuiltIn = []
varying_error_values varying_error.InvalidPerPrimitive = []
varying_error_values varying_error.OutOfMemory = []

-- the values of why a width is refused
abbrev pub width_error_values : WidthError → List ℕ
width_error_values (width_error.Invalid kind width) = scalar_kind_number kind ∷ width ∷ []
width_error_values (width_error.MissingCapability name flag) =
    let scalar = scalar_named name in scalar_kind_number scalar.kind ∷ scalar.width ∷ capability_named flag ∷ []
width_error_values width_error.Abstract = []

-- the values of why a value can't be composed
abbrev pub compose_error_values : ComposeError → List ℕ
compose_error_values (compose_error.Type_ ty) = ty ∷ []
compose_error_values (compose_error.ComponentCount given expected) = given ∷ expected ∷ []
compose_error_values (compose_error.ComponentType index) = index ∷ []

-- the values of why a literal is refused
abbrev pub literal_error_values : LiteralError → List ℕ
literal_error_values (literal_error.Width error) = width_error_values error

-- the values of why a type is refused
abbrev pub type_error_values : TypeError → List ℕ
type_error_values (type_error.MissingCapability capabilities) = capabilities.0 ∷ []
type_error_values (type_error.InvalidAtomicWidth kind width) = scalar_kind_number kind ∷ width ∷ []
type_error_values (type_error.InvalidPointerBase base) = base ∷ []
type_error_values (type_error.InvalidPointerToUnsized base space) = base ∷ space_number space ∷ space_access space ∷ []
type_error_values (type_error.InvalidData ty) = ty ∷ []
type_error_values (type_error.InvalidArrayBaseType base) = base ∷ []
type_error_values type_error.MatrixElementNotFloat = []
type_error_values (type_error.UnsupportedSpecializedArrayLength constant) = constant ∷ []
type_error_values (type_error.UnsupportedImageType dim arrayed class) =
    dimension_number dim ∷ bool_number arrayed ∷ class_number class ∷ class_first class ∷ class_second class ∷ []
type_error_values (type_error.InvalidArrayStride stride expected) = stride ∷ expected ∷ []
type_error_values (type_error.InvalidDynamicArray _ ty) = ty ∷ []
type_error_values (type_error.BindingArrayBaseTypeNotStruct base) = base ∷ []
type_error_values type_error.BindingArrayBaseExternalTextures = []
type_error_values (type_error.MemberOverlap index offset) = index ∷ offset ∷ []
type_error_values (type_error.MemberOutOfBounds index offset size span) = index ∷ offset ∷ size ∷ span ∷ []
type_error_values type_error.EmptyStruct = []
type_error_values (type_error.InvalidBlendSrc error) = varying_error_values error
type_error_values (type_error.WidthError error) = width_error_values error
type_error_values (type_error.UnresolvedOverride base) = base ∷ []
type_error_values (type_error.InvalidArraySize base) = base ∷ []
type_error_values type_error.OutOfMemory = []

-- the values of why a global expression is refused
abbrev pub const_expression_error_values : ConstExpressionError → List ℕ
const_expression_error_values (const_expression_error.Compose error) = compose_error_values error
const_expression_error_values (const_expression_error.InvalidSplatType operand) = operand ∷ []
const_expression_error_values (const_expression_error.Literal error) = literal_error_values error
const_expression_error_values (const_expression_error.Width error) = width_error_values error
const_expression_error_values _ = []

-- the values of why an override is refused
abbrev pub override_error_values : OverrideError → List ℕ
override_error_values (override_error.ConstExpression handle source) = handle ∷ const_expression_error_values source
override_error_values _ = []

-- the values of why an expression of a function is refused
abbrev pub expression_error_values : ExpressionError → List ℕ
expression_error_values (expression_error.InvalidBaseType operand) = operand ∷ []
expression_error_values (expression_error.InvalidIndexType operand) = operand ∷ []
expression_error_values (expression_error.NegativeIndex operand) = operand ∷ []
expression_error_values (expression_error.IndexOutOfBounds base index) = base ∷ index ∷ []
expression_error_values (expression_error.FunctionArgumentDoesntExist index) = index ∷ []
expression_error_values (expression_error.InvalidPointerType operand) = operand ∷ []
expression_error_values (expression_error.InvalidArrayType operand) = operand ∷ []
expression_error_values (expression_error.InvalidRayQueryType operand) = operand ∷ []
expression_error_values (expression_error.InvalidSplatType operand) = operand ∷ []
expression_error_values (expression_error.InvalidVectorType operand) = operand ∷ []
expression_error_values (expression_error.InvalidSwizzleComponent component size) =
    component_number component ∷ components size ∷ []
expression_error_values (expression_error.Compose error) = compose_error_values error
expression_error_values (expression_error.InvalidZeroValue ty) = ty ∷ []
expression_error_values (expression_error.InvalidUnaryOperandType op operand) = unary_operator_number op ∷ operand ∷ []
expression_error_values (expression_error.InvalidBinaryOperandTypes op lhs _ rhs _) =
    binary_operator_number op ∷ lhs ∷ rhs ∷ []
expression_error_values (expression_error.InvalidBooleanVector operand) = operand ∷ []
expression_error_values (expression_error.InvalidFloatArgument operand) = operand ∷ []
expression_error_values (expression_error.ExpectedBindingArrayType ty) = ty ∷ []
expression_error_values (expression_error.ExpectedImageType ty) = ty ∷ []
expression_error_values (expression_error.ExpectedSamplerType ty) = ty ∷ []
expression_error_values (expression_error.InvalidImageClass class) =
    class_number class ∷ class_first class ∷ class_second class ∷ []
expression_error_values (expression_error.InvalidImageFormat format) = format_number format ∷ []
expression_error_values (expression_error.InvalidImageStorageAccess access) = access_number access ∷ []
expression_error_values (expression_error.InvalidImageArrayIndexType operand) = operand ∷ []
expression_error_values (expression_error.InvalidImageOtherIndexType operand) = operand ∷ []
expression_error_values (expression_error.InvalidImageCoordinateType dim operand) = dimension_number dim ∷ operand ∷ []
expression_error_values (expression_error.ComparisonSamplingMismatch image sampler has_ref) =
    class_number image ∷ class_first image ∷ class_second image ∷ bool_number sampler ∷ bool_number has_ref ∷ []
expression_error_values (expression_error.InvalidSampleOffset dim operand) = dimension_number dim ∷ operand ∷ []
expression_error_values (expression_error.InvalidDepthReference operand) = operand ∷ []
expression_error_values (expression_error.InvalidGatherComponent component) = component_number component ∷ []
expression_error_values (expression_error.InvalidGatherDimension dim) = dimension_number dim ∷ []
expression_error_values (expression_error.InvalidSampleLevelExactType operand) = operand ∷ []
expression_error_values (expression_error.InvalidSampleLevelBiasType operand) = operand ∷ []
expression_error_values (expression_error.InvalidSampleLevelBiasDimension dim) = dimension_number dim ∷ []
expression_error_values (expression_error.InvalidSampleLevelGradientType dim operand) =
    dimension_number dim ∷ operand ∷ []
expression_error_values (expression_error.WrongArgumentCount function) = math_function_number function ∷ []
expression_error_values (expression_error.InvalidArgumentType function index argument) =
    math_function_number function ∷ index ∷ argument ∷ []
expression_error_values (expression_error.InvalidWorkGroupUniformLoadResultType ty) = ty ∷ []
expression_error_values (expression_error.MissingCapabilities capabilities) = capabilities.0 ∷ []
expression_error_values (expression_error.Literal error) = literal_error_values error
expression_error_values (expression_error.UnsupportedWidth function kind width) =
    math_function_number function ∷ scalar_kind_number kind ∷ width ∷ []
expression_error_values (expression_error.InvalidCooperativeOperand operand) = operand ∷ []
expression_error_values (expression_error.ShiftAmountTooLarge _ rhs) = rhs ∷ []
expression_error_values _ = []
