-- The numbers of errors: of each enum from 1, in the order of its variants.
use Rattle.std.specs.Prelude.{ℕ}
use Rattle.naga_types.specs.declared.error.ComposeError.{ComposeError}
use Rattle.naga_types.specs.declared.error.ComposeError.TheVariants as compose_error
use Rattle.naga_info.specs.declared.const_expression_error.ConstExpressionError.{ConstExpressionError}
use Rattle.naga_info.specs.declared.const_expression_error.ConstExpressionError.TheVariants as const_expression_error
use Rattle.naga_valid.specs.declared.error.ConstantError.{ConstantError}
use Rattle.naga_valid.specs.declared.error.ConstantError.TheVariants as constant_error
use Rattle.naga_types.specs.declared.error.Disalignment.{Disalignment}
use Rattle.naga_types.specs.declared.error.Disalignment.TheVariants as disalignment
use Rattle.naga_info.specs.declared.expression_error.ExpressionError.{ExpressionError}
use Rattle.naga_info.specs.declared.expression_error.ExpressionError.TheVariants as expression_error
use Rattle.naga_typing.specs.declared.index.IndexableLengthError.{IndexableLengthError}
use Rattle.naga_typing.specs.declared.index.IndexableLengthError.TheVariants as indexable_length_error
use Rattle.naga_handles.specs.declared.error.InvalidHandleError.{InvalidHandleError}
use Rattle.naga_handles.specs.declared.error.InvalidHandleError.TheVariants as invalid_handle_error
use Rattle.naga_typing.specs.declared.layouter.LayoutErrorInner.{LayoutErrorInner}
use Rattle.naga_typing.specs.declared.layouter.LayoutErrorInner.TheVariants as layout_error_inner
use Rattle.naga_info.specs.declared.const_expression_error.LiteralError.{LiteralError}
use Rattle.naga_info.specs.declared.const_expression_error.LiteralError.TheVariants as literal_error
use Rattle.naga_valid.specs.declared.error.OverrideError.{OverrideError}
use Rattle.naga_valid.specs.declared.error.OverrideError.TheVariants as override_error
use Rattle.naga_typing.specs.declared.typifier.ResolveError.{ResolveError}
use Rattle.naga_typing.specs.declared.typifier.ResolveError.TheVariants as resolve_error
use Rattle.naga_types.specs.declared.error.TypeError.{TypeError}
use Rattle.naga_types.specs.declared.error.TypeError.TheVariants as type_error
use Rattle.naga_types.specs.declared.error.VaryingError.{VaryingError}
use Rattle.naga_types.specs.declared.error.VaryingError.TheVariants as varying_error
use Rattle.naga_flags.specs.declared.width.WidthError.{WidthError}
use Rattle.naga_flags.specs.declared.width.WidthError.TheVariants as width_error

-- the number of an error of handles
abbrev pub handle_error_code : InvalidHandleError → ℕ
handle_error_code (invalid_handle_error.BadHandle _) = 1
handle_error_code (invalid_handle_error.ForwardDependency _) = 2
handle_error_code (invalid_handle_error.BadRange _) = 3

-- the number of an error of layouts
abbrev pub layout_error_code : LayoutErrorInner → ℕ
layout_error_code layout_error_inner.TooLarge = 1
layout_error_code layout_error_inner.NonPowerOfTwoWidth = 2
layout_error_code layout_error_inner.OutOfMemory = 3

-- the number of the reason why an input or output is refused, or why a struct can't have its blend sources
abbrev pub varying_error_code : VaryingError → ℕ
varying_error_code (varying_error.InvalidBlendSrcIndex _ _) = 1
varying_error_code (varying_error.BindingCollisionBlendSrc _) = 2
varying_error_code (varying_error.InvalidBlendSrcWithOtherBindings _) = 3
varying_error_code (varying_error.BlendSrcOutputTypeMismatch _ _) = 4
varying_error_code (varying_error.NotIOShareableType _) = 5
varying_error_code (varying_error.IncompleteBlendSrcUsage _) = 6
varying_error_code (varying_error.InvalidType _) = 7
varying_error_code varying_error.InvalidInterpolation = 8
varying_error_code (varying_error.InvalidInterpolationSamplingCombination _ _) = 9
varying_error_code varying_error.MissingInterpolation = 10
varying_error_code (varying_error.InvalidBuiltInStage _) = 11
varying_error_code (varying_error.InvalidBuiltInType _) = 12
varying_error_code varying_error.MissingBinding = 13
varying_error_code (varying_error.MemberMissingBinding _) = 14
varying_error_code (varying_error.BindingCollision _) = 15
varying_error_code (varying_error.DuplicateBuiltIn _) = 16
varying_error_code (varying_error.UnsupportedCapability _) = 17
varying_error_code (varying_error.InvalidInputAttributeInStage _) = 18
varying_error_code (varying_error.InvalidAttributeInStage _) = 19
varying_error_code varying_error.InvalidMultiDimensionalSubgroupBuiltIn = 20
varying_error_code varying_error.InvalidPerPrimitive = 21
varying_error_code varying_error.OutOfMemory = 22

-- the number of the reason why a width is refused
abbrev pub width_error_code : WidthError → ℕ
width_error_code (width_error.Invalid _ _) = 1
width_error_code (width_error.MissingCapability _ _) = 2
width_error_code width_error.Abstract = 3

-- the number of the reason why a value can't be composed
abbrev pub compose_error_code : ComposeError → ℕ
compose_error_code (compose_error.Type_ _) = 1
compose_error_code (compose_error.ComponentCount _ _) = 2
compose_error_code (compose_error.ComponentType _) = 3

-- the number of the reason why an expression has no type
abbrev pub resolve_error_code : ResolveError → ℕ
resolve_error_code resolve_error.IncompatibleOperands = 1
resolve_error_code resolve_error.NotResolvable = 2
resolve_error_code resolve_error.OutOfMemory = 3

-- the number of the reason why a value has no length
abbrev pub indexable_length_error_code : IndexableLengthError → ℕ
indexable_length_error_code indexable_length_error.TypeNotIndexable = 1
indexable_length_error_code indexable_length_error.InvalidArrayLength = 2

-- the number of the reason why a type has no layout in an address space
abbrev pub disalignment_code : Disalignment → ℕ
disalignment_code (disalignment.ArrayStride _ _) = 1
disalignment_code (disalignment.StructSpan _ _) = 2
disalignment_code (disalignment.MemberOffset _ _ _) = 3
disalignment_code (disalignment.MemberOffsetAfterStruct _ _ _) = 4
disalignment_code (disalignment.UnsizedMember _) = 5
disalignment_code disalignment.NonHostShareable = 6

-- the number of an error of types
abbrev pub type_error_code : TypeError → ℕ
type_error_code (type_error.MissingCapability _) = 1
type_error_code (type_error.InvalidAtomicWidth _ _) = 2
type_error_code (type_error.InvalidPointerBase _) = 3
type_error_code (type_error.InvalidPointerToUnsized _ _) = 4
type_error_code (type_error.InvalidData _) = 5
type_error_code (type_error.InvalidArrayBaseType _) = 6
type_error_code type_error.MatrixElementNotFloat = 7
type_error_code (type_error.UnsupportedSpecializedArrayLength _) = 8
type_error_code (type_error.UnsupportedImageType _ _ _) = 9
type_error_code (type_error.InvalidArrayStride _ _) = 10
type_error_code (type_error.InvalidDynamicArray _ _) = 11
type_error_code (type_error.BindingArrayBaseTypeNotStruct _) = 12
type_error_code type_error.BindingArrayBaseExternalTextures = 13
type_error_code (type_error.MemberOverlap _ _) = 14
type_error_code (type_error.MemberOutOfBounds _ _ _ _) = 15
type_error_code type_error.EmptyStruct = 16
type_error_code (type_error.InvalidBlendSrc _) = 17
type_error_code (type_error.WidthError _) = 18
type_error_code (type_error.UnresolvedOverride _) = 19
type_error_code (type_error.InvalidArraySize _) = 20
type_error_code type_error.OutOfMemory = 21

-- the number of an error of global expressions
abbrev pub const_expression_error_code : ConstExpressionError → ℕ
const_expression_error_code const_expression_error.NonConstOrOverride = 1
const_expression_error_code const_expression_error.NonFullyEvaluatedConst = 2
const_expression_error_code (const_expression_error.Compose _) = 3
const_expression_error_code (const_expression_error.InvalidSplatType _) = 4
const_expression_error_code (const_expression_error.Type_ _) = 5
const_expression_error_code (const_expression_error.Literal _) = 6
const_expression_error_code (const_expression_error.Width _) = 7

-- the number of an error of constants
abbrev pub constant_error_code : ConstantError → ℕ
constant_error_code constant_error.InitializerExprType = 1
constant_error_code constant_error.InvalidType = 2
constant_error_code constant_error.NonConstructibleType = 3

-- the number of an error of overrides
abbrev pub override_error_code : OverrideError → ℕ
override_error_code override_error.MissingNameAndID = 1
override_error_code override_error.DuplicateID = 2
override_error_code override_error.InitializerExprType = 3
override_error_code override_error.InvalidType = 4
override_error_code override_error.NonConstructibleType = 5
override_error_code override_error.TypeNotScalar = 6
override_error_code override_error.NotAllowed = 7
override_error_code override_error.UninitializedOverride = 8
override_error_code (override_error.ConstExpression _ _) = 9

-- the number of an error of an expression of a function
abbrev pub expression_error_code : ExpressionError → ℕ
expression_error_code expression_error.NotInScope = 1
expression_error_code (expression_error.InvalidBaseType _) = 2
expression_error_code (expression_error.InvalidIndexType _) = 3
expression_error_code (expression_error.NegativeIndex _) = 4
expression_error_code (expression_error.IndexOutOfBounds _ _) = 5
expression_error_code (expression_error.FunctionArgumentDoesntExist _) = 6
expression_error_code (expression_error.InvalidPointerType _) = 7
expression_error_code (expression_error.InvalidArrayType _) = 8
expression_error_code (expression_error.InvalidRayQueryType _) = 9
expression_error_code (expression_error.InvalidSplatType _) = 10
expression_error_code (expression_error.InvalidVectorType _) = 11
expression_error_code (expression_error.InvalidSwizzleComponent _ _) = 12
expression_error_code (expression_error.Compose _) = 13
expression_error_code (expression_error.InvalidZeroValue _) = 14
expression_error_code (expression_error.IndexableLength _) = 15
expression_error_code (expression_error.InvalidUnaryOperandType _ _) = 16
expression_error_code (expression_error.InvalidBinaryOperandTypes _ _ _ _ _) = 17
expression_error_code (expression_error.SelectValuesTypeMismatch _ _) = 18
expression_error_code (expression_error.SelectConditionNotABool _) = 19
expression_error_code (expression_error.InvalidBooleanVector _) = 20
expression_error_code (expression_error.InvalidFloatArgument _) = 21
expression_error_code (expression_error.Type_ _) = 22
expression_error_code expression_error.ExpectedGlobalVariable = 23
expression_error_code expression_error.ExpectedGlobalOrArgument = 24
expression_error_code (expression_error.ExpectedBindingArrayType _) = 25
expression_error_code (expression_error.ExpectedImageType _) = 26
expression_error_code (expression_error.ExpectedSamplerType _) = 27
expression_error_code (expression_error.InvalidImageClass _) = 28
expression_error_code (expression_error.InvalidImageFormat _) = 29
expression_error_code (expression_error.InvalidImageStorageAccess _) = 30
expression_error_code expression_error.InvalidDerivative = 31
expression_error_code expression_error.InvalidImageArrayIndex = 32
expression_error_code expression_error.InvalidImageSampleSelector = 33
expression_error_code expression_error.MissingImageSampleSelector = 34
expression_error_code expression_error.InvalidImageLevelSelector = 35
expression_error_code expression_error.MissingImageLevelSelector = 36
expression_error_code (expression_error.InvalidImageArrayIndexType _) = 37
expression_error_code (expression_error.InvalidImageOtherIndexType _) = 38
expression_error_code (expression_error.InvalidImageCoordinateType _ _) = 39
expression_error_code (expression_error.ComparisonSamplingMismatch _ _ _) = 40
expression_error_code expression_error.InvalidSampleOffsetExprType = 41
expression_error_code (expression_error.InvalidSampleOffset _ _) = 42
expression_error_code (expression_error.InvalidDepthReference _) = 43
expression_error_code expression_error.InvalidDepthSampleLevel = 44
expression_error_code expression_error.InvalidGatherLevel = 45
expression_error_code (expression_error.InvalidGatherComponent _) = 46
expression_error_code (expression_error.InvalidGatherDimension _) = 47
expression_error_code (expression_error.InvalidSampleLevelExactType _) = 48
expression_error_code (expression_error.InvalidSampleLevelBiasType _) = 49
expression_error_code (expression_error.InvalidSampleLevelBiasDimension _) = 50
expression_error_code (expression_error.InvalidSampleLevelGradientType _ _) = 51
expression_error_code (expression_error.InvalidSampleClampCoordinateToEdge _) = 52
expression_error_code expression_error.InvalidCastArgument = 53
expression_error_code (expression_error.WrongArgumentCount _) = 54
expression_error_code (expression_error.InvalidArgumentType _ _ _) = 55
expression_error_code (expression_error.InvalidWorkGroupUniformLoadResultType _) = 56
expression_error_code (expression_error.MissingCapabilities _) = 57
expression_error_code (expression_error.Literal _) = 58
expression_error_code (expression_error.UnsupportedWidth _ _ _) = 59
expression_error_code (expression_error.InvalidCooperativeOperand _) = 60
expression_error_code (expression_error.ShiftAmountTooLarge _ _) = 61
expression_error_code expression_error.DivideByZero = 62
expression_error_code expression_error.OutOfMemory = 63

-- the number of an error of a literal
abbrev pub literal_error_code : LiteralError → ℕ
literal_error_code (literal_error.Width _) = 1

-- the number of the error within an error of a literal
abbrev pub literal_error_cause : LiteralError → ℕ
literal_error_cause (literal_error.Width error) = width_error_code error

-- the number of the error within an error of types, or 0
abbrev pub type_error_cause : TypeError → ℕ
type_error_cause (type_error.InvalidBlendSrc error) = varying_error_code error
type_error_cause (type_error.WidthError error) = width_error_code error
type_error_cause _ = 0

-- the number of the error within an error of global expressions, or 0
abbrev pub const_expression_error_cause : ConstExpressionError → ℕ
const_expression_error_cause (const_expression_error.Compose error) = compose_error_code error
const_expression_error_cause (const_expression_error.Type_ error) = resolve_error_code error
const_expression_error_cause (const_expression_error.Literal error) = literal_error_code error
const_expression_error_cause (const_expression_error.Width error) = width_error_code error
const_expression_error_cause _ = 0

-- the number of the error within an error of overrides, or 0
abbrev pub override_error_cause : OverrideError → ℕ
override_error_cause (override_error.ConstExpression _ source) = const_expression_error_code source
override_error_cause _ = 0

-- the number of the second error within an error of global expressions, or 0
abbrev pub const_expression_error_second_cause : ConstExpressionError → ℕ
const_expression_error_second_cause (const_expression_error.Literal error) = literal_error_cause error
const_expression_error_second_cause _ = 0

-- the number of the second error within an error of overrides, or 0
abbrev pub override_error_second_cause : OverrideError → ℕ
override_error_second_cause (override_error.ConstExpression _ source) = const_expression_error_cause source
override_error_second_cause _ = 0

-- the number of the third error within an error of overrides, or 0
abbrev pub override_error_third_cause : OverrideError → ℕ
override_error_third_cause (override_error.ConstExpression _ source) = const_expression_error_second_cause source
override_error_third_cause _ = 0

-- the number of the error within an error of an expression of a function, or 0
abbrev pub expression_error_cause : ExpressionError → ℕ
expression_error_cause (expression_error.Compose error) = compose_error_code error
expression_error_cause (expression_error.IndexableLength error) = indexable_length_error_code error
expression_error_cause (expression_error.Type_ error) = resolve_error_code error
expression_error_cause (expression_error.Literal error) = literal_error_code error
expression_error_cause _ = 0

-- the number of the second error within an error of an expression of a function, or 0
abbrev pub expression_error_second_cause : ExpressionError → ℕ
expression_error_second_cause (expression_error.Literal error) = literal_error_cause error
expression_error_second_cause _ = 0
