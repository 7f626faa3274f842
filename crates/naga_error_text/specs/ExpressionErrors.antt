-- Why expressions of functions are refused.
use Rattle.std.specs.Prelude.{ℕ, List, [], ◌∷◌, codes, decimal, Option, Some, None}
use Rattle.naga_error_text.specs.declared.families.Family.{Family}
use Rattle.naga_error_text.specs.declared.families.Family.TheVariants as family
use Rattle.naga_error_text.specs.declared.names.Names.TheVariants.{Accesses, BinaryOperators, Bools, Capabilities, Components, Dimensions, MathFunctions, ScalarKinds, StorageFormats, UnaryOperators, VectorSizes}
use Rattle.naga_error_text.specs.declared.pieces.Values.{Values}
use Rattle.naga_error_text.specs.declared.expression_errors.ExpressionError.{ExpressionError}
use Rattle.naga_error_text.specs.declared.expression_errors.ExpressionError.TheVariants as expression_error
use Rattle.naga_error_text.specs.Names.{named}
use Rattle.naga_error_text.specs.Classes.{image_class}

-- the errors `ExpressionError` in the order of their numbers, which begin at 1
abbrev pub expression_errors : List ExpressionError
expression_errors =
    expression_error.NotInScope ∷ expression_error.InvalidBaseType ∷ expression_error.InvalidIndexType ∷
    expression_error.NegativeIndex ∷ expression_error.IndexOutOfBounds ∷
    expression_error.FunctionArgumentDoesntExist ∷ expression_error.InvalidPointerType ∷
    expression_error.InvalidArrayType ∷ expression_error.InvalidRayQueryType ∷ expression_error.InvalidSplatType ∷
    expression_error.InvalidVectorType ∷ expression_error.InvalidSwizzleComponent ∷ expression_error.Compose ∷
    expression_error.InvalidZeroValue ∷ expression_error.IndexableLength ∷ expression_error.InvalidUnaryOperandType ∷
    expression_error.InvalidBinaryOperandTypes ∷ expression_error.SelectValuesTypeMismatch ∷
    expression_error.SelectConditionNotABool ∷ expression_error.InvalidBooleanVector ∷
    expression_error.InvalidFloatArgument ∷ expression_error.Type_ ∷ expression_error.ExpectedGlobalVariable ∷
    expression_error.ExpectedGlobalOrArgument ∷ expression_error.ExpectedBindingArrayType ∷
    expression_error.ExpectedImageType ∷ expression_error.ExpectedSamplerType ∷ expression_error.InvalidImageClass ∷
    expression_error.InvalidImageFormat ∷ expression_error.InvalidImageStorageAccess ∷
    expression_error.InvalidDerivative ∷ expression_error.InvalidImageArrayIndex ∷
    expression_error.InvalidImageSampleSelector ∷ expression_error.MissingImageSampleSelector ∷
    expression_error.InvalidImageLevelSelector ∷ expression_error.MissingImageLevelSelector ∷
    expression_error.InvalidImageArrayIndexType ∷ expression_error.InvalidImageOtherIndexType ∷
    expression_error.InvalidImageCoordinateType ∷ expression_error.ComparisonSamplingMismatch ∷
    expression_error.InvalidSampleOffsetExprType ∷ expression_error.InvalidSampleOffset ∷
    expression_error.InvalidDepthReference ∷ expression_error.InvalidDepthSampleLevel ∷
    expression_error.InvalidGatherLevel ∷ expression_error.InvalidGatherComponent ∷
    expression_error.InvalidGatherDimension ∷ expression_error.InvalidSampleLevelExactType ∷
    expression_error.InvalidSampleLevelBiasType ∷ expression_error.InvalidSampleLevelBiasDimension ∷
    expression_error.InvalidSampleLevelGradientType ∷ expression_error.InvalidSampleClampCoordinateToEdge ∷
    expression_error.InvalidCastArgument ∷ expression_error.WrongArgumentCount ∷
    expression_error.InvalidArgumentType ∷ expression_error.InvalidWorkGroupUniformLoadResultType ∷
    expression_error.MissingCapabilities ∷ expression_error.Literal ∷ expression_error.UnsupportedWidth ∷
    expression_error.InvalidCooperativeOperand ∷ expression_error.ShiftAmountTooLarge ∷
    expression_error.DivideByZero ∷ []

-- what the text of each `ExpressionError` says of the values `v`, piece by piece
abbrev pub expression_error_parts : ExpressionError → Values → List (List ℕ)
expression_error_parts expression_error.NotInScope v =
    codes "Used by a statement before it was introduced into the scope by any of the dominating blocks" ∷ []
expression_error_parts expression_error.InvalidBaseType v =
    codes "Base type [" ∷ decimal v.first ∷ codes "] is not compatible with this expression" ∷ []
expression_error_parts expression_error.InvalidIndexType v =
    codes "Accessing with index [" ∷ decimal v.first ∷ codes "] can't be done" ∷ []
expression_error_parts expression_error.NegativeIndex v =
    codes "Accessing [" ∷ decimal v.first ∷ codes "] via a negative index is invalid" ∷ []
expression_error_parts expression_error.IndexOutOfBounds v =
    codes "Accessing index " ∷ decimal v.second ∷ codes " is out of [" ∷ decimal v.first ∷ codes "] bounds" ∷ []
expression_error_parts expression_error.FunctionArgumentDoesntExist v =
    codes "Function argument " ∷ decimal v.first ∷ codes " doesn't exist" ∷ []
expression_error_parts expression_error.InvalidPointerType v =
    codes "Loading of [" ∷ decimal v.first ∷ codes "] can't be done" ∷ []
expression_error_parts expression_error.InvalidArrayType v =
    codes "Array length of [" ∷ decimal v.first ∷ codes "] can't be done" ∷ []
expression_error_parts expression_error.InvalidRayQueryType v =
    codes "Get intersection of [" ∷ decimal v.first ∷ codes "] can't be done" ∷ []
expression_error_parts expression_error.InvalidSplatType v =
    codes "Splatting [" ∷ decimal v.first ∷ codes "] can't be done" ∷ []
expression_error_parts expression_error.InvalidVectorType v =
    codes "Swizzling [" ∷ decimal v.first ∷ codes "] can't be done" ∷ []
expression_error_parts expression_error.InvalidSwizzleComponent v =
    codes "Swizzle component " ∷ named Components v.first ∷ codes " is outside of vector size " ∷
    named VectorSizes v.second ∷ []
expression_error_parts expression_error.Compose v = []
expression_error_parts expression_error.InvalidZeroValue v =
    codes "Cannot construct zero value of [" ∷ decimal v.first ∷ codes "] because it is not a constructible type" ∷ []
expression_error_parts expression_error.IndexableLength v = []
expression_error_parts expression_error.InvalidUnaryOperandType v =
    codes "Operation " ∷ named UnaryOperators v.first ∷ codes " can't work with [" ∷ decimal v.second ∷ codes "]" ∷ []
expression_error_parts expression_error.InvalidBinaryOperandTypes v =
    codes "Operation " ∷ named BinaryOperators v.first ∷ codes " can't work with [" ∷ decimal v.second ∷
    codes "] and [" ∷ decimal v.third ∷ codes "]" ∷ []
expression_error_parts expression_error.SelectValuesTypeMismatch v =
    codes "Expected selection argument types to match, but reject value's type does not match accept value's" ∷ []
expression_error_parts expression_error.SelectConditionNotABool v =
    codes "Expected selection condition to be a boolean value" ∷ []
expression_error_parts expression_error.InvalidBooleanVector v =
    codes "Relational argument [" ∷ decimal v.first ∷ codes "] is not a boolean vector" ∷ []
expression_error_parts expression_error.InvalidFloatArgument v =
    codes "Relational argument [" ∷ decimal v.first ∷ codes "] is not a float" ∷ []
expression_error_parts expression_error.Type_ v = codes "Type resolution failed: " ∷ []
expression_error_parts expression_error.ExpectedGlobalVariable v = codes "Not a global variable" ∷ []
expression_error_parts expression_error.ExpectedGlobalOrArgument v =
    codes "Not a global variable or a function argument" ∷ []
expression_error_parts expression_error.ExpectedBindingArrayType v =
    codes "Needs to be an binding array instead of [" ∷ decimal v.first ∷ codes "]" ∷ []
expression_error_parts expression_error.ExpectedImageType v =
    codes "Needs to be an image instead of [" ∷ decimal v.first ∷ codes "]" ∷ []
expression_error_parts expression_error.ExpectedSamplerType v =
    codes "Needs to be an image instead of [" ∷ decimal v.first ∷ codes "]" ∷ []
expression_error_parts expression_error.InvalidImageClass v =
    codes "Unable to operate on image class " ∷ image_class v.first v.second v.third ∷ []
expression_error_parts expression_error.InvalidImageFormat v =
    codes "Image atomics are not supported for storage format " ∷ named StorageFormats v.first ∷ []
expression_error_parts expression_error.InvalidImageStorageAccess v =
    codes "Image atomics require atomic storage access, " ∷ named Accesses v.first ∷ codes " is insufficient" ∷ []
expression_error_parts expression_error.InvalidDerivative v =
    codes "Derivatives can only be taken from scalar and vector floats" ∷ []
expression_error_parts expression_error.InvalidImageArrayIndex v = codes "Image array index parameter is misplaced" ∷ []
expression_error_parts expression_error.InvalidImageSampleSelector v =
    codes "Cannot textureLoad from a specific multisample sample on a non-multisampled image." ∷ []
expression_error_parts expression_error.MissingImageSampleSelector v =
    codes "Cannot textureLoad from a multisampled image without specifying a sample." ∷ []
expression_error_parts expression_error.InvalidImageLevelSelector v =
    codes "Cannot textureLoad with a specific mip level on a non-mipmapped image." ∷ []
expression_error_parts expression_error.MissingImageLevelSelector v =
    codes "Cannot textureLoad from a mipmapped image without specifying a level." ∷ []
expression_error_parts expression_error.InvalidImageArrayIndexType v =
    codes "Image array index type of [" ∷ decimal v.first ∷ codes "] is not an integer scalar" ∷ []
expression_error_parts expression_error.InvalidImageOtherIndexType v =
    codes "Image sample or level-of-detail index's type of [" ∷ decimal v.first ∷
    codes "] is not an integer scalar" ∷ []
expression_error_parts expression_error.InvalidImageCoordinateType v =
    codes "Image coordinate type of [" ∷ decimal v.second ∷ codes "] does not match dimension " ∷
    named Dimensions v.first ∷ []
expression_error_parts expression_error.ComparisonSamplingMismatch v =
    codes "Comparison sampling mismatch: image has class " ∷ image_class v.first v.second v.third ∷
    codes ", but the sampler is comparison=" ∷ named Bools v.fourth ∷ codes ", and the reference was provided=" ∷
    named Bools v.fifth ∷ []
expression_error_parts expression_error.InvalidSampleOffsetExprType v =
    codes "Sample offset must be a const-expression" ∷ []
expression_error_parts expression_error.InvalidSampleOffset v =
    codes "Sample offset constant [" ∷ decimal v.second ∷ codes "] doesn't match the image dimension " ∷
    named Dimensions v.first ∷ []
expression_error_parts expression_error.InvalidDepthReference v =
    codes "Depth reference [" ∷ decimal v.first ∷ codes "] is not a scalar float" ∷ []
expression_error_parts expression_error.InvalidDepthSampleLevel v =
    codes "Depth sample level can only be Auto or Zero" ∷ []
expression_error_parts expression_error.InvalidGatherLevel v = codes "Gather level can only be Zero" ∷ []
expression_error_parts expression_error.InvalidGatherComponent v =
    codes "Gather component " ∷ named Components v.first ∷ codes " doesn't exist in the image" ∷ []
expression_error_parts expression_error.InvalidGatherDimension v =
    codes "Gather can't be done for image dimension " ∷ named Dimensions v.first ∷ []
expression_error_parts expression_error.InvalidSampleLevelExactType v =
    codes "Sample level (exact) type [" ∷ decimal v.first ∷ codes "] has an invalid type" ∷ []
expression_error_parts expression_error.InvalidSampleLevelBiasType v =
    codes "Sample level (bias) type [" ∷ decimal v.first ∷ codes "] is not a scalar float" ∷ []
expression_error_parts expression_error.InvalidSampleLevelBiasDimension v =
    codes "Bias can't be done for image dimension " ∷ named Dimensions v.first ∷ []
expression_error_parts expression_error.InvalidSampleLevelGradientType v =
    codes "Sample level (gradient) of [" ∷ decimal v.second ∷ codes "] doesn't match the image dimension " ∷
    named Dimensions v.first ∷ []
expression_error_parts expression_error.InvalidSampleClampCoordinateToEdge v =
    codes "Clamping sample coordinate to edge is not supported" ∷ []
expression_error_parts expression_error.InvalidCastArgument v = codes "Unable to cast" ∷ []
expression_error_parts expression_error.WrongArgumentCount v =
    codes "Invalid argument count for " ∷ named MathFunctions v.first ∷ []
expression_error_parts expression_error.InvalidArgumentType v =
    codes "Argument [" ∷ decimal v.second ∷ codes "] to " ∷ named MathFunctions v.first ∷ codes " as expression [" ∷
    decimal v.third ∷ codes "] has an invalid type." ∷ []
expression_error_parts expression_error.InvalidWorkGroupUniformLoadResultType v =
    codes "workgroupUniformLoad result type can't be [" ∷ decimal v.first ∷
    codes "]. It can only be a constructible type." ∷ []
expression_error_parts expression_error.MissingCapabilities v =
    codes "Shader requires capability Capabilities(" ∷ named Capabilities v.first ∷ codes ")" ∷ []
expression_error_parts expression_error.Literal v = []
expression_error_parts expression_error.UnsupportedWidth v =
    named MathFunctions v.first ∷ codes " is not supported for Width " ∷ decimal v.third ∷ codes " " ∷
    named ScalarKinds v.second ∷ codes " arguments yet, see https://github.com/gfx-rs/wgpu/issues/5276" ∷ []
expression_error_parts expression_error.InvalidCooperativeOperand v = codes "Invalid operand for cooperative op" ∷ []
expression_error_parts expression_error.ShiftAmountTooLarge v =
    codes "Shift amount [" ∷ decimal v.first ∷ codes "] exceeds the bit width" ∷ []
expression_error_parts expression_error.DivideByZero v = codes "Division by zero" ∷ []

-- what the error within each `ExpressionError` is one of, if there is one
abbrev pub expression_error_cause : ExpressionError → Option Family
expression_error_cause expression_error.Compose = Some family.Compose
expression_error_cause expression_error.IndexableLength = Some family.IndexableLength
expression_error_cause expression_error.Type_ = Some family.Resolve
expression_error_cause expression_error.Literal = Some family.Literal
expression_error_cause e = None
