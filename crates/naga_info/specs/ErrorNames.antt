-- The names of errors: of each variant its name in naga, or in the code if naga has no such variant.
use Rattle.std.specs.Prelude.{ℕ, List, codes}
use Rattle.naga_info.specs.declared.const_expression_error.LiteralError.{LiteralError}
use Rattle.naga_info.specs.declared.const_expression_error.LiteralError.TheVariants as literal_error
use Rattle.naga_info.specs.declared.const_expression_error.ConstExpressionError.{ConstExpressionError}
use Rattle.naga_info.specs.declared.const_expression_error.ConstExpressionError.TheVariants as const_expression_error
use Rattle.naga_info.specs.declared.expression_error.ExpressionError.{ExpressionError}
use Rattle.naga_info.specs.declared.expression_error.ExpressionError.TheVariants as expression_error

-- the name of the reason why a literal is refused
abbrev pub literal_error_name : LiteralError → List ℕ
literal_error_name (literal_error.Width _) = codes "Width"

-- the name of the rule that a global expression breaks
abbrev pub const_expression_error_name : ConstExpressionError → List ℕ
const_expression_error_name const_expression_error.NonConstOrOverride = codes "NonConstOrOverride"
const_expression_error_name const_expression_error.NonFullyEvaluatedConst = codes "NonFullyEvaluatedConst"
const_expression_error_name (const_expression_error.Compose _) = codes "Compose"
const_expression_error_name (const_expression_error.InvalidSplatType _) = codes "InvalidSplatType"
const_expression_error_name (const_expression_error.Type_ _) = codes "Type"
const_expression_error_name (const_expression_error.Literal _) = codes "Literal"
const_expression_error_name (const_expression_error.Width _) = codes "Width"

-- the name of the rule that an expression of a function breaks
abbrev pub expression_error_name : ExpressionError → List ℕ
expression_error_name expression_error.NotInScope = codes "NotInScope"
expression_error_name (expression_error.InvalidBaseType _) = codes "InvalidBaseType"
expression_error_name (expression_error.InvalidIndexType _) = codes "InvalidIndexType"
expression_error_name (expression_error.NegativeIndex _) = codes "NegativeIndex"
expression_error_name (expression_error.IndexOutOfBounds _ _) = codes "IndexOutOfBounds"
expression_error_name (expression_error.FunctionArgumentDoesntExist _) = codes "FunctionArgumentDoesntExist"
expression_error_name (expression_error.InvalidPointerType _) = codes "InvalidPointerType"
expression_error_name (expression_error.InvalidArrayType _) = codes "InvalidArrayType"
expression_error_name (expression_error.InvalidRayQueryType _) = codes "InvalidRayQueryType"
expression_error_name (expression_error.InvalidSplatType _) = codes "InvalidSplatType"
expression_error_name (expression_error.InvalidVectorType _) = codes "InvalidVectorType"
expression_error_name (expression_error.InvalidSwizzleComponent _ _) = codes "InvalidSwizzleComponent"
expression_error_name (expression_error.Compose _) = codes "Compose"
expression_error_name (expression_error.InvalidZeroValue _) = codes "InvalidZeroValue"
expression_error_name (expression_error.IndexableLength _) = codes "IndexableLength"
expression_error_name (expression_error.InvalidUnaryOperandType _ _) = codes "InvalidUnaryOperandType"
expression_error_name (expression_error.InvalidBinaryOperandTypes _ _ _ _ _) = codes "InvalidBinaryOperandTypes"
expression_error_name (expression_error.SelectValuesTypeMismatch _ _) = codes "SelectValuesTypeMismatch"
expression_error_name (expression_error.SelectConditionNotABool _) = codes "SelectConditionNotABool"
expression_error_name (expression_error.InvalidBooleanVector _) = codes "InvalidBooleanVector"
expression_error_name (expression_error.InvalidFloatArgument _) = codes "InvalidFloatArgument"
expression_error_name (expression_error.Type_ _) = codes "Type"
expression_error_name expression_error.ExpectedGlobalVariable = codes "ExpectedGlobalVariable"
expression_error_name expression_error.ExpectedGlobalOrArgument = codes "ExpectedGlobalOrArgument"
expression_error_name (expression_error.ExpectedBindingArrayType _) = codes "ExpectedBindingArrayType"
expression_error_name (expression_error.ExpectedImageType _) = codes "ExpectedImageType"
expression_error_name (expression_error.ExpectedSamplerType _) = codes "ExpectedSamplerType"
expression_error_name (expression_error.InvalidImageClass _) = codes "InvalidImageClass"
expression_error_name (expression_error.InvalidImageFormat _) = codes "InvalidImageFormat"
expression_error_name (expression_error.InvalidImageStorageAccess _) = codes "InvalidImageStorageAccess"
expression_error_name expression_error.InvalidDerivative = codes "InvalidDerivative"
expression_error_name expression_error.InvalidImageArrayIndex = codes "InvalidImageArrayIndex"
expression_error_name expression_error.InvalidImageSampleSelector = codes "InvalidImageSampleSelector"
expression_error_name expression_error.MissingImageSampleSelector = codes "MissingImageSampleSelector"
expression_error_name expression_error.InvalidImageLevelSelector = codes "InvalidImageLevelSelector"
expression_error_name expression_error.MissingImageLevelSelector = codes "MissingImageLevelSelector"
expression_error_name (expression_error.InvalidImageArrayIndexType _) = codes "InvalidImageArrayIndexType"
expression_error_name (expression_error.InvalidImageOtherIndexType _) = codes "InvalidImageOtherIndexType"
expression_error_name (expression_error.InvalidImageCoordinateType _ _) = codes "InvalidImageCoordinateType"
expression_error_name (expression_error.ComparisonSamplingMismatch _ _ _) = codes "ComparisonSamplingMismatch"
expression_error_name expression_error.InvalidSampleOffsetExprType = codes "InvalidSampleOffsetExprType"
expression_error_name (expression_error.InvalidSampleOffset _ _) = codes "InvalidSampleOffset"
expression_error_name (expression_error.InvalidDepthReference _) = codes "InvalidDepthReference"
expression_error_name expression_error.InvalidDepthSampleLevel = codes "InvalidDepthSampleLevel"
expression_error_name expression_error.InvalidGatherLevel = codes "InvalidGatherLevel"
expression_error_name (expression_error.InvalidGatherComponent _) = codes "InvalidGatherComponent"
expression_error_name (expression_error.InvalidGatherDimension _) = codes "InvalidGatherDimension"
expression_error_name (expression_error.InvalidSampleLevelExactType _) = codes "InvalidSampleLevelExactType"
expression_error_name (expression_error.InvalidSampleLevelBiasType _) = codes "InvalidSampleLevelBiasType"
expression_error_name (expression_error.InvalidSampleLevelBiasDimension _) = codes "InvalidSampleLevelBiasDimension"
expression_error_name (expression_error.InvalidSampleLevelGradientType _ _) = codes "InvalidSampleLevelGradientType"
expression_error_name (expression_error.InvalidSampleClampCoordinateToEdge _) =
    codes "InvalidSampleClampCoordinateToEdge"
expression_error_name expression_error.InvalidCastArgument = codes "InvalidCastArgument"
expression_error_name (expression_error.WrongArgumentCount _) = codes "WrongArgumentCount"
expression_error_name (expression_error.InvalidArgumentType _ _ _) = codes "InvalidArgumentType"
expression_error_name (expression_error.InvalidWorkGroupUniformLoadResultType _) =
    codes "InvalidWorkGroupUniformLoadResultType"
expression_error_name (expression_error.MissingCapabilities _) = codes "MissingCapabilities"
expression_error_name (expression_error.Literal _) = codes "Literal"
expression_error_name (expression_error.UnsupportedWidth _ _ _) = codes "UnsupportedWidth"
expression_error_name (expression_error.InvalidCooperativeOperand _) = codes "InvalidCooperativeOperand"
expression_error_name (expression_error.ShiftAmountTooLarge _ _) = codes "ShiftAmountTooLarge"
expression_error_name expression_error.DivideByZero = codes "DivideByZero"
expression_error_name expression_error.OutOfMemory = codes "OutOfMemory"
