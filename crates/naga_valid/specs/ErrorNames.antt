-- The names of errors: of each variant its name in naga, or in the code if naga has no such variant.
use Rattle.std.specs.Prelude.{ℕ, List, codes}
use Rattle.naga_valid.specs.declared.error.ConstantError.{ConstantError}
use Rattle.naga_valid.specs.declared.error.ConstantError.TheVariants as constant_error
use Rattle.naga_valid.specs.declared.error.OverrideError.{OverrideError}
use Rattle.naga_valid.specs.declared.error.OverrideError.TheVariants as override_error
use Rattle.naga_valid.specs.declared.error.ValidationError.{ValidationError}
use Rattle.naga_valid.specs.declared.error.ValidationError.TheVariants as validation_error
use Rattle.naga_valid.specs.declared.function.FunctionError.{FunctionError}
use Rattle.naga_valid.specs.declared.function.FunctionError.TheVariants as function_error

-- the name of the rule that a constant breaks
abbrev pub constant_error_name : ConstantError → List ℕ
constant_error_name constant_error.InitializerExprType = codes "InitializerExprType"
constant_error_name constant_error.InvalidType = codes "InvalidType"
constant_error_name constant_error.NonConstructibleType = codes "NonConstructibleType"

-- the name of the rule that an override breaks
abbrev pub override_error_name : OverrideError → List ℕ
override_error_name override_error.MissingNameAndID = codes "MissingNameAndID"
override_error_name override_error.DuplicateID = codes "DuplicateID"
override_error_name override_error.InitializerExprType = codes "InitializerExprType"
override_error_name override_error.InvalidType = codes "InvalidType"
override_error_name override_error.NonConstructibleType = codes "NonConstructibleType"
override_error_name override_error.TypeNotScalar = codes "TypeNotScalar"
override_error_name override_error.NotAllowed = codes "NotAllowed"
override_error_name override_error.UninitializedOverride = codes "UninitializedOverride"
override_error_name (override_error.ConstExpression _ _) = codes "ConstExpression"

-- the name of the reason why a module is refused
abbrev pub validation_error_name : ValidationError → List ℕ
validation_error_name (validation_error.InvalidHandle _) = codes "InvalidHandle"
validation_error_name (validation_error.Layouter _) = codes "Layouter"
validation_error_name (validation_error.Type_ _ _ _) = codes "Type"
validation_error_name (validation_error.ConstExpression _ _) = codes "ConstExpression"
validation_error_name (validation_error.ArraySizeError _) = codes "ArraySizeError"
validation_error_name (validation_error.Constant _ _ _) = codes "Constant"
validation_error_name (validation_error.Override _ _ _) = codes "Override"
validation_error_name validation_error.Corrupted = codes "Corrupted"
validation_error_name validation_error.OutOfMemory = codes "OutOfMemory"

-- the name of the reason why a function is refused
abbrev pub function_error_name : FunctionError → List ℕ
function_error_name (function_error.Expression _ _) = codes "Expression"
function_error_name function_error.OutOfMemory = codes "OutOfMemory"
