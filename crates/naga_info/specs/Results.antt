-- What a call returns for an expression, out of memory aside.
use Rattle.std.specs.Prelude.{◌⊎◌, ⊤, Result, Ok, Err}
use Rattle.naga_arena.specs.Results.{IsResultOf}
use Rattle.naga_flags.specs.declared.flags.ShaderStages.{ShaderStages}
use Rattle.naga_ir.specs.TypeWords.{IsStruct}
use Rattle.naga_info.specs.declared.expression_error.ExpressionError.{ExpressionError}
use Rattle.naga_info.specs.declared.expression_error.ExpressionError.TheVariants.{InvalidBinaryOperandTypes, InvalidSampleClampCoordinateToEdge, OutOfMemory, SelectConditionNotABool, SelectValuesTypeMismatch, ShiftAmountTooLarge}

-- a result needs memory: it is an error that holds a copy of a struct, or a text
abbrev pub NeedsMemory : Result ShaderStages ExpressionError → Type 0
NeedsMemory (Ok stages) = ⊥
NeedsMemory (Err (InvalidBinaryOperandTypes op lhs_expr lhs_type rhs_expr rhs_type)) =
    IsStruct lhs_type ⊎ IsStruct rhs_type
NeedsMemory (Err (SelectValuesTypeMismatch accept reject)) = IsStruct accept ⊎ IsStruct reject
NeedsMemory (Err (SelectConditionNotABool actual)) = IsStruct actual
NeedsMemory (Err (ShiftAmountTooLarge lhs_type rhs_expr)) = IsStruct lhs_type
NeedsMemory (Err (InvalidSampleClampCoordinateToEdge text)) = ⊤
NeedsMemory (Err _) = ⊥

-- a call returns `result`, which is what `rule` says, or `OutOfMemory` if that needs memory
abbrev pub IsRuleResult : Result ShaderStages ExpressionError → Result ShaderStages ExpressionError → Type 0
IsRuleResult rule result = IsResultOf NeedsMemory OutOfMemory rule result
