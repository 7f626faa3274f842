-- The rules of values that stand by themselves, are made from others, or come from elsewhere.
use Rattle.std.specs.Prelude.{ltb, true, ℕ, List, [], ◌∷◌, Option, Some, None, Result, length, slice_get}
use Rattle.naga_exprs.specs.ConstExpression.{literal_rule, refused_inside}
use Rattle.naga_flags.specs.Bits.{CONSTRUCTIBLE, SIZED, union_of}
use Rattle.naga_flags.specs.Flags.{has}
use Rattle.naga_flags.specs.declared.flags.ShaderStages.{ShaderStages}
use Rattle.naga_info.specs.declared.module_info.FunctionInfo.{FunctionInfo}
use Rattle.naga_ir.specs.declared.expression.Literal.{Literal}
use Rattle.naga_info.specs.Stages.{every_stage, workgroup_stages}
use Rattle.naga_info.specs.Surroundings.{ExpressionSurroundings, flags_at, form_at}
use Rattle.naga_info.specs.Words.{is_scalar_that}
use Rattle.naga_info.specs.declared.expression_error.ExpressionError.{ExpressionError}
use Rattle.naga_info.specs.declared.expression_error.ExpressionError.TheVariants as refusal
use Rattle.naga_types.specs.Composing.{compose_rule, resolutions_at}
use Rattle.naga_types.specs.Checks.{ok_unless, require}

-- the rule of a literal: its width is allowed
abbrev pub literal_value_rule : ExpressionSurroundings → Literal → Result ShaderStages ExpressionError
literal_value_rule s value = ok_unless (refused_inside refusal.Literal (literal_rule s.capabilities value)) every_stage

-- the rule of a zero value: its type is constructible
abbrev pub zero_value_rule : ExpressionSurroundings → ℕ → Result ShaderStages ExpressionError
zero_value_rule s ty = ok_unless (require (has (flags_at s ty) CONSTRUCTIBLE) (refusal.InvalidZeroValue ty)) every_stage

-- the rule of a composition: the components fit
abbrev pub composition_rule : ExpressionSurroundings → ℕ → List ℕ → Result ShaderStages ExpressionError
composition_rule s ty components =
    ok_unless
    (refused_inside refusal.Compose
    (compose_rule s.«module».types ty (resolutions_at components s.types))) every_stage

-- the rule of a splat: its operand is a scalar
abbrev pub splat_rule : ExpressionSurroundings → ℕ → Result ShaderStages ExpressionError
splat_rule s value =
    ok_unless (require (is_scalar_that (λ scalar. true) (form_at s value)) (refusal.InvalidSplatType value)) every_stage

-- the rule of an argument: the function has one of this index
abbrev pub argument_rule : ExpressionSurroundings → ℕ → Result ShaderStages ExpressionError
argument_rule s index =
    ok_unless
    (require (ltb index (length s.function.arguments)) (refusal.FunctionArgumentDoesntExist index)) every_stage

-- the stages that may use a function, and none if nothing is known of it
abbrev pub stages_in : Option FunctionInfo → ShaderStages
stages_in (Some info) = info.available_stages
stages_in None = record { 0 = 0 }

-- the stages that may use the result of a call: those that may use the function
abbrev pub call_stages : ExpressionSurroundings → ℕ → ShaderStages
call_stages s f = stages_in (slice_get s.infos.functions f)

-- the flags of types that a workgroup can load together: a fixed size, and constructible
abbrev pub workgroup_load_flags : ℕ
workgroup_load_flags = union_of (SIZED ∷ CONSTRUCTIBLE ∷ [])

-- the rule of the result of a load for a whole workgroup, which only stages with workgroups may use
abbrev pub workgroup_load_rule : ExpressionSurroundings → ℕ → Result ShaderStages ExpressionError
workgroup_load_rule s ty =
    ok_unless
    (require (has (flags_at s ty) workgroup_load_flags)
    (refusal.InvalidWorkGroupUniformLoadResultType ty)) workgroup_stages
