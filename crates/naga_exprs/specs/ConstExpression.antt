-- The rule of one global expression, by its variant.
use Rattle.std.specs.Prelude.{ℕ, Bool as Boolean, true, false, ◌||◌, List, [], ◌∷◌, Option, Some, None, Result, Ok, Err, slice_get}
use Rattle.naga_flags.specs.Width.{width_rule}
use Rattle.naga_flags.specs.declared.width.ImmediateError.{ImmediateError}
use Rattle.naga_flags.specs.declared.width.WidthError.{WidthError}
use Rattle.naga_info.specs.declared.const_expression_error.ConstExpressionError.{ConstExpressionError}
use Rattle.naga_info.specs.declared.context.ExprContext.{ExprContext}
use Rattle.naga_typing.specs.declared.context.GlobalCtx.{GlobalCtx}
use Rattle.naga_info.specs.declared.const_expression_error.ConstExpressionError.TheVariants as refusal
use Rattle.naga_info.specs.declared.const_expression_error.LiteralError.{LiteralError}
use Rattle.naga_info.specs.declared.const_expression_error.LiteralError.TheVariants.{Width}
use Rattle.naga_ir.specs.Literals.{literal_scalar}
use Rattle.naga_ir.specs.declared.expression.Expression.{Expression}
use Rattle.naga_ir.specs.declared.expression.Expression.TheVariants as form
use Rattle.naga_ir.specs.declared.expression.Literal.{Literal}
use Rattle.naga_ir.specs.declared.types.«Type».{«Type»}
use Rattle.naga_ir.specs.declared.types.TypeInner.{TypeInner}
use Rattle.naga_ir.specs.declared.types.TypeInner.TheVariants.{Scalar}
use Rattle.naga_types.specs.Composing.{compose_rule, resolutions_at}
use Rattle.naga_types.specs.Checks.{first_error_or, when, require}
use Rattle.naga_typing.specs.Kinds.{is_const, is_const_or_override}
use Rattle.naga_typing.specs.Resolutions.{operand}
use Rattle.naga_typing.specs.declared.expression_kind.ExpressionKind.{ExpressionKind}
use Rattle.naga_typing.specs.declared.typifier.TypeResolution.{TypeResolution}

-- what the validation of a global expression depends on, besides the expression: the capabilities, whether overrides
-- must have their values, the types of the module, and the kinds and the types of global expressions
pub record ConstSurroundings : Type 0 where
  pub capabilities : ℕ
  pub resolved : Boolean
  pub types : List «Type»
  pub kinds : List ExpressionKind
  pub resolutions : List TypeResolution

-- what the validation of a global expression depends on in the context `ctx` of expressions and the context `gctx` of
-- the module, by the types and the kinds of the global expressions
abbrev pub surroundings : {T : Type 0} → ExprContext T → GlobalCtx → List TypeResolution → List ExpressionKind
    → ConstSurroundings
surroundings ctx gctx resolutions kinds = record {
  capabilities = ctx.capabilities.0;
  resolved = ctx.overrides_resolved;
  types = gctx.types.now;
  kinds = kinds;
  resolutions = resolutions;
}

-- what the rule of widths says of a literal
abbrev pub of_width : Result (Result (Unit {0}) ImmediateError) WidthError → Result (Unit {0}) LiteralError
of_width (Ok immediates) = Ok tt
of_width (Err error) = Err (Width error)

-- a literal is accepted if the width of its scalar is
abbrev pub literal_rule : ℕ → Literal → Result (Unit {0}) LiteralError
literal_rule capabilities value = of_width (width_rule capabilities (literal_scalar value))

-- the error of another rule inside an error of this one, if the other rule refuses
abbrev pub refused_inside : {A E F : Type 0} → (E → F) → Result A E → Option F
refused_inside wrap (Ok value) = None
refused_inside wrap (Err error) = Some (wrap error)

-- whether a type is there and is a scalar
abbrev pub is_scalar : Option TypeInner → Boolean
is_scalar (Some (Scalar scalar)) = true
is_scalar _ = false

-- the error, unless the value of expression `e` is known before the shader runs
abbrev pub not_const_error : ConstSurroundings → ℕ → Option ConstExpressionError
not_const_error s e = require (is_const_or_override (slice_get s.kinds e)) refusal.NonConstOrOverride

-- the error, unless a literal is accepted
abbrev pub literal_error : ConstSurroundings → Literal → Option ConstExpressionError
literal_error s value = refused_inside refusal.Literal (literal_rule s.capabilities value)

-- the error, unless a value of the type of index `ty` may be composed of `components`
abbrev pub composition_error : ConstSurroundings → ℕ → List ℕ → Option ConstExpressionError
composition_error s ty components =
    refused_inside refusal.Compose (compose_rule s.types ty (resolutions_at components s.resolutions))

-- the error, unless `value`, the operand of a splat, is a scalar
abbrev pub splat_error : ConstSurroundings → ℕ → Option ConstExpressionError
splat_error s value = require (is_scalar (operand s.types s.resolutions value)) (refusal.InvalidSplatType value)

-- the error, unless expression `e`, whose value is still to be computed, depends on an override, and overrides
-- need not have their values yet
abbrev pub evaluation_error : ConstSurroundings → ℕ → Option ConstExpressionError
evaluation_error s e = when (s.resolved || is_const (slice_get s.kinds e)) (Some refusal.NonFullyEvaluatedConst)

-- the checks of expression `x`, whose index is `e`, by its variant
abbrev pub form_checks : ConstSurroundings → ℕ → Expression → List (Option ConstExpressionError)
form_checks s e (form.Literal value) = literal_error s value ∷ []
form_checks s e (form.Constant c) = []
form_checks s e (form.ZeroValue ty) = []
form_checks s e (form.Compose ty components) = composition_error s ty components ∷ []
form_checks s e (form.Splat size value) = splat_error s value ∷ []
form_checks s e _ = evaluation_error s e ∷ []

-- a global expression is accepted if its value is known before the shader runs, and it passes the checks of its variant
abbrev pub const_expression_rule : ConstSurroundings → ℕ → Expression → Result (Unit {0}) ConstExpressionError
const_expression_rule s e x = first_error_or (not_const_error s e ∷ form_checks s e x) tt
