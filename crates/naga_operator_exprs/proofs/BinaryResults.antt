-- What is returned by the rule of an operator on two values.
use Rattle.std.proofs.Common.{◌≡◌, ℕ, Bool, true, false, not, Option, Some, None, inl, refl, sym, subst, subst₂, ◌∙◌}
use Rattle.std.proofs.lemmas.Option.{same_Some}
use Rattle.std.specs.Prelude.{Result, Ok, Err}
use Rattle.naga_flags.specs.declared.flags.ShaderStages.{ShaderStages}
use Rattle.naga_ir.specs.declared.expression.BinaryOperator.{BinaryOperator}
use Rattle.naga_ir.specs.declared.types.TypeInner.{TypeInner}
use Rattle.naga_info.specs.Results.{IsRuleResult}
use Rattle.naga_info.specs.Stages.{every_stage}
use Rattle.naga_info.specs.Surroundings.{ExpressionSurroundings, form_at}
use Rattle.naga_info.specs.declared.expression_error.ExpressionError.{ExpressionError}
use Rattle.naga_info.specs.declared.expression_error.ExpressionError.TheVariants.{InvalidBinaryOperandTypes}
use Rattle.naga_operator_exprs.specs.Binary.{IsBinaryResult, IsBinaryRule, RightIsForbidden, accepted, forbidden_constant, forbidden_on_right, wrong_operands, operands_fit, refusal_of}
use Rattle.naga_operator_exprs.specs.Integers.{ContainsForbidden, scope_of}
use Rattle.naga_operator_exprs.specs.declared.integers.Forbidden.{Forbidden}
use Rattle.naga_info.specs.declared.sources.Place.TheVariants.{InFunction}

-- where nothing is forbidden, no number is
none_held : (found : Option Forbidden) (forbidden : Forbidden) → found ≡ None → found ≡ Some forbidden → ⊥
none_held found forbidden none some = cc (none, some)

-- `not b` is true if `b` isn't true
pub not_true : (b : Bool) → (b ≡ true → ⊥) → not b ≡ true
not_true true h = absurd (h refl)
not_true false h = refl

-- `b` isn't true if `not b` is
pub true_not : (b : Bool) → not b ≡ true → b ≡ true → ⊥
true_not true n h = cc n
true_not false n h = cc h

module _ (s : ExpressionSurroundings) (op : BinaryOperator) (left right : ℕ) where
  -- if the rule accepts, no constant on the right is forbidden
  none_forbidden : (rule : Result ShaderStages ExpressionError) → IsBinaryRule s op left right rule → rule ≡ Ok every_stage → (forbidden : Forbidden) → RightIsForbidden s op left right forbidden → ⊥
  none_forbidden _ (wrong_operands misfit) is forbidden held = cc is
  none_forbidden _ (forbidden_constant other fits has) is forbidden held = cc is
  none_forbidden _ (accepted fits none) is forbidden held = none forbidden held

module _ (s : ExpressionSurroundings) (op : BinaryOperator) (left right : ℕ) (x y : TypeInner) (on_left : x ≡ form_at s left) (on_right : y ≡ form_at s right) where
  -- whether the operands fit, by their types
  fit : (fits : Bool) → operands_fit op x y ≡ fits → operands_fit op (form_at s left) (form_at s right) ≡ fits
  fit fits h = subst₂ (λ a b. operands_fit op a b ≡ fits) on_left on_right h

  -- what is forbidden, by the type on the left
  found : (forbidden : Option Forbidden) → forbidden_on_right op x ≡ forbidden → forbidden_on_right op (form_at s left) ≡ forbidden
  found forbidden h = subst (λ a. forbidden_on_right op a ≡ forbidden) on_left h

  -- the rule accepts where nothing is forbidden
  pub accepted_by_none : operands_fit op x y ≡ true → forbidden_on_right op x ≡ None → IsBinaryRule s op left right (Ok every_stage)
  accepted_by_none fits h = accepted (fit true fits) (λ forbidden held. none_held (forbidden_on_right op (form_at s left)) forbidden (found None h) held.0)

  -- the rule accepts where no constant on the right is forbidden
  pub accepted_by_some : (forbidden : Forbidden) → operands_fit op x y ≡ true → forbidden_on_right op x ≡ Some forbidden → (ContainsForbidden (scope_of s) forbidden (InFunction right) → ⊥) → IsBinaryRule s op left right (Ok every_stage)
  accepted_by_some forbidden fits h allowed =
      accepted (fit true fits) (λ other held. allowed (subst (λ f. ContainsForbidden (scope_of s) f (InFunction right)) (sym (same_Some forbidden other (sym (found (Some forbidden) h) ∙ held.0))) held.1))

  -- if the rule accepts, the constant on the right is not forbidden
  pub allowed_by_rule : (forbidden : Forbidden) → forbidden_on_right op x ≡ Some forbidden → IsBinaryRule s op left right (Ok every_stage) → ContainsForbidden (scope_of s) forbidden (InFunction right) → ⊥
  allowed_by_rule forbidden h rule has = none_forbidden s op left right (Ok every_stage) rule refl forbidden (found (Some forbidden) h, has)

  module _ (result : Result ShaderStages ExpressionError) where
    -- the operands don't fit
    pub of_misfit : operands_fit op x y ≡ false → IsRuleResult (Err (InvalidBinaryOperandTypes op left x right y)) result → IsBinaryResult s op left right result
    of_misfit h returned = (
      Err (InvalidBinaryOperandTypes op left (form_at s left) right (form_at s right)),
      wrong_operands (fit false h),
      subst₂ (λ a b. IsRuleResult (Err (InvalidBinaryOperandTypes op left a right b)) result) on_left on_right returned,
    )

    -- the constant on the right is forbidden
    pub of_forbidden : (forbidden : Forbidden) → operands_fit op x y ≡ true → forbidden_on_right op x ≡ Some forbidden → ContainsForbidden (scope_of s) forbidden (InFunction right)
        → IsRuleResult (Err (refusal_of forbidden x right)) result → IsBinaryResult s op left right result
    of_forbidden forbidden fits h has returned = (
      Err (refusal_of forbidden (form_at s left) right),
      forbidden_constant forbidden (fit true fits) (found (Some forbidden) h, has),
      subst (λ a. IsRuleResult (Err (refusal_of forbidden a right)) result) on_left returned,
    )

    -- nothing is forbidden
    pub of_no_rule : operands_fit op x y ≡ true → forbidden_on_right op x ≡ None → result ≡ Ok every_stage → IsBinaryResult s op left right result
    of_no_rule fits h is = (Ok every_stage, accepted_by_none fits h, inl is)

    -- no constant on the right is forbidden
    pub of_allowed : (forbidden : Forbidden) → operands_fit op x y ≡ true → forbidden_on_right op x ≡ Some forbidden → (ContainsForbidden (scope_of s) forbidden (InFunction right) → ⊥)
        → result ≡ Ok every_stage → IsBinaryResult s op left right result
    of_allowed forbidden fits h allowed is = (Ok every_stage, accepted_by_some forbidden fits h allowed, inl is)
