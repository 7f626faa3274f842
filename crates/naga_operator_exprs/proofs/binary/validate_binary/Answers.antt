use Rattle.std.proofs.Common.{rules, ◌≡◌, sym, ap, ◌∙◌, true, false, true≢false}
use Rattle.std.specs.Prelude.{Ok}
use Rattle.naga_info.specs.Surroundings.{surroundings}
use Rattle.naga_operator_exprs.proofs.BinaryResults.{of_allowed, of_forbidden, of_misfit, of_no_rule}
use Rattle.naga_operator_exprs.proofs.binary.validate_binary.Goals as goal

pub returns-then-not-operands_fit : goal.returns-then-not-operands_fit
returns-then-not-operands_fit c =
    let fits : c.operands_fit.result ≡ false = search rules in
    of_misfit (surroundings c.args.context) _ _ _ _ _ c.type_of-left_type.ensures.form c.type_of-right_type.ensures.form _ (sym c.operands_fit.ensures ∙ fits) c.refuse_operands.ensures

pub returns-in_default : goal.returns-in_default
returns-in_default c =
    let fits : c.operands_fit.result ≡ true = search rules in
    of_no_rule (surroundings c.args.context) _ _ _ _ _ c.type_of-left_type.ensures.form c.type_of-right_type.ensures.form _ (sym c.operands_fit.ensures ∙ fits) (sym c.forbidden_on_right.ensures ∙ c.in_default.is) (ap Ok c.every_stage.ensures)

pub returns-then-has_forbidden : goal.returns-then-has_forbidden
returns-then-has_forbidden c =
    let fits : c.operands_fit.result ≡ true = search rules in
    of_forbidden (surroundings c.args.context) _ _ _ _ _ c.type_of-left_type.ensures.form c.type_of-right_type.ensures.form _ c.in-Some.forbidden (sym c.operands_fit.ensures ∙ fits) (sym c.forbidden_on_right.ensures ∙ c.in-Some.is) (c.has_forbidden.ensures.0 c.if-has_forbidden.true) c.refuse_constant.ensures

pub returns : goal.returns
returns c =
    let fits : c.operands_fit.result ≡ true = search rules in
    of_allowed (surroundings c.args.context) _ _ _ _ _ c.type_of-left_type.ensures.form c.type_of-right_type.ensures.form _ c.in-Some.forbidden (sym c.operands_fit.ensures ∙ fits) (sym c.forbidden_on_right.ensures ∙ c.in-Some.is) (λ has. true≢false (sym (c.has_forbidden.ensures.1 has) ∙ c.if-has_forbidden.false)) (ap Ok c.every_stage-2.ensures)
