use Rattle.std.proofs.Common.{rules, ◌≡◌, ◌∙◌, true, refl, sym}
use Rattle.naga_info.specs.Surroundings.{surroundings}
use Rattle.naga_operator_exprs.proofs.BinaryResults.{accepted_by_none, accepted_by_some, allowed_by_rule, not_true, true_not}
use Rattle.naga_operator_exprs.proofs.binary.admits_binary.Goals as goal

pub returns-in-Some : goal.returns-in-Some
returns-in-Some c =
    let s = surroundings c.args.context in
    let on_left = c.type_of-left_type.ensures.form in
    let on_right = c.type_of.ensures.form in
    let fits : c.operands_fit.result ≡ true = search rules in
    let forbids = sym c.forbidden_on_right.ensures ∙ c.in-Some.is in (
      λ kept. accepted_by_some s _ _ _ _ _ on_left on_right c.in-Some.forbidden (sym c.operands_fit.ensures ∙ fits) forbids (λ has. true_not _ kept (c.has_forbidden.ensures.1 has)),
      λ rule. not_true _ (λ found. allowed_by_rule s _ _ _ _ _ on_left on_right c.in-Some.forbidden forbids rule (c.has_forbidden.ensures.0 found)),
    )

pub returns-in-None : goal.returns-in-None
returns-in-None c =
    let fits : c.operands_fit.result ≡ true = search rules in (
      λ kept. accepted_by_none (surroundings c.args.context) _ _ _ _ _ c.type_of-left_type.ensures.form c.type_of.ensures.form (sym c.operands_fit.ensures ∙ fits) (sym c.forbidden_on_right.ensures ∙ c.in-None.is),
      λ rule. refl,
    )
