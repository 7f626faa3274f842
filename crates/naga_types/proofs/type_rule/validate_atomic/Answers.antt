use Rattle.std.proofs.Common.{rules, ◌≡◌, ◌∙◌}
use Rattle.std.specs.Prelude.{Err}
use Rattle.naga_types.proofs.CheckLemmas.{same_refusal}
use Rattle.naga_types.proofs.type_rule.validate_atomic.Goals as goal

pub returns-in_err-check_atomic : goal.returns-in_err-check_atomic
returns-in_err-check_atomic c =
    let is : c.from_residual.result ≡ Err c.in_err-check_atomic.field-0.0 = search rules in
    is ∙ same_refusal _ _ _ _ c.in_err-check_atomic.ensures
