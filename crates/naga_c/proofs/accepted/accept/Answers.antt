use Rattle.std.proofs.Common.{Ok, sym}
use Rattle.naga_c.proofs.CallLaws.{ends_refused, settings_as}
use Rattle.naga_c.proofs.accepted.accept.Goals as goal

pub returns-in-Err-validate : goal.returns-in-Err-validate
returns-in-Err-validate c =
    let subject = c.in-Ok.subject in
    let same = settings_as subject subject.flags c.validator_for-validator.result c.validator_for-validator.ensures in
    (Ok subject, sym c.in-Ok.is, ends_refused subject.«module» _ _ _ _ c.as_inner-inner.result.now _ same c.in-Err-validate.ensures.result c.as_inner-inner.ensures c.refused_outcome.ensures c.refused_status.ensures)
