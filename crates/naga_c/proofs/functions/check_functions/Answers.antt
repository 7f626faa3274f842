use Rattle.std.proofs.Common.{refl}
use Rattle.naga_c.specs.Functions.{accepted, not_accepted, with_constants}
use Rattle.naga_c.proofs.CallLaws.{accepted_as, ends_refused, settings_as}
use Rattle.naga_c.proofs.functions.check_functions.Goals as goal

pub returns-in-Ok : goal.returns-in-Ok
returns-in-Ok c =
    let same = settings_as c.args.subject.now (with_constants c.args.subject.now.flags) c.validator_of_functions-validator.result c.validator_of_functions-validator.ensures in
    accepted c.validate.new.validator.infos _ (accepted_as c.args.subject.now.«module» _ _ _ _ same c.in-Ok.ensures.result) c.report_functions.ensures

pub returns : goal.returns
returns c =
    let same = settings_as c.args.subject.now (with_constants c.args.subject.now.flags) c.validator_of_functions-validator.result c.validator_of_functions-validator.ensures in
    not_accepted (ends_refused c.args.subject.now.«module» _ _ _ _ c.as_inner-inner.result.now _ same c.in-Err.ensures.result c.as_inner-inner.ensures (refl, c.refused_outcome.ensures) c.refused_status.ensures)
