use Rattle.std.proofs.Common.{ap, ◌∙◌}
use Rattle.naga_typing.specs.declared.full_typing.FullTyping.{FullTyping}
use Rattle.naga_valid.specs.State.{State, settings_of}
use Rattle.naga_c.specs.Declarations.{accepted, not_accepted}
use Rattle.naga_c.specs.Functions.{with_constants}
use Rattle.naga_c.proofs.CallLaws.{accepted_as, ends_refused, settings_as}
use Rattle.naga_c.proofs.declarations.check_declarations.Goals as goal

-- the validator has the settings in force, also after it accepted the module
pub report_declarations-requires-clause-settings : goal.report_declarations-requires-clause-settings
report_declarations-requires-clause-settings c =
    let same = settings_as c.args.subject.now (with_constants c.args.subject.now.flags) c.validator_of_functions-validator.result c.validator_of_functions-validator.ensures in
    ap (λ (s : State FullTyping). settings_of s c.args.subject.now.resolved) c.in-Ok.ensures.settings ∙ same

pub returns-in-Ok : goal.returns-in-Ok
returns-in-Ok c =
    let same = settings_as c.args.subject.now (with_constants c.args.subject.now.flags) c.validator_of_functions-validator.result c.validator_of_functions-validator.ensures in
    let now = ap (λ (s : State FullTyping). settings_of s c.args.subject.now.resolved) c.in-Ok.ensures.settings ∙ same in
    accepted c.validate.new.validator _ now (accepted_as c.args.subject.now.«module» _ _ _ _ same c.in-Ok.ensures.result) c.report_declarations.ensures

pub returns : goal.returns
returns c =
    let same = settings_as c.args.subject.now (with_constants c.args.subject.now.flags) c.validator_of_functions-validator.result c.validator_of_functions-validator.ensures in
    not_accepted (ends_refused c.args.subject.now.«module» _ _ _ _ c.as_inner-inner.result.now _ same c.in-Err.ensures.result c.as_inner-inner.ensures c.refused_outcome.ensures c.refused_status.ensures)
