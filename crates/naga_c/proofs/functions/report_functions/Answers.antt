use Rattle.naga_c.specs.Functions.{all, one_refused}
use Rattle.naga_c.proofs.CallLaws.{validates_as}
use Rattle.naga_c.proofs.functions.report_functions.Goals as goal

pub returns-in-Ok : goal.returns-in-Ok
returns-in-Ok c = all _ (validates_as c.args.subject.now c.args.validator.now _ _ _ c.requires.capabilities c.requires.subgroups c.in-Ok.ensures) c.report_all.ensures

pub returns-in-Err : goal.returns-in-Err
returns-in-Err c = one_refused _ c.in-Err.refused (validates_as c.args.subject.now c.args.validator.now _ _ _ c.requires.capabilities c.requires.subgroups c.in-Err.ensures) c.report_refused.ensures
