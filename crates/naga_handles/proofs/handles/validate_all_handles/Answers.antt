use Rattle.naga_handles.proofs.HandleVerdict.{all_right}
use Rattle.naga_handles.proofs.handles.validate_all_handles.Goals as goal

pub returns-clause-accepted : goal.returns-clause-accepted
returns-clause-accepted c = all_right c.args.«module».now c.in_ok-walk.ensures.accepted c.validate_other_handles.result c.validate_other_handles.ensures.accepted
