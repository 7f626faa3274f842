use Rattle.std.proofs.Common.{Ok, refl}
use Rattle.naga_c.specs.Leaves.{not_accepted}
use Rattle.naga_c.proofs.AcceptedLaws.{ends_without}
use Rattle.naga_c.proofs.LimitLaws.{leaves_as}
use Rattle.naga_c.proofs.calls.words_leaves.Goals as goal

pub returns-in-Ok : goal.returns-in-Ok
returns-in-Ok c = (Ok c.in-Ok.accepted.subject, c.in-Ok.ensures.0, leaves_as _ _ _ _ _ _ _ _ _ c.in-Ok.ensures.1 c.report_leaves.ensures)

pub returns-in-Err : goal.returns-in-Err
returns-in-Err c = let h = c.in-Err.ensures in (h.0, h.1, ends_without h.0 c.in-Err.not _ _ h.2 (λ subject e. not_accepted e) (refl, refl))
