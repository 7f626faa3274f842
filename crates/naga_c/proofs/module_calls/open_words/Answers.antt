use Rattle.std.proofs.Common.{Ok, refl}
use Rattle.naga_c.specs.OpenModules.{not_opened}
use Rattle.naga_c.proofs.AcceptedLaws.{ends_without, not_accepted_as}
use Rattle.naga_c.proofs.LimitLaws.{opens_as}
use Rattle.naga_c.proofs.module_calls.open_words.Goals as goal

pub returns-in-Ok : goal.returns-in-Ok
returns-in-Ok c = (Ok c.in-Ok.accepted.subject, c.in-Ok.ensures.0, opens_as _ _ _ _ _ _ c.in-Ok.ensures.1 c.keep.ensures)

pub returns-in-Err : goal.returns-in-Err
returns-in-Err c =
    let h = c.in-Err.ensures in
    (h.0, h.1, ends_without h.0 c.in-Err.not _ _ h.2 (λ subject e. not_opened c.null.ensures (not_accepted_as _ _ _ _ _ (λ o left. left.1) e)) (c.null.ensures, refl))
