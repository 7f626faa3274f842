use Rattle.std.proofs.Common.{Err, Ok}
use Rattle.naga_c.proofs.calls.words_declarations.Goals as goal

pub returns-in-Ok : goal.returns-in-Ok
returns-in-Ok c = (Ok c.in-Ok.subject, c.in-Ok.ensures, c.check_declarations.ensures)

pub returns-in-Err : goal.returns-in-Err
returns-in-Err c = (Err c.in-Err.why, c.in-Err.ensures, (c.outcome_without.ensures, c.status_without.ensures))
