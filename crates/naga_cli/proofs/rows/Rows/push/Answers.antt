use Rattle.std.proofs.Common.{arith}
use Rattle.naga_cli.proofs.Covered.{more}
use Rattle.naga_cli.proofs.rows.Rows.push.Goals as goal

pub returns-clause-covered : goal.returns-clause-covered
returns-clause-covered c =
    rw (c.in_ok-push.ensures.items) (more c.args.self.now.rows.items c.args.row c.args.self.now.end _ c.requires.covered c.requires.next (omega (arith, c.max-end.ensures, c.saturating_add.ensures)))
