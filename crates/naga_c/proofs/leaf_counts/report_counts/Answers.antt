use Rattle.std.proofs.Common.{Err, Ok, refl}
use Rattle.naga_c.specs.LeafCounts.{accepted}
use Rattle.naga_c.proofs.leaf_counts.report_counts.Goals as goal

pub returns-in-Ok : goal.returns-in-Ok
returns-in-Ok c =
    accepted c.args.queries.accepted.now.validator.infos c.requires.accepted.lists c.requires.accepted.accepted (Ok c.in-Ok.counted) c.in-Ok.ensures (refl, refl) c.counts_of-outcome.ensures

pub returns-in-Err : goal.returns-in-Err
returns-in-Err c =
    accepted c.args.queries.accepted.now.validator.infos c.requires.accepted.lists c.requires.accepted.accepted (Err c.in-Err.status) c.in-Err.ensures (c.requires.empty, refl) c.counts_of-outcome.ensures
