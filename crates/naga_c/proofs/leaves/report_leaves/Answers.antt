use Rattle.std.proofs.Common.{[]}
use Rattle.naga_c.specs.Leaves.{accepted, buffers}
use Rattle.naga_c.proofs.LeafLaws.{written_none}
use Rattle.naga_c.proofs.leaves.report_leaves.Goals as goal

pub returns : goal.returns
returns c =
    let m = c.args.queries.accepted.now in
    let old = buffers c.args.leaves.now c.args.paths.now c.args.counts.now in
    let wrote = c.write_all-status.ensures in
    accepted m.validator.infos c.requires.accepted.lists c.requires.accepted.accepted wrote.answers (wrote.added [] old (written_none old c.requires.empty)) wrote.reported c.counts_of.ensures
