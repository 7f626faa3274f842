use Rattle.naga_immediates.proofs.SlotSets.{ranges_join}
use Rattle.naga_valid.proofs.laws.ranges_join.Goals as goal

pub returns : goal.returns
returns c = ranges_join c.args.offset c.args.size c.args.more c.args.first c.args.next c.args.both c.requires.first c.requires.next c.requires.both
