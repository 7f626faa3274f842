use Rattle.naga_valid.proofs.SlotLaws.{same_as_leaves}
use Rattle.naga_valid.proofs.laws.slots_of_leaves.Goals as goal

pub returns : goal.returns
returns g c = same_as_leaves c.args.module.now _ _ c.requires.accepted c.args.ty c.args.length c.args.offset c.args.slots
