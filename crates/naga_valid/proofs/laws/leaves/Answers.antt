use Rattle.naga_valid.proofs.ModuleLaws.{sized_leaves}
use Rattle.naga_valid.proofs.laws.leaves.Goals as goal

pub returns : goal.returns
returns g c = sized_leaves c.args.module.now _ _ c.requires.accepted c.args.ty c.args.length
