use Rattle.naga_valid.proofs.ModuleLaws.{leaves_by_length}
use Rattle.naga_valid.proofs.laws.leaves_at_length.Goals as goal

pub returns : goal.returns
returns g c = leaves_by_length c.args.module.now _ _ c.requires.accepted c.args.ty c.args.length
