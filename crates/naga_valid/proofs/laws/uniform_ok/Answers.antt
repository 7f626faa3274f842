use Rattle.naga_valid.proofs.ModuleLaws.{uniform_by_leaves}
use Rattle.naga_valid.proofs.laws.uniform_ok.Goals as goal

pub returns : goal.returns
returns g c = uniform_by_leaves c.args.module.now _ _ c.requires.accepted c.args.ty
