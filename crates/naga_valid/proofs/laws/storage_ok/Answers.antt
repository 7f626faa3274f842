use Rattle.naga_valid.proofs.ModuleLaws.{storage_by_leaves}
use Rattle.naga_valid.proofs.laws.storage_ok.Goals as goal

pub returns : goal.returns
returns g c = storage_by_leaves c.args.module.now _ _ c.requires.accepted c.args.ty
