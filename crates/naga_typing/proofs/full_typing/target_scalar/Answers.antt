use Rattle.naga_typing.proofs.Resolutions.{base_exists}
use Rattle.naga_typing.proofs.full_typing.target_scalar.Goals as goal

pub index-requires : goal.index-requires
index-requires c = base_exists c.args.types.now _ _ _ c.requires c.in-Pointer.is
