use Rattle.std.proofs.Common.{◌<◌, length}
use Rattle.naga_ir.proofs.PartLemmas.{base_is}
use Rattle.naga_interface.proofs.varying.are_distances.Goals as goal

pub index-requires : goal.index-requires
index-requires c =
    let array = c.in-Array-default-Constant-default in
    base_is (λ p. p < length c.args.types.now) c.args.inner.now array.base array.size array.stride c.requires array.is
