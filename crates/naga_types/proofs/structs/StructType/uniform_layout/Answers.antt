use Rattle.std.proofs.Common.{refl}
use Rattle.naga_types.proofs.structs.StructType.uniform_layout.Goals as goal

pub invariant_of-max : goal.invariant_of-max
invariant_of-max c = (4, refl)
