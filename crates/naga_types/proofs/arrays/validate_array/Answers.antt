use Rattle.std.proofs.Common.{refl}
use Rattle.naga_types.proofs.arrays.validate_array.Goals as goal

pub invariant_of-max : goal.invariant_of-max
invariant_of-max c = (4, refl)
