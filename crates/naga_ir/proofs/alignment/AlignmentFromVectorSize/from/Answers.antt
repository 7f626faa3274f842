use Rattle.std.proofs.Common.{refl}
use Rattle.naga_ir.proofs.alignment.AlignmentFromVectorSize.from.Goals as goal

pub invariant_of-result : goal.invariant_of-result
invariant_of-result c = (2, refl)
