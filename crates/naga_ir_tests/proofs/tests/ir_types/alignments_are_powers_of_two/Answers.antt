use Rattle.std.proofs.Common.{refl}
use Rattle.naga_ir_tests.proofs.tests.ir_types.alignments_are_powers_of_two.Goals as goal

pub from_width-requires : goal.from_width-requires
from_width-requires g c = (3, refl)

pub invariant_of-get-2 : goal.invariant_of-get-2
invariant_of-get-2 g c = (4, refl)
