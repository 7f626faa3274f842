use Rattle.std.proofs.Common.{refl}
use Rattle.naga_ir_tests.proofs.tests.ir_types.alignments_are_ordered_and_shown_by_their_bytes.Goals as goal

pub invariant_of-format : goal.invariant_of-format
invariant_of-format g c = (4, refl)

pub invariant_of-lt-2 : goal.invariant_of-lt-2
invariant_of-lt-2 g c = (4, refl)
