use Rattle.std.proofs.Common.{refl}
use Rattle.naga_types.proofs.structs.StructType.end_after_struct_before.Goals as goal

pub invariant_of-round_up : goal.invariant_of-round_up
invariant_of-round_up c = (4, refl)
