use Rattle.std.proofs.Common.{arith}
use Rattle.naga_immediates.proofs.SlotBits.{in_difference}
use Rattle.naga_immediates.proofs.immediates.ImmediateSlots.difference.Goals as goal

pub returns : goal.returns
returns c = in_difference c.args.self.0 c.args.other.0 (omega arith) (omega arith)
