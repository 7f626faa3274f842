use Rattle.std.proofs.Common.{arith}
use Rattle.naga_immediates.proofs.SlotTexts.{same_from_text}
use Rattle.naga_valid.proofs.laws.slot_text.Goals as goal

pub returns : goal.returns
returns c = same_from_text c.args.slots c.args.other (omega arith) (omega arith)
