use Rattle.std.proofs.Common.{arith}
use Rattle.std.proofs.lemmas.Bool.Decides.{nat_tests}
use Rattle.naga_immediates.proofs.SlotBits.{none_without}
use Rattle.naga_immediates.proofs.immediates.ImmediateSlots.contains.Goals as goal

pub returns : goal.returns
returns c =
    let h = none_without c.args.other.0 c.args.self.0 (omega arith) (omega arith) in
    ((λ e. h.0 (grind (arith, nat_tests, e))), λ all. let none = h.1 all in grind (arith, nat_tests, none))
