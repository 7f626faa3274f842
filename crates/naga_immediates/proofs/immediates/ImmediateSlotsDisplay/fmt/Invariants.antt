use Rattle.std.proofs.Common.{◌≡◌}
use Rattle.std.specs.Fmt.{HasWritten, IsPlainFormatter}
use Rattle.naga_immediates.proofs.SlotTexts.{runs_before, separator, written}
use Rattle.naga_immediates.proofs.immediates.ImmediateSlotsDisplay.fmt.Given as goal

abbrev pub invariant-loop-slot : goal.invariant-loop-slot
invariant-loop-slot g l =
    (IsPlainFormatter l.initial.f → HasWritten g.W.Write.write_str_gives l.initial.f (written (runs_before l.self l.slot)) l.f) × (l.separator ≡ separator (runs_before l.self l.slot))
