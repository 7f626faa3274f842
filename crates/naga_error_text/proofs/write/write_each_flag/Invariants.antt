use Rattle.std.proofs.Common.{◌≡◌, ◌+◌, drop, length, map}
use Rattle.naga_error_text.specs.Flags.{flag_text}
use Rattle.naga_error_text.specs.steps.Pieces.{row_of}
use Rattle.naga_error_text.specs.steps.Writing.{written_at}
use Rattle.std.specs.List.{concat}
use Rattle.naga_error_text.proofs.write.write_each_flag.Given as goal

-- the flags that are left, written at the place that is reached, make the text of all of them
abbrev pub invariant-loop-flag : goal.invariant-loop-flag
invariant-loop-flag l =
    (l.at + length (concat (map (flag_text l.set) (map row_of (drop l.flag-index l.flags)))) ≡ l.fn.start + length (concat (map (flag_text l.set) (map row_of l.flags)))) ×
    (written_at l.at (concat (map (flag_text l.set) (map row_of (drop l.flag-index l.flags)))) l.buffer ≡ written_at l.fn.start (concat (map (flag_text l.set) (map row_of l.flags))) l.fn.buffer)
