use Rattle.std.proofs.Common.{◌≡◌, ◌==◌, All, false, take}
use Rattle.naga_text.proofs.pieces.split_first.Given as goal

-- no byte so far is the separator
abbrev pub invariant-loop-i : goal.invariant-loop-i
invariant-loop-i l = All (λ b. (b == l.separator) ≡ false) (take l.i l.bytes)
