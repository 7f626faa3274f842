use Rattle.std.proofs.Common.{◌≡◌, ◌==◌, drop}
use Rattle.std.specs.List.{list_all}
use Rattle.naga_words.proofs.names.are_zero.Given as goal

-- all bytes are 0 if those that are left are
abbrev pub invariant-loop-byte : goal.invariant-loop-byte
invariant-loop-byte l = list_all (λ b. b == 0) (drop l.byte-index l.bytes) ≡ list_all (λ b. b == 0) l.bytes
