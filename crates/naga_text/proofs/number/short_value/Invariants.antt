use Rattle.std.proofs.Common.{◌≡◌, ◌^◌, ◌<◌, drop}
use Rattle.std.specs.Str.{all_ascii_digits}
use Rattle.naga_text.specs.Words.{value_after}
use Rattle.naga_text.proofs.number.short_value.Given as goal

-- the digits so far write `value`, and the digits that are left make it the number of the word
abbrev pub invariant-loop-byte : goal.invariant-loop-byte
invariant-loop-byte l = record {
  fits : l.value < 10 ^ l.byte-index;
  digits : all_ascii_digits (drop l.byte-index l.word) ≡ all_ascii_digits l.word;
  value : value_after l.value (drop l.byte-index l.word) ≡ value_after 0 l.word;
}
