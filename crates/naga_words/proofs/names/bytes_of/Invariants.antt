use Rattle.std.proofs.Common.{◌≡◌, ◌++◌, drop}
use Rattle.naga_words.specs.Texts.{bytes_in}
use Rattle.naga_words.proofs.names.bytes_of.Given as goal

-- the bytes so far, before the bytes of the words that are left, are the bytes of all words
abbrev pub invariant-loop-word : goal.invariant-loop-word
invariant-loop-word l = l.bytes.items ++ bytes_in (drop l.word-index l.words) ≡ bytes_in l.words
