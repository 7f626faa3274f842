use Rattle.std.proofs.Common.{◌≡◌, drop}
use Rattle.naga_words.specs.Operands.{handle_of}
use Rattle.naga_words.specs.Reading.{read_each}
use Rattle.naga_words.proofs.AllLaws.{then}
use Rattle.naga_words.proofs.operands.expressions.Given as goal

-- the expressions so far, before those of the words that are left, are those of all words
abbrev pub invariant-loop-word : goal.invariant-loop-word
invariant-loop-word l = then l.expressions (read_each handle_of (drop l.word-index l.words)) ≡ read_each handle_of l.words
