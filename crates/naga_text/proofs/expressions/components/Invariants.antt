use Rattle.std.proofs.Common.{◌≡◌, length}
use Rattle.naga_text.specs.LineWords.{lines_after, words_left}
use Rattle.naga_text.specs.WordForms.{read_each}
use Rattle.naga_text.specs.Words.{handle_of}
use Rattle.naga_text.proofs.EachLaws.{after}
use Rattle.naga_text.proofs.expressions.components.Given as goal

-- the components so far, before the components of the words that are left, are the components of all words, and
-- the lines after them are the same
abbrev pub invariant-loop-word : goal.invariant-loop-word
invariant-loop-word l = record {
  values : after handle_of l.components (words_left l.words) ≡ read_each handle_of (words_left l.initial.words);
  lines : lines_after l.words ≡ lines_after l.initial.words;
}

abbrev pub decreases-loop-word : goal.decreases-loop-word
decreases-loop-word l = length (words_left l.words)
