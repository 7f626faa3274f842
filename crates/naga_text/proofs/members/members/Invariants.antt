use Rattle.std.proofs.Common.{◌≡◌, length}
use Rattle.naga_text.specs.LineWords.{lines_after, words_left}
use Rattle.naga_text.specs.WordForms.{member_of, read_each}
use Rattle.naga_text.proofs.EachLaws.{after}
use Rattle.naga_text.proofs.members.members.Given as goal

-- the members so far, before the members of the words that are left, are the members of all words, and
-- the lines after them are the same
abbrev pub invariant-loop-word : goal.invariant-loop-word
invariant-loop-word l = record {
  values : after member_of l.members (words_left l.words) ≡ read_each member_of (words_left l.initial.words);
  lines : lines_after l.words ≡ lines_after l.initial.words;
}

abbrev pub decreases-loop-word : goal.decreases-loop-word
decreases-loop-word l = length (words_left l.words)
