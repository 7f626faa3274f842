use Rattle.std.proofs.Common.{◌≡◌, ◌++◌, ◌≤◌, length, map, take}
use Rattle.naga_text.specs.LineWords.{lines_after, words_left}
use Rattle.naga_text.proofs.line_words.LineWords.all.Given as goal

-- the words so far, before those that are left, are all words, and the lines after them are the same
abbrev pub invariant-loop-word : goal.invariant-loop-word
invariant-loop-word l = record {
  words : map (λ w. w.now) (take l.count l.room) ++ words_left l.self ≡ words_left l.initial.self;
  within : l.count ≤ length l.room;
  room : length l.room ≡ length l.initial.room;
  lines : lines_after l.self ≡ lines_after l.initial.self;
}

abbrev pub decreases-loop-word : goal.decreases-loop-word
decreases-loop-word l = length (words_left l.self)
