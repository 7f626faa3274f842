use Rattle.std.proofs.Common.{All, take}
use Rattle.naga_text.specs.steps.Lines.{IsInWord}
use Rattle.naga_text.proofs.line_words.split_word.Given as goal

-- no byte so far ends the word
abbrev pub invariant-loop-i : goal.invariant-loop-i
invariant-loop-i l = All IsInWord (take l.i l.bytes)
