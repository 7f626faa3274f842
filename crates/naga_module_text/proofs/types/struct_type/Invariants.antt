use Rattle.std.proofs.Common.{length}
use Rattle.naga_text.specs.LineWords.{words_left}
use Rattle.naga_module_text.proofs.types.struct_type.Given as goal

abbrev pub decreases-loop-word : goal.decreases-loop-word
decreases-loop-word l = length (words_left l.words)
