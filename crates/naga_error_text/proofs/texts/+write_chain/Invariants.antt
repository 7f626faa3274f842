use Rattle.std.proofs.Common.{length}
use Rattle.naga_error_text.proofs.texts.+write_chain.Given as goal

-- each error takes a number
abbrev pub decreases-write_chain : goal.decreases-write_chain
decreases-write_chain l = length l.numbers.now
