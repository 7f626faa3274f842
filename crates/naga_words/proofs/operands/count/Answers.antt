use Rattle.naga_words.proofs.Counts.{counted}
use Rattle.naga_words.proofs.operands.count.Goals as goal

pub returns : goal.returns
returns c = counted _ _ c.new.ensures
