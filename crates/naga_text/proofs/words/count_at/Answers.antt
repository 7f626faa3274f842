use Rattle.naga_text.proofs.WordLaws.{counted}
use Rattle.naga_text.proofs.words.count_at.Goals as goal

pub returns : goal.returns
returns c = counted _ _ c.new.ensures
