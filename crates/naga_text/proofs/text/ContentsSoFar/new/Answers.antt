use Rattle.std.proofs.Common.{refl}
use Rattle.naga_text.proofs.SoFarLaws.{nothing_read}
use Rattle.naga_text.proofs.text.ContentsSoFar.new.Goals as goal

pub returns : goal.returns
returns c = nothing_read _ c.new.ensures.nothing_else c.new.ensures.types refl refl refl
