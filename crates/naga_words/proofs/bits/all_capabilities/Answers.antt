use Rattle.std.proofs.Common.{◌∙◌}
use Rattle.bitflags.specs.Sets.{known_from}
use Rattle.naga_words.proofs.bits.all_capabilities.Goals as goal

pub returns : goal.returns
unfolding known_from
returns c = c.bits.ensures tt ∙ c.all.ensures tt
