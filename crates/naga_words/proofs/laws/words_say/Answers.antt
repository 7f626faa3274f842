use Rattle.naga_words.proofs.ModuleLaws.{words_say}
use Rattle.naga_words.proofs.laws.words_say.Goals as goal

pub returns : goal.returns
returns c = words_say c.args.«module».now
