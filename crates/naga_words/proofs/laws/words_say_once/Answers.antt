use Rattle.naga_words.proofs.ModuleLaws.{words_say_once}
use Rattle.naga_words.proofs.laws.words_say_once.Goals as goal

pub returns : goal.returns
returns c = λ a b h k. words_say_once c.args.words.now a b h k
