use Rattle.std.proofs.Common.{rules}
use Rattle.std.proofs.lemmas.List.{take_min}
use Rattle.naga_typing.proofs.full_typing.result_types.Goals as goal

pub returns : goal.returns
returns c = search (rules, take_min)
