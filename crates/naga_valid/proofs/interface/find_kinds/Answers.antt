use Rattle.std.proofs.Common.{◌≡◌, ◌∙◌, rules, sym, tests}
use Rattle.std.proofs.lemmas.Bool.{false≢true}
use Rattle.std.proofs.lemmas.Iterator.{YieldsList-from_slice}
use Rattle.std.proofs.lemmas.Iterator.Search.{any_from_yields_List}
use Rattle.std.specs.List.{list_any}
use Rattle.naga_valid.proofs.NeededKinds.{has_initialiser}
use Rattle.naga_valid.proofs.interface.find_kinds.Goals as goal

pub returns-else-any-clause-found : goal.returns-else-any-clause-found
returns-else-any-clause-found c = λ some.
    let variables = c.args.module.now.global_variables in
    let is : c.any.result ≡ list_any has_initialiser variables =
    any_from_yields_List has_initialiser _ _ c.any.result c.any.ensures.ran (YieldsList-from_slice variables cc) (λ x b q k. search (rules, tests)) in
    absurd (false≢true (sym c.if-any.false ∙ is ∙ some))
