use Rattle.std.proofs.Common.{◌∷◌, ap, sym, ◌∙◌}
use Rattle.naga_module_text.specs.Words.{resource_binding_in}
use Rattle.naga_module_text.proofs.BindingLaws.{too_many_pieces}
use Rattle.naga_module_text.proofs.bindings.resource_binding.Goals as goal

pub returns-in_default-Some : goal.returns-in_default-Some
returns-in_default-Some c =
    let more = rw c.in_ok-rest.was at c.split_first.ensures.more in
    let more_still = rw c.in_default-Some.is-1 at c.split_first-2.ensures.more in
    let pieces = more ∙ ap (λ l. c.split_first.result.0.now ∷ l) more_still in
    sym (ap resource_binding_in pieces ∙ too_many_pieces c.split_first.result.0.now c.split_first-2.result.0.now c.in_default-Some.field-0-1.now)
