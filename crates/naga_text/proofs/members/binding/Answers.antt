use Rattle.std.proofs.Common.{◌∷◌, ap, sym, ◌∙◌}
use Rattle.naga_text.specs.WordForms.{binding_of}
use Rattle.naga_text.proofs.MemberLaws.{too_many_pieces}
use Rattle.naga_text.proofs.members.binding.Goals as goal

pub returns-in_default-Some : goal.returns-in_default-Some
returns-in_default-Some c =
    let more = rw c.in-Some.is at c.split_first.ensures.more in
    let more_still = rw c.in_default-Some.is-1 at c.split_first-in-Some.ensures.more in
    let pieces = more ∙ ap (λ l. c.split_first.result.0.now ∷ l) more_still in
    sym (ap binding_of pieces ∙ too_many_pieces c.split_first.result.0.now c.split_first-in-Some.result.0.now c.in_default-Some.field-0-1.now)
