use Rattle.std.proofs.Common.{◌≡◌, ℕ, List, Some, ap, subst, sym, ◌∙◌}
use Rattle.naga_ir.specs.declared.expression.Expression.TheVariants as form
use Rattle.naga_info.proofs.sources.components_at.Goals as goal
use Rattle.naga_info.specs.Integers.{expression_at, scope_in}

pub returns : goal.returns
returns c =
    let s = scope_in c.args.«module».now c.args.function.now in
    let p = c.args.place.now in
    let ty = c.in-Compose.ty in
    let own = c.in-Compose.components in
    let at = c.expression_at.ensures ∙ ap Some c.in-Compose.is in
    record {
      of_composition = λ t given is. let same : own ≡ given = cc (sym at ∙ is) in c.as_slice.ensures ∙ same;
      composed = λ o within. (ty, subst (λ (os : List ℕ). expression_at s p ≡ Some (form.Compose ty os)) (sym c.as_slice.ensures) at);
    }
