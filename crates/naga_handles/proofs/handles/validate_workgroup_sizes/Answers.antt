use Rattle.std.proofs.Common.{rules, ℕ, ◌∙◌, List, Option, ap, map, refl, sym, option_to_list}
use Rattle.naga_ir.specs.ItemReferences.{workgroup_sizes}
use Rattle.naga_ir.specs.declared.reference.Reference.TheVariants as to
use Rattle.naga_ir.proofs.StatementLemmas.{checks-along}
use Rattle.naga_handles.specs.steps.ItemChecks.{IsResult, checks}
use Rattle.naga_handles.specs.steps.Checks.{of_function}
use Rattle.naga_handles.proofs.CheckLemmas.{checks-called, flat-present, one-present}
use Rattle.naga_handles.proofs.handles.validate_workgroup_sizes.Goals as goal

pub returns-in-Some : goal.returns-in-Some
returns-in-Some c =
    let n = c.args.scope.now.counts in
    let s = of_function c.args.scope.now.caller in
    let sizes = c.in-Some.sizes in
    checks-along IsResult _ _ _ (ap (checks n s) (flat-present to.Expression sizes ∙ ap (λ (o : Option (List (Option ℕ))). map to.Expression (workgroup_sizes o)) (sym c.in-Some.is)))
    (checks-called n s (λ (o : Option ℕ). map to.Expression (option_to_list o)) sizes refl
    (λ y t k. checks-along IsResult _ _ _ (ap (checks n s) (one-present to.Expression y.now)) (search rules)) c.try_each.ensures)
