use Rattle.std.proofs.Common.{rules, ◌≡◌, ℕ, List, subst, sym}
use Rattle.std.specs.Prelude.{Err}
use Rattle.naga_ir.specs.FirstError.{ChecksEach}
use Rattle.naga_ir.specs.ItemReferences.{local_variable_references}
use Rattle.naga_ir.specs.declared.reference.Reference.TheVariants as to
use Rattle.naga_handles.specs.steps.ItemChecks.{IsResult}
use Rattle.naga_handles.specs.steps.Checks.{of_function}
use Rattle.naga_handles.proofs.CheckLemmas.{checks-called, checks-called-one, references-before, references-then}
use Rattle.naga_handles.proofs.handles.validate_locals.Goals as goal

pub returns-in_err-try_each : goal.returns-in_err-try_each
returns-in_err-try_each c =
    let n = c.args.scope.now.counts in
    let s = of_function c.args.scope.now.caller in
    let f = c.args.function.now in
    let is : c.from_residual.result ≡ Err c.in_err-try_each.field-0.0 = search rules in
    subst (ChecksEach IsResult _) (sym is)
    (references-before n s _ _ _ (checks-called n s local_variable_references f.local_variables c.as_slice.ensures (λ y t k. search rules) c.in_err-try_each.ensures))

pub returns : goal.returns
returns c =
    let n = c.args.scope.now.counts in
    let s = of_function c.args.scope.now.caller in
    let f = c.args.function.now in
    references-then n s _ _ _ (checks-called n s local_variable_references f.local_variables c.as_slice.ensures (λ y t k. search rules) c.in_ok-try_each.ensures)
    (checks-called-one n s (λ (p : ℕ × List ℕ). to.Expression p.0) f.named_expressions c.as_slice-2.ensures (λ y t k. search rules) c.try_each-2.ensures)
