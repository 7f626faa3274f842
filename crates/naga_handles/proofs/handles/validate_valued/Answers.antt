use Rattle.std.proofs.Common.{rules, ◌≡◌, subst, sym}
use Rattle.std.specs.Prelude.{Err}
use Rattle.naga_ir.specs.FirstError.{ChecksEach}
use Rattle.naga_ir.specs.ItemReferences.{constant_references, global_variable_references, override_references}
use Rattle.naga_handles.specs.steps.ItemChecks.{IsResult}
use Rattle.naga_handles.specs.steps.Checks.{of_function}
use Rattle.naga_handles.proofs.CheckLemmas.{checks-called, references-before, references-then}
use Rattle.naga_handles.proofs.handles.validate_valued.Goals as goal

pub returns-in_err-try_each : goal.returns-in_err-try_each
returns-in_err-try_each c =
    let n = c.args.scope.now.counts in
    let s = of_function c.args.scope.now.caller in
    let m = c.args.«module».now in
    let is : c.from_residual.result ≡ Err c.in_err-try_each.field-0.0 = search rules in
    subst (ChecksEach IsResult _) (sym is)
    (references-before n s _ _ _ (checks-called n s constant_references m.constants c.as_slice.ensures (λ y t k. search rules) c.in_err-try_each.ensures))

pub returns-in_err-try_each-2 : goal.returns-in_err-try_each-2
returns-in_err-try_each-2 c =
    let n = c.args.scope.now.counts in
    let s = of_function c.args.scope.now.caller in
    let m = c.args.«module».now in
    let is : c.from_residual-in_err-try_each-2.result ≡ Err c.in_err-try_each-2.field-0.0 = search rules in
    subst (ChecksEach IsResult _) (sym is)
    (references-then n s _ _ (Err _) (checks-called n s constant_references m.constants c.as_slice.ensures (λ y t k. search rules) c.in_ok-try_each.ensures)
    (references-before n s _ _ _ (checks-called n s override_references m.overrides c.as_slice-2.ensures (λ y t k. search rules) c.in_err-try_each-2.ensures)))

pub returns : goal.returns
returns c =
    let n = c.args.scope.now.counts in
    let s = of_function c.args.scope.now.caller in
    let m = c.args.«module».now in
    references-then n s _ _ _ (checks-called n s constant_references m.constants c.as_slice.ensures (λ y t k. search rules) c.in_ok-try_each.ensures)
    (references-then n s _ _ _ (checks-called n s override_references m.overrides c.as_slice-2.ensures (λ y t k. search rules) c.in_ok-try_each-2.ensures)
    (checks-called n s global_variable_references m.global_variables c.as_slice-3.ensures (λ y t k. search rules) c.try_each-3.ensures))
