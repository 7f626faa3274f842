use Rattle.std.proofs.Common.{rules, ℕ, ◌≡◌, List, subst, sym}
use Rattle.std.specs.Prelude.{Err}
use Rattle.naga_ir.specs.FirstError.{ChecksEach}
use Rattle.naga_ir.specs.declared.reference.Reference.TheVariants as to
use Rattle.naga_handles.specs.steps.ItemChecks.{IsResult}
use Rattle.naga_handles.specs.steps.Checks.{of_function}
use Rattle.naga_handles.proofs.CheckLemmas.{checks-called-one, references-before, references-then}
use Rattle.naga_handles.proofs.handles.validate_documented.Goals as goal

pub returns-in_err-try_each : goal.returns-in_err-try_each
returns-in_err-try_each c =
    let n = c.args.scope.now.counts in
    let s = of_function c.args.scope.now.caller in
    let d = c.args.comments.now in
    let is : c.from_residual.result ≡ Err c.in_err-try_each.field-0.0 = search rules in
    subst (ChecksEach IsResult _) (sym is)
    (references-before n s _ _ _ (checks-called-one n s (λ (p : ℕ × List (List ℕ)). to.Type_ p.0) d.types c.as_slice.ensures (λ y t k. search rules) c.in_err-try_each.ensures))

pub returns-in_err-try_each-2 : goal.returns-in_err-try_each-2
returns-in_err-try_each-2 c =
    let n = c.args.scope.now.counts in
    let s = of_function c.args.scope.now.caller in
    let d = c.args.comments.now in
    let is : c.from_residual-in_err-try_each-2.result ≡ Err c.in_err-try_each-2.field-0.0 = search rules in
    subst (ChecksEach IsResult _) (sym is)
    (references-then n s _ _ (Err _) (checks-called-one n s (λ (p : ℕ × List (List ℕ)). to.Type_ p.0) d.types c.as_slice.ensures (λ y t k. search rules) c.in_ok-try_each.ensures)
    (references-before n s _ _ _ (checks-called-one n s (λ (p : ℕ × List (List ℕ)). to.Function p.0) d.functions c.as_slice-2.ensures (λ y t k. search rules) c.in_err-try_each-2.ensures)))

pub returns-in_err-try_each-3 : goal.returns-in_err-try_each-3
returns-in_err-try_each-3 c =
    let n = c.args.scope.now.counts in
    let s = of_function c.args.scope.now.caller in
    let d = c.args.comments.now in
    let is : c.from_residual-in_err-try_each-3.result ≡ Err c.in_err-try_each-3.field-0.0 = search rules in
    subst (ChecksEach IsResult _) (sym is)
    (references-then n s _ _ (Err _) (checks-called-one n s (λ (p : ℕ × List (List ℕ)). to.Type_ p.0) d.types c.as_slice.ensures (λ y t k. search rules) c.in_ok-try_each.ensures)
    (references-then n s _ _ (Err _) (checks-called-one n s (λ (p : ℕ × List (List ℕ)). to.Function p.0) d.functions c.as_slice-2.ensures (λ y t k. search rules) c.in_ok-try_each-2.ensures)
    (references-before n s _ _ _ (checks-called-one n s (λ (p : ℕ × List (List ℕ)). to.Constant p.0) d.constants c.as_slice-3.ensures (λ y t k. search rules) c.in_err-try_each-3.ensures))))

pub returns : goal.returns
returns c =
    let n = c.args.scope.now.counts in
    let s = of_function c.args.scope.now.caller in
    let d = c.args.comments.now in
    references-then n s _ _ _ (checks-called-one n s (λ (p : ℕ × List (List ℕ)). to.Type_ p.0) d.types c.as_slice.ensures (λ y t k. search rules) c.in_ok-try_each.ensures)
    (references-then n s _ _ _ (checks-called-one n s (λ (p : ℕ × List (List ℕ)). to.Function p.0) d.functions c.as_slice-2.ensures (λ y t k. search rules) c.in_ok-try_each-2.ensures)
    (references-then n s _ _ _ (checks-called-one n s (λ (p : ℕ × List (List ℕ)). to.Constant p.0) d.constants c.as_slice-3.ensures (λ y t k. search rules) c.in_ok-try_each-3.ensures)
    (checks-called-one n s (λ (p : ℕ × List (List ℕ)). to.GlobalVariable p.0) d.global_variables c.as_slice-4.ensures (λ y t k. search rules) c.try_each-4.ensures)))
