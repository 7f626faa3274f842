use Rattle.std.proofs.Common.{rules, ◌≡◌, ap, subst, sym}
use Rattle.std.specs.Prelude.{Err}
use Rattle.naga_ir.specs.FirstError.{ChecksEach}
use Rattle.naga_ir.specs.declared.ir.FunctionArgument.{FunctionArgument}
use Rattle.naga_ir.specs.declared.ir.FunctionResult.{FunctionResult}
use Rattle.naga_ir.specs.declared.reference.Reference.TheVariants as to
use Rattle.naga_ir.proofs.StatementLemmas.{checks-along}
use Rattle.naga_handles.specs.steps.ItemChecks.{IsResult, checks}
use Rattle.naga_handles.specs.steps.Checks.{of_function}
use Rattle.naga_handles.proofs.CheckLemmas.{checks-called-one, references-before, references-then, one-present}
use Rattle.naga_handles.proofs.handles.validate_signature.Goals as goal

pub returns-in_err-try_each : goal.returns-in_err-try_each
returns-in_err-try_each c =
    let n = c.args.scope.now.counts in
    let s = of_function c.args.scope.now.caller in
    let f = c.args.function.now in
    let is : c.from_residual.result ≡ Err c.in_err-try_each.field-0.0 = search rules in
    subst (ChecksEach IsResult _) (sym is)
    (references-before n s _ _ _ (checks-called-one n s (λ (a : FunctionArgument). to.Type_ a.ty) f.arguments c.as_slice.ensures (λ y t k. search rules) c.in_err-try_each.ensures))

pub returns : goal.returns
returns c =
    let n = c.args.scope.now.counts in
    let s = of_function c.args.scope.now.caller in
    let f = c.args.function.now in
    references-then n s _ _ _ (checks-called-one n s (λ (a : FunctionArgument). to.Type_ a.ty) f.arguments c.as_slice.ensures (λ y t k. search rules) c.in_ok-try_each.ensures)
    (checks-along IsResult _ _ _ (ap (checks n s) (one-present (λ (r : FunctionResult). to.Type_ r.ty) f.result)) (search rules))
