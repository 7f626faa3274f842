use Rattle.std.proofs.Common.{rules, ◌≡◌, ap, subst, sym}
use Rattle.std.specs.Prelude.{Err}
use Rattle.naga_ir.specs.FirstError.{ChecksEach}
use Rattle.naga_ir.specs.declared.reference.Reference.TheVariants as to
use Rattle.naga_ir.proofs.StatementLemmas.{checks-along}
use Rattle.naga_handles.specs.steps.ItemChecks.{IsResult, checks}
use Rattle.naga_handles.specs.steps.Checks.{of_function}
use Rattle.naga_handles.proofs.CheckLemmas.{references-before, references-then, one-present}
use Rattle.naga_handles.proofs.handles.validate_body.Goals as goal

pub returns-in_err-validate_statements : goal.returns-in_err-validate_statements
returns-in_err-validate_statements c =
    let n = c.args.scope.now.counts in
    let s = of_function c.args.scope.now.caller in
    let is : c.from_residual.result ≡ Err c.in_err-validate_statements.field-0.0 = search rules in
    subst (ChecksEach IsResult _) (sym is) (references-before n s _ _ _ c.in_err-validate_statements.ensures)

pub returns : goal.returns
returns c =
    let n = c.args.scope.now.counts in
    let s = of_function c.args.scope.now.caller in
    let f = c.args.function.now in
    references-then n s _ _ _ c.in_ok-validate_statements.ensures
    (checks-along IsResult _ _ _ (ap (checks n s) (one-present to.DiagnosticFilterNode f.diagnostic_filter_leaf)) (search rules))
