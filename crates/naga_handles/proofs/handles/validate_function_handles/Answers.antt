use Rattle.std.proofs.Common.{rules, ◌≡◌, subst, sym}
use Rattle.std.specs.Prelude.{Err}
use Rattle.naga_ir.specs.FirstError.{ChecksEach}
use Rattle.naga_ir.proofs.StatementLemmas.{checks-before, checks-then}
use Rattle.naga_handles.specs.steps.ItemChecks.{IsResult}
use Rattle.naga_handles.proofs.handles.validate_function_handles.Goals as goal

pub returns-in_err-validate_locals : goal.returns-in_err-validate_locals
returns-in_err-validate_locals c =
    let is : c.from_residual-in_err-validate_locals.result ≡ Err c.in_err-validate_locals.field-0.0 = search rules in
    subst (ChecksEach IsResult _) (sym is)
    (checks-then IsResult _ _ (Err _) c.in_ok-validate_signature.ensures
    (checks-before IsResult _ _ _ c.in_err-validate_locals.ensures))

pub returns-in_err-validate_expressions : goal.returns-in_err-validate_expressions
returns-in_err-validate_expressions c =
    let is : c.from_residual-in_err-validate_expressions.result ≡ Err c.in_err-validate_expressions.field-0.0 = search rules in
    subst (ChecksEach IsResult _) (sym is)
    (checks-then IsResult _ _ (Err _) c.in_ok-validate_signature.ensures
    (checks-then IsResult _ _ (Err _) c.in_ok-validate_locals.ensures
    (checks-before IsResult _ _ _ c.in_err-validate_expressions.ensures)))

pub returns : goal.returns
returns c =
    checks-then IsResult _ _ _ c.in_ok-validate_signature.ensures
    (checks-then IsResult _ _ _ c.in_ok-validate_locals.ensures
    (checks-then IsResult _ _ _ c.in_ok-validate_expressions.ensures c.validate_body.ensures))
