use Rattle.std.proofs.Common.{rules, ◌≡◌, ap, subst, sym, map}
use Rattle.std.specs.Prelude.{Ok, Err}
use Rattle.naga_ir.specs.ItemReferences.{named_references}
use Rattle.naga_ir.specs.References.{operands}
use Rattle.naga_ir.specs.FirstError.{ChecksEach}
use Rattle.naga_ir.specs.declared.reference.Reference.TheVariants as to
use Rattle.naga_ir.proofs.StatementLemmas.{checks-along, checks-before, checks-then}
use Rattle.naga_handles.specs.steps.ItemChecks.{IsResult, checks}
use Rattle.naga_handles.specs.steps.Checks.{of_expression, of_function}
use Rattle.naga_handles.proofs.CheckLemmas.{checks-operands, named-present}
use Rattle.naga_handles.proofs.handles.validate_expression_handles.Goals as goal

pub returns-in_err-check_operands : goal.returns-in_err-check_operands
returns-in_err-check_operands c =
    let n = c.args.scope.now.counts in
    let x = c.args.expression.now in
    let is : c.from_residual.result ≡ Err c.in_err-check_operands.field-0.0 = search rules in
    subst (ChecksEach IsResult _) (sym is)
    (checks-before IsResult (checks n (of_expression c.args.handle) (map to.Expression (operands x))) (checks n (of_function c.args.scope.now.caller) (named_references x)) _
    (checks-operands n c.args.handle (operands x) (Err _) c.in_err-check_operands.ensures))

pub returns : goal.returns
returns c =
    let n = c.args.scope.now.counts in
    let x = c.args.expression.now in
    let s = of_function c.args.scope.now.caller in
    checks-then IsResult (checks n (of_expression c.args.handle) (map to.Expression (operands x))) (checks n s (named_references x)) _
    (checks-operands n c.args.handle (operands x) (Ok _) c.in_ok-check_operands.ensures)
    (checks-along IsResult _ _ _ (ap (checks n s) (named-present x)) (search rules))
