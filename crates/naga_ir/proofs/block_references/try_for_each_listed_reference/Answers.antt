use Rattle.std.proofs.Common.{rules, ◌≡◌, ap, subst, sym, map, []}
use Rattle.std.specs.Prelude.{Ok, Err}
use Rattle.naga_ir.specs.steps.StatementParts.{call_arguments, operands_of, target_of}
use Rattle.naga_ir.specs.Operands.{present}
use Rattle.naga_ir.specs.FirstError.{ChecksEach}
use Rattle.naga_ir.specs.declared.statement.Statement.TheViews.{out-Statement}
use Rattle.naga_ir.specs.declared.reference.Reference.TheVariants as to
use Rattle.naga_ir.proofs.StatementLemmas.{checks-along, checks-none, checks-single, checks-before, checks-then, checks-own}
use Rattle.naga_ir.proofs.block_references.try_for_each_listed_reference.Given as given
use Rattle.naga_ir.proofs.block_references.try_for_each_listed_reference.Goals as goal
use Rattle.naga_ir.proofs.block_references.try_for_each_listed_reference.Goals.{in-Some+in_ok-check, in_default}

pub returns-in_err-check : goal.returns-in_err-check
returns-in_err-check g c =
    let check = given.F-post g c.args.check.now in
    let is : c.from_residual.result ≡ Err c.in_err-check.field-0.0 = search rules in
    subst (ChecksEach check _) (sym is)
    (checks-before check _ (map to.Expression (operands_of c.args.statement.now)) _
    (checks-along check _ _ (Err _) c.in-Some.ensures (checks-single check _ (Err _) c.in_err-check.ensures)))

pub returns-in_err-try_for_each_expression : goal.returns-in_err-try_for_each_expression
returns-in_err-try_for_each_expression g c =
    let check = given.F-post g c.args.check.now in
    let s = out-Statement c.args.statement.now in
    let is : c.from_residual-in_err-try_for_each_expression.result ≡ Err c.in_err-try_for_each_expression.field-0.0 = search rules in
    subst (ChecksEach check _) (sym is)
    (checks-own check (target_of c.args.statement.now) _ _ _ (Err _) c.other_operands-others.ensures
    (elim c.match-target.branch [
      | in-Some+in_ok-check w ↦ checks-along check _ _ (Ok _) w.in-Some.ensures (checks-single check _ (Ok _) w.in_ok-check.ensures)
      | in_default w ↦ checks-along check [] _ (Ok _) w.in_default.ensures (checks-none check)
    ])
    (checks-before check (map to.Expression (call_arguments s)) (map to.Expression (present c.other_operands-others.result)) _
    (checks-along check _ _ (Err _) (ap (map to.Expression) c.arguments.ensures) c.in_err-try_for_each_expression.ensures)))

pub returns : goal.returns
returns g c =
    let check = given.F-post g c.args.check.now in
    let s = out-Statement c.args.statement.now in
    checks-own check (target_of c.args.statement.now) _ _ _ _ c.other_operands-others.ensures
    (elim c.match-target.branch [
      | in-Some+in_ok-check w ↦ checks-along check _ _ (Ok _) w.in-Some.ensures (checks-single check _ (Ok _) w.in_ok-check.ensures)
      | in_default w ↦ checks-along check [] _ (Ok _) w.in_default.ensures (checks-none check)
    ])
    (checks-then check (map to.Expression (call_arguments s)) (map to.Expression (present c.other_operands-others.result)) _
    (checks-along check _ _ (Ok _) (ap (map to.Expression) c.arguments.ensures) c.in_ok-try_for_each_expression.ensures)
    c.try_for_each_operand.ensures)
