use Rattle.std.proofs.Common.{rules, ◌≡◌}
use Rattle.std.specs.Prelude.{Ok, Err}
use Rattle.naga_ir.specs.declared.reference.Reference.TheVariants as to
use Rattle.std.proofs.lemmas.List.Concat.{flat_map_single}
use Rattle.naga_ir.proofs.StatementLemmas.{named, checks-along, checks-single, checks-more, checks-stop, checks-end}
use Rattle.naga_ir.proofs.block_references.try_for_each_expression.Given as given
use Rattle.naga_ir.proofs.block_references.try_for_each_expression.Goals as goal

pub returns-in_err-check : goal.returns-in_err-check
returns-in_err-check g c =
    let check = given.F-post g c.args.check.now in
    let is : c.from_residual.result ≡ Err c.in_err-check.field-0.0 = search rules in
    checks-along check _ _ _ (flat_map_single to.Expression c.args.expressions.now)
    (checks-stop check named c.args.expressions.now _ _ _ _ c.loop-expression-test.true c.expression-item.is is c.loop-expression.invariant
    (checks-single check _ (Err _) c.in_err-check.ensures))

pub loop-expression-preserved : goal.loop-expression-preserved
loop-expression-preserved g c =
    let check = given.F-post g c.args.check.now in
    checks-more check named c.args.expressions.now _ _ c.loop-expression-test.true c.expression-item.is c.loop-expression.invariant
    (checks-single check _ (Ok _) c.in_ok-check.ensures)

pub returns : goal.returns
returns g c =
    let check = given.F-post g c.args.check.now in
    checks-along check _ _ (Ok _) (flat_map_single to.Expression c.args.expressions.now)
    (checks-end check named c.args.expressions.now _ c.loop-expression-test.false c.loop-expression.invariant)
