use Rattle.std.proofs.Common.{rules, ◌≡◌, ap, sym, option_to_list}
use Rattle.std.specs.Prelude.{Ok, Err}
use Rattle.naga_ir.specs.declared.reference.Reference.TheVariants as to
use Rattle.naga_ir.proofs.StatementLemmas.{named_if, checks-along, checks-none, checks-single, checks-more, checks-stop, checks-end, flat_map-map}
use Rattle.naga_ir.proofs.block_references.try_for_each_operand.Given as given
use Rattle.naga_ir.proofs.block_references.try_for_each_operand.Goals as goal
use Rattle.naga_ir.proofs.block_references.try_for_each_operand.Goals.{in-Some+in_ok-check, in_default}

pub returns-in_err-check : goal.returns-in_err-check
returns-in_err-check g c =
    let check = given.F-post g c.args.check.now in
    let is : c.from_residual.result ≡ Err c.in_err-check.field-0.0 = search rules in
    checks-along check _ _ _ (flat_map-map to.Expression option_to_list c.args.operands.now)
    (checks-stop check named_if c.args.operands.now _ _ _ _ c.loop-operand-test.true c.operand-item.is is c.loop-operand.invariant
    (checks-along check _ _ (Err _) (ap named_if (sym c.in-Some.is)) (checks-single check _ (Err _) c.in_err-check.ensures)))

pub loop-operand-preserved : goal.loop-operand-preserved
loop-operand-preserved g c =
    let check = given.F-post g c.args.check.now in
    checks-more check named_if c.args.operands.now _ _ c.loop-operand-test.true c.operand-item.is c.loop-operand.invariant
    (elim c.match-operand.branch [
      | in-Some+in_ok-check w ↦ checks-along check _ _ (Ok _) (ap named_if (sym w.in-Some.is)) (checks-single check _ (Ok _) w.in_ok-check.ensures)
      | in_default w ↦ checks-along check _ _ (Ok _) (ap named_if (sym w.in_default.is)) (checks-none check)
    ])

pub returns : goal.returns
returns g c =
    let check = given.F-post g c.args.check.now in
    checks-along check _ _ (Ok _) (flat_map-map to.Expression option_to_list c.args.operands.now)
    (checks-end check named_if c.args.operands.now _ c.loop-operand-test.false c.loop-operand.invariant)
