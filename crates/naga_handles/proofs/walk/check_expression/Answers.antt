use Rattle.std.proofs.Common.{rules}
use Rattle.naga_ir.specs.References.{operands}
use Rattle.naga_handles.proofs.PlacesBefore.{accepted_before, refused_late}
use Rattle.naga_handles.proofs.OrderFaults.{late_operand}
use Rattle.naga_handles.proofs.walk.check_expression.Goals as goal

pub returns-in_err-check_operands-clause-refused : goal.returns-in_err-check_operands-clause-refused
returns-in_err-check_operands-clause-refused c =
    let late = refused_late c.args.handle (operands c.args.expression.now) _ c.in_err-check_operands.ensures.refused in
    let fault = late_operand c.args.module.now c.args.handle c.args.expression.now _ c.requires late in
    search rules

pub returns-clause-right : goal.returns-clause-right
returns-clause-right c = record {
  operands_before = accepted_before c.args.handle (operands c.args.expression.now) c.in_ok-check_operands.ensures.accepted;
  item = c.in_ok-check_item.ensures.right;
}
