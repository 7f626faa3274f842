use Rattle.naga_typing.proofs.FormOperands.{right_of_binary}
use Rattle.naga_valid.proofs.function.searched_operand.Goals as goal

pub returns : goal.returns
returns c =
    let binary = c.in-Binary-Divide-default-default in
    right_of_binary c.args.expression.now binary.op binary.left binary.right binary.is
