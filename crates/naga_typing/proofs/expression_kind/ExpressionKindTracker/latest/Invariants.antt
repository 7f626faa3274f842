use Rattle.naga_ir.specs.References.{operands}
use Rattle.naga_typing.proofs.ExpressionKinds.{Seen}
use Rattle.naga_typing.proofs.expression_kind.ExpressionKindTracker.latest.Given as goal

-- the kind is the latest of the operands so far
abbrev pub invariant-loop-operand : goal.invariant-loop-operand
invariant-loop-operand l = Seen l.self (operands l.expression) l.kind l.operand-iterator
