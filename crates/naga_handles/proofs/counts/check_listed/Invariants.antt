use Rattle.naga_ir.specs.References.{operands}
use Rattle.naga_handles.specs.steps.ItemChecks.{IsOperandResult}
use Rattle.naga_handles.proofs.PassedPrefix.{Passed}
use Rattle.naga_handles.proofs.counts.check_listed.Given as goal

-- the operands so far come before
abbrev pub invariant-loop-operand : goal.invariant-loop-operand
invariant-loop-operand l = Passed (IsOperandResult l.handle) (operands l.expression) l.operand-iterator
