use Rattle.std.proofs.Common.{take}
use Rattle.std.specs.Prelude.{Ok}
use Rattle.std.specs.List.{flat_map}
use Rattle.naga_ir.specs.FirstError.{ChecksEach}
use Rattle.naga_ir.proofs.StatementLemmas.{named_if}
use Rattle.naga_ir.proofs.block_references.try_for_each_operand.Given as goal

abbrev pub invariant-loop-operand : goal.invariant-loop-operand
invariant-loop-operand g l = ChecksEach (goal.F-post g l.check) (flat_map named_if (take l.operand-index l.operands)) (Ok tt)
