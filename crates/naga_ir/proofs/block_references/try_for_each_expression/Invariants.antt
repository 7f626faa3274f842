use Rattle.std.proofs.Common.{take}
use Rattle.std.specs.Prelude.{Ok}
use Rattle.std.specs.List.{flat_map}
use Rattle.naga_ir.specs.FirstError.{ChecksEach}
use Rattle.naga_ir.proofs.StatementLemmas.{named}
use Rattle.naga_ir.proofs.block_references.try_for_each_expression.Given as goal

abbrev pub invariant-loop-expression : goal.invariant-loop-expression
invariant-loop-expression g l = ChecksEach (goal.F-post g l.check) (flat_map named (take l.expression-index l.expressions)) (Ok tt)
