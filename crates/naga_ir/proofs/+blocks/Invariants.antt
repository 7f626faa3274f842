use Rattle.std.proofs.Common.{take}
use Rattle.std.specs.Prelude.{Ok}
use Rattle.std.specs.List.{flat_map}
use Rattle.naga_ir.specs.Statements.{statement_references, case_references}
use Rattle.naga_ir.specs.FirstError.{ChecksEach}
use Rattle.naga_ir.proofs.+blocks.Given as goal

abbrev pub invariant-statement::Block::try_for_each_reference-loop-statement : goal.invariant-statement::Block::try_for_each_reference-loop-statement
invariant-statement::Block::try_for_each_reference-loop-statement g l = ChecksEach (goal.F-post g l.check) (flat_map statement_references (take l.statement-index l.statement-items)) (Ok tt)

abbrev pub invariant-block_references::try_for_each_in_cases-loop-case : goal.invariant-block_references::try_for_each_in_cases-loop-case
invariant-block_references::try_for_each_in_cases-loop-case g l = ChecksEach (goal.F-post g l.check) (flat_map case_references (take l.case-index l.cases)) (Ok tt)
