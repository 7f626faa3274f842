use Rattle.std.proofs.Common.{drop}
use Rattle.naga_ir.specs.Operands.{present}
use Rattle.naga_handles.specs.steps.ItemChecks.{IsResult, checks}
use Rattle.naga_handles.specs.steps.Checks.{of_function}
use Rattle.naga_handles.proofs.PassedPrefix.{Passed}
use Rattle.naga_handles.proofs.handles.Scope.check_all.Given as goal

abbrev pub invariant-loop-reference : goal.invariant-loop-reference
invariant-loop-reference l = Passed IsResult (checks l.self.counts (of_function l.self.caller) (present l.references)) (checks l.self.counts (of_function l.self.caller) (present (drop l.reference-index l.references)))
