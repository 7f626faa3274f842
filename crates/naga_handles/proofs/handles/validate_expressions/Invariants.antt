use Rattle.std.specs.List.{enumerate_from, flat_map}
use Rattle.naga_handles.specs.steps.ItemChecks.{IsResult, expression_checks}
use Rattle.naga_handles.proofs.PassedPrefix.{Passed}
use Rattle.naga_handles.proofs.handles.validate_expressions.Given as goal

-- the expressions so far are right
abbrev pub invariant-loop-handle : goal.invariant-loop-handle
invariant-loop-handle l =
    let reads = expression_checks l.scope.counts l.scope.caller in
    Passed IsResult (flat_map reads (enumerate_from 0 l.function.expressions)) (flat_map reads l.handle-iterator)
