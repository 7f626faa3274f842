use Rattle.std.specs.List.{enumerate_from, flat_map}
use Rattle.naga_ir.specs.Handles.{module_counts}
use Rattle.naga_handles.specs.steps.ItemChecks.{IsResult, filter_checks}
use Rattle.naga_handles.proofs.PassedPrefix.{Passed}
use Rattle.naga_handles.proofs.handles.validate_filter_parents.Given as goal

-- the filters so far follow their parents
abbrev pub invariant-loop-handle : goal.invariant-loop-handle
invariant-loop-handle l =
    let reads = filter_checks (module_counts l.«module») in
    Passed IsResult (flat_map reads (enumerate_from 0 l.«module».diagnostic_filters)) (flat_map reads l.handle-iterator)
