use Rattle.std.specs.List.{enumerate_from, flat_map}
use Rattle.naga_handles.specs.steps.ItemChecks.{IsResult, numbered_checks}
use Rattle.naga_handles.proofs.PassedPrefix.{Passed}
use Rattle.naga_handles.proofs.handles.validate_functions.Given as goal

-- the functions so far are right
abbrev pub invariant-loop-handle : goal.invariant-loop-handle
invariant-loop-handle l = Passed IsResult (flat_map (numbered_checks l.«module») (enumerate_from 0 l.«module».functions)) (flat_map (numbered_checks l.«module») l.handle-iterator)
