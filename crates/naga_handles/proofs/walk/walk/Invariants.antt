use Rattle.naga_handles.specs.steps.VisitState.{Visited}
use Rattle.naga_handles.proofs.walk.walk.Given as goal

abbrev pub invariant-loop-index : goal.invariant-loop-index
invariant-loop-index l = Visited l.module l.index l.walker
