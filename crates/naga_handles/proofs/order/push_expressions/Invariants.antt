use Rattle.naga_handles.specs.steps.VisitState.{PlacesUpTo}
use Rattle.naga_handles.proofs.order.push_expressions.Given as goal

abbrev pub invariant-loop-index : goal.invariant-loop-index
invariant-loop-index l = PlacesUpTo l.fn.order.items l.order.items l.fn.from l.index
