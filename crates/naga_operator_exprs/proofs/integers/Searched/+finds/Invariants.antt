use Rattle.naga_info.specs.Surroundings.{surroundings}
use Rattle.naga_operator_exprs.specs.Integers.{scope_of}
use Rattle.naga_info.specs.Sources.{rank}
use Rattle.naga_operator_exprs.specs.steps.Places.{NoneBefore}
use Rattle.naga_operator_exprs.specs.steps.Searched.{HaveNone}
use Rattle.naga_operator_exprs.proofs.integers.Searched.+finds.Given as goal

-- the places of components come before
abbrev pub decreases-finds : goal.decreases-finds
decreases-finds l = rank (scope_of (surroundings l.context)) l.place

-- no forbidden number is in the components so far, nor in what is noted
abbrev pub invariant-loop-component : goal.invariant-loop-component
invariant-loop-component l = NoneBefore (scope_of (surroundings l.context)) l.forbidden l.last l.components l.component-index
    × HaveNone (scope_of (surroundings l.context)) l.forbidden l.self.noted
