use Rattle.naga_types.specs.steps.Components.{fits, resolutions_of}
use Rattle.naga_types.proofs.ComposeLemmas.{FitSoFar}
use Rattle.naga_types.proofs.compose.Wanted.check_each.Given as goal

-- the components so far are what is wanted
abbrev pub invariant-loop-index : goal.invariant-loop-index
invariant-loop-index l = FitSoFar (fits l.types l.self) (resolutions_of l.components) l.index
