use Rattle.naga_info.specs.Integers.{scope_in}
use Rattle.naga_info.specs.Sources.{PlaceExists, rank}
use Rattle.naga_valid.proofs.function.+unspent.Given as goal

-- one composition less may be nested in a component
abbrev pub decreases-unspent : goal.decreases-unspent
decreases-unspent l = l.nested

-- there is an expression at each place
abbrev pub invariant-loop-next : goal.invariant-loop-next
invariant-loop-next l = PlaceExists (scope_in l.«module» l.function) l.last

-- each place comes before the place before it
abbrev pub decreases-loop-next : goal.decreases-loop-next
decreases-loop-next l = rank (scope_in l.«module» l.function) l.last
