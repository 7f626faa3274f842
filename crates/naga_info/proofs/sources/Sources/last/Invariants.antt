use Rattle.naga_info.specs.Integers.{scope_in}
use Rattle.naga_info.specs.Sources.{IsSourceOrItself, rank}
use Rattle.naga_info.proofs.sources.Sources.last.Given as goal

-- each place has the integers of the first
abbrev pub invariant-loop-next : goal.invariant-loop-next
invariant-loop-next l = IsSourceOrItself (scope_in l.«module» l.function) l.fn.place l.last

-- each place comes before the place before it
abbrev pub decreases-loop-next : goal.decreases-loop-next
decreases-loop-next l = rank (scope_in l.«module» l.function) l.last
