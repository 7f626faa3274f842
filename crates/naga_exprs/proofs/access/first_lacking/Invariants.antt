use Rattle.std.proofs.Common.{◌≡◌, drop}
use Rattle.naga_exprs.proofs.access.first_lacking.Given as goal
use Rattle.naga_exprs.specs.Vectors.{first_lacking}

-- of the components that are left the same is lacking as of all
abbrev pub invariant-loop-component : goal.invariant-loop-component
invariant-loop-component l = first_lacking l.size (drop l.component-index l.components) ≡ first_lacking l.size l.components
