use Rattle.std.proofs.Common.{ℕ, ◌<◌, length, take}
use Rattle.std.specs.List.{All}
use Rattle.naga_c.proofs.leaves.has_types.Given as goal

-- the module has the types so far
abbrev pub invariant-loop-ty : goal.invariant-loop-ty
invariant-loop-ty l = All (λ (ty : ℕ). ty < length l.«module».types) (take l.ty-index l.types)
