use Rattle.std.proofs.Common.{◌≡◌, drop}
use Rattle.std.specs.List.{enumerate_from, list_any}
use Rattle.naga_types.specs.StructRule as rule
use Rattle.naga_types.specs.steps.Structs.{surroundings_of}
use Rattle.naga_types.proofs.structs.StructType.restarts_at_zero.Given as goal

-- a member goes back if one of those that are left does
abbrev pub invariant-loop-index : goal.invariant-loop-index
invariant-loop-index l =
    list_any (rule.restarts_at_zero (surroundings_of l.self) l.self.members.now) (enumerate_from l.index (drop l.index l.self.members.now))
    ≡ list_any (rule.restarts_at_zero (surroundings_of l.self) l.self.members.now) (enumerate_from 0 l.self.members.now)
