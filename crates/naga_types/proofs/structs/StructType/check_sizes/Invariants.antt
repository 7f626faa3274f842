use Rattle.std.proofs.Common.{◌≡◌, map, drop}
use Rattle.std.specs.List.{enumerate_from}
use Rattle.naga_types.specs.Checks.{first}
use Rattle.naga_types.specs.Layouts.{unsized_error, unsized_errors}
use Rattle.naga_types.specs.steps.Structs.{surroundings_of}
use Rattle.naga_types.proofs.structs.StructType.check_sizes.Given as goal

-- the first failure of all members is the first of those that are left
abbrev pub invariant-loop-index : goal.invariant-loop-index
invariant-loop-index l =
    first (map (unsized_error (surroundings_of l.self) l.self.handle) (enumerate_from l.index (drop l.index l.self.members.now)))
    ≡ first (unsized_errors (surroundings_of l.self) l.self.handle l.self.members.now)
