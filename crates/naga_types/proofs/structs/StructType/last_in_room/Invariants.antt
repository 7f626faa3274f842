use Rattle.std.proofs.Common.{◌≡◌, map, drop}
use Rattle.std.specs.List.{enumerate_from}
use Rattle.std.specs.Option.{option_or}
use Rattle.naga_types.specs.Checks.{last}
use Rattle.naga_types.specs.Layouts.{last_padding_error, padding_error}
use Rattle.naga_types.specs.steps.Structs.{surroundings_of}
use Rattle.naga_types.proofs.structs.StructType.last_in_room.Given as goal

-- the last failure of those that are left, or else the one so far, is the last of all
abbrev pub invariant-loop-index : goal.invariant-loop-index
invariant-loop-index l =
    option_or (last (map (padding_error (surroundings_of l.self) l.self.handle l.self.members.now) (enumerate_from l.index (drop l.index l.self.members.now)))) l.last
    ≡ last_padding_error (surroundings_of l.self) l.self.handle l.self.members.now
