use Rattle.std.proofs.Common.{◌≡◌, map, drop, take}
use Rattle.std.specs.List.{enumerate_from}
use Rattle.naga_types.specs.Checks.{first}
use Rattle.naga_types.specs.Layouts.{before}
use Rattle.naga_types.specs.StructRule.{end_in, member_error, member_errors}
use Rattle.naga_types.specs.steps.Structs.{sources_of, surroundings_of}
use Rattle.naga_types.proofs.structs.StructType.check_members.Given as goal

-- the first refusal of all members is the first of those that are left, the end of the member before is known, and the
-- sources of blending so far are noted
abbrev pub invariant-loop-index : goal.invariant-loop-index
invariant-loop-index l = record {
  left : first (map (member_error (surroundings_of l.self) l.self.members.now l.self.span) (enumerate_from l.index (drop l.index l.self.members.now)))
      ≡ first (member_errors (surroundings_of l.self) l.self.members.now l.self.span);
  end : l.end ≡ end_in (surroundings_of l.self) (before l.self.members.now l.index);
  noted : l.sources ≡ sources_of (take l.index l.self.members.now);
}
