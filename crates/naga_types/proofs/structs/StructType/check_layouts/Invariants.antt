use Rattle.std.proofs.Common.{◌≡◌, map, drop, take}
use Rattle.std.specs.List.{enumerate_from}
use Rattle.naga_ir.specs.declared.types.StructMember.{StructMember}
use Rattle.naga_types.specs.Checks.{first}
use Rattle.naga_types.specs.Layouts.{member_layout_error, member_layout_errors}
use Rattle.naga_types.specs.Surroundings.{info_at}
use Rattle.naga_types.specs.steps.Structs.{alignment_in, layout_in, surroundings_of}
use Rattle.naga_typing.specs.Layout.{greatest}
use Rattle.naga_types.proofs.structs.StructType.check_layouts.Given as goal

-- the first failure of all members is the first of those that are left, and the greatest alignment so far is the
-- greatest of the members so far
abbrev pub invariant-loop-index : goal.invariant-loop-index
invariant-loop-index l = record {
  left : first (map (member_layout_error (surroundings_of l.self) (layout_in l.space) l.self.handle) (enumerate_from l.index (drop l.index l.self.members.now)))
      ≡ first (member_layout_errors (surroundings_of l.self) (layout_in l.space) l.self.handle l.self.members.now);
  so_far : l.greatest ≡ greatest (map (λ (m : StructMember). alignment_in l.space (info_at (surroundings_of l.self) m.ty)) (take l.index l.self.members.now));
}
