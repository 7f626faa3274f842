use Rattle.std.proofs.Common.{◌≡◌, map, drop, bit_and}
use Rattle.std.specs.Prelude.{fold}
use Rattle.naga_ir.specs.declared.types.StructMember.{StructMember}
use Rattle.std.specs.Option.{option_or}
use Rattle.std.specs.Result.{result_err}
use Rattle.naga_types.specs.Checks.{ok_unless, last}
use Rattle.naga_types.specs.StructRule as rule
use Rattle.naga_types.specs.steps.Structs.{surroundings_of}
use Rattle.naga_types.specs.Surroundings.{flags_at, info_at}
use Rattle.naga_types.proofs.structs.StructType.common_uses.Given as goal

-- cut by the members that are left, the flags are the flags that all have; the last error of those that are left, or
-- else the one so far, is the last of all
abbrev pub invariant-loop-member : goal.invariant-loop-member
invariant-loop-member l = record {
  flags : fold bit_and l.flags.0 (map (λ (m : StructMember). flags_at (surroundings_of l.self) m.ty) (drop l.member-index l.self.members.now)) ≡ rule.common_flags (surroundings_of l.self) l.self.members.now;
  immediates : ok_unless (option_or (last (map (λ (m : StructMember). result_err (info_at (surroundings_of l.self) m.ty).immediates_compatibility) (drop l.member-index l.self.members.now))) (result_err l.immediates)) tt
      ≡ rule.struct_immediates (surroundings_of l.self) l.self.members.now;
}
