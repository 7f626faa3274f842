use Rattle.std.proofs.Common.{◌≡◌, map, drop}
use Rattle.naga_ir.specs.declared.types.StructMember.{StructMember}
use Rattle.std.specs.Option.{option_or}
use Rattle.naga_types.specs.Checks.{last}
use Rattle.naga_types.specs.StructRule as rule
use Rattle.naga_types.proofs.structs.StructType.other_location.Given as goal

-- the last location of those that are left, or else the one so far, is the last of all
abbrev pub invariant-loop-member : goal.invariant-loop-member
invariant-loop-member l =
    option_or (last (map (λ (m : StructMember). rule.location_of m.binding) (drop l.member-index l.self.members.now))) l.last ≡ rule.other_location l.self.members.now
