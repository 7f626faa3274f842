-- The members of a struct, as parts.
use Rattle.std.proofs.Common.{◌≡◌, ℕ, List, ap}
use Rattle.std.specs.List.{slice_get}
use Rattle.std.specs.Option.{option_map}
use Rattle.naga_ir.specs.declared.types.StructMember.{StructMember}
use Rattle.naga_ir.specs.declared.types.TypeInner.{TypeInner}
use Rattle.naga_ir.specs.declared.types.TypeInner.TheVariants.{Struct}
use Rattle.naga_typing.specs.Leaves.{Elements, Part, part_at}

-- the part that a member is
abbrev pub member_part : StructMember → Part
member_part m = record { ty = m.ty; first = m.offset }

-- a struct has the parts that its members are
pub member_at : (elements_of : Elements) (inner : TypeInner) (members : List StructMember) (span i : ℕ) → inner ≡ Struct members span
    → part_at elements_of inner i ≡ option_map member_part (slice_get members i)
member_at elements_of inner members span i e = ap (λ x. part_at elements_of x i) e
