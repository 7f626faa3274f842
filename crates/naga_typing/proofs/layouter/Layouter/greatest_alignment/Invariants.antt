use Rattle.std.proofs.Common.{◌≡◌, map, take}
use Rattle.naga_ir.specs.declared.types.StructMember.{StructMember}
use Rattle.naga_typing.specs.Layout.{alignment_at, greatest}
use Rattle.naga_typing.proofs.layouter.Layouter.greatest_alignment.Given as goal

-- the alignment is the greatest alignment of the members so far
abbrev pub invariant-loop-member : goal.invariant-loop-member
invariant-loop-member l = l.alignment ≡ greatest (map (λ (m : StructMember). alignment_at l.self m.ty) (take l.member-index l.members))
