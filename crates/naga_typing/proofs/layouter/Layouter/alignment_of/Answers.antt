use Rattle.std.proofs.Common.{◌<◌, ℕ, All, length, subst, sym}
use Rattle.naga_ir.specs.declared.types.StructMember.{StructMember}
use Rattle.naga_ir.proofs.PartLemmas.{base_is, members_are}
use Rattle.naga_typing.proofs.layouter.Layouter.alignment_of.Goals as goal

pub index-requires : goal.index-requires
index-requires c = base_is (λ (p : ℕ). p < length c.args.self.now) _ _ _ _ c.requires c.in-Array.is

pub greatest_alignment-requires : goal.greatest_alignment-requires
greatest_alignment-requires c =
    subst (All (λ (m : StructMember). m.ty < length c.args.self.now)) (sym c.as_slice.ensures) (members_are (λ (p : ℕ). p < length c.args.self.now) _ _ _ c.requires c.in-Struct.is)
