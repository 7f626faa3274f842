use Rattle.std.proofs.Common.{◌≡◌, ◌<◌, ◌≤◌, max, rules, sym, ap, ◌∙◌, arith}
use Rattle.std.proofs.Math.Nat.{max-eq_left, max-eq_right}
use Rattle.naga_ir.specs.declared.types.StructMember.{StructMember}
use Rattle.naga_typing.specs.Layout.{alignment_at, alignment_in}
use Rattle.naga_typing.proofs.GreatestAlignment.{greatest_more}
use Rattle.naga_typing.proofs.layouter.Layouter.greatest_alignment.Goals.{then-gt, else-gt}
use Rattle.naga_typing.proofs.layouter.Layouter.greatest_alignment.Goals as goal

pub loop-member-preserved : goal.loop-member-preserved
loop-member-preserved c =
    let next = c.index.result.now.alignment in
    let f = λ (m : StructMember). alignment_at c.args.self.now m.ty in
    let there : alignment_at c.args.self.now c.member-item.result.ty ≡ next = ap alignment_in c.index.ensures in
    let greater : c.if-gt.alignment ≡ max c.loop-member.alignment next = elim c.if-gt.branch [
      | then-gt w ↦ let above : c.loop-member.alignment < next = search rules in w.alignment-is ∙ sym (max-eq_right (omega (arith, above)))
      | else-gt w ↦ let below : next ≤ c.loop-member.alignment = search rules in w.alignment-is ∙ sym (max-eq_left below)
    ] in
    greater ∙ ap (max c.loop-member.alignment) (sym there)
    ∙ greatest_more f c.args.members.now c.loop-member.member-index c.member-item.result c.loop-member.alignment c.loop-member-test.true c.member-item.is c.loop-member.invariant
