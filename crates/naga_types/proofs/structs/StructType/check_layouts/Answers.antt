use Rattle.std.proofs.Common.{rules, ◌≡◌, ◌<◌, ◌∙◌, None, ap, get_or, length, max, sym, arith}
use Rattle.naga_ir.specs.declared.types.StructMember.{StructMember}
use Rattle.naga_types.specs.Layouts.{member_layout_error}
use Rattle.naga_types.specs.Surroundings.{info_at}
use Rattle.naga_types.specs.steps.Structs.{alignment_in, layout_in, surroundings_of}
use Rattle.naga_types.proofs.FirstLemmas.{passed}
use Rattle.naga_types.proofs.CheckLemmas.{none_broken}
use Rattle.naga_types.proofs.KeptConditions.{granted-value}
use Rattle.naga_typing.proofs.GreatestAlignment.{greatest_more}
use Rattle.naga_types.proofs.structs.StructType.check_layouts.Goals as goal

pub loop-index-preserved : goal.loop-index-preserved
loop-index-preserved c =
    let s = surroundings_of c.args.self.now in
    let members = c.args.self.now.members.now in
    let failure = member_layout_error s (layout_in c.args.space) c.args.self.now.handle in
    let alignment_of = λ (m : StructMember). alignment_in c.args.space (info_at s m.ty) in
    let member : StructMember = get_or members c.loop-index.index c.index-self-index.result in
    let at : member ≡ get_or members c.loop-index.index member = ap (λ (m : StructMember). get_or members c.loop-index.index m) c.index-self-index.is in
    let within : c.loop-index.index < length members = omega (arith, c.loop-index-test.true, c.loop-index.auto.index-end) in
    let kept : failure (c.loop-index.index, member) ≡ None = none_broken (failure (c.loop-index.index, member)) (alignment_of member) c.in_ok-alignment.alignment c.in_ok-alignment.ensures in
    let this : c.in_ok-alignment.alignment ≡ alignment_of member = sym (granted-value (failure (c.loop-index.index, member)) (alignment_of member) c.in_ok-alignment.alignment (sym c.in_ok-alignment.ensures)) in
    let greater : c.max-greatest.result ≡ max c.loop-index.greatest c.in_ok-alignment.alignment = search rules in
    record {
      left = passed failure members c.loop-index.index member within at c.loop-index.invariant.left kept;
      so_far = greater ∙ ap (max c.loop-index.greatest) this ∙ greatest_more alignment_of members c.loop-index.index member c.loop-index.greatest within at c.loop-index.invariant.so_far;
    }
