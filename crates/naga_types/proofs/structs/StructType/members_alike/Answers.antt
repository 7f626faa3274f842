use Rattle.std.proofs.Common.{rules, ◌≡◌, ◌+◌, ◌<◌, ◌≤◌, ◌∙◌, ℕ, None, Ok, Err, ap, get_or, length, max, sym, arith}
use Rattle.std.specs.Option.{option_or}
use Rattle.std.specs.Result.{result_unwrap_or}
use Rattle.naga_flags.specs.Bits.{HOST_SHAREABLE}
use Rattle.naga_flags.specs.Flags.{has}
use Rattle.naga_ir.specs.declared.types.StructMember.{StructMember}
use Rattle.naga_types.specs.Checks.{require}
use Rattle.naga_types.specs.Layouts.{Layout, in_storage, in_uniform, member_layout_error, offset_error}
use Rattle.naga_types.specs.Surroundings.{Surroundings, flags_at, info_at}
use Rattle.naga_types.specs.declared.error.Disalignment.TheVariants.{NonHostShareable}
use Rattle.naga_types.specs.declared.structs.SharedSpace.TheVariants.{Storage, Uniform}
use Rattle.naga_types.specs.steps.Structs.{alignment_in, surroundings_of}
use Rattle.naga_types.proofs.FirstLemmas.{passed}
use Rattle.naga_types.proofs.CheckLemmas.{none_broken}
use Rattle.naga_types.proofs.KeptConditions.{granted-value, neither}
use Rattle.naga_typing.proofs.GreatestAlignment.{greatest_more}
use Rattle.naga_types.proofs.structs.StructType.members_alike.Goals as goal

-- a member that stands right by one layout stands right by another with the same alignment
by_same : (t k offset a : ℕ) (l u : Layout) → offset_error t k offset l ≡ None → a ≡ result_unwrap_or l 1 → u ≡ Ok a → offset_error t k offset u ≡ None
by_same t k offset a (Err e) u none is same = cc none
by_same t k offset a (Ok b) u none is same = ap (offset_error t k offset) (same ∙ ap Ok is) ∙ none

-- what is right in the storage address space is right in the uniform one, if the alignment there is the same
right_in_both : (s : Surroundings) (t k a : ℕ) (m : StructMember) → member_layout_error s in_storage t (k, m) ≡ None → a ≡ alignment_in Storage (info_at s m.ty) → in_uniform (info_at s m.ty) ≡ Ok a
    → member_layout_error s in_uniform t (k, m) ≡ None
right_in_both s t k a m kept is same =
    let both = neither (require (has (flags_at s m.ty) HOST_SHAREABLE) (m.ty, NonHostShareable)) (offset_error t k m.offset (in_storage (info_at s m.ty))) kept in
    ap (λ o. option_or o (offset_error t k m.offset (in_uniform (info_at s m.ty)))) both.0 ∙ by_same t k m.offset a (in_storage (info_at s m.ty)) (in_uniform (info_at s m.ty)) both.1 is same

pub loop-index-preserved : goal.loop-index-preserved
loop-index-preserved c =
    let s = surroundings_of c.args.self.now in
    let t = c.args.self.now.handle in
    let members = c.args.self.now.members.now in
    let index = c.loop-index.index in
    let alignment = c.in-Ok.storage in
    let in_one = λ (m : StructMember). alignment_in Storage (info_at s m.ty) in
    let in_other = λ (m : StructMember). alignment_in Uniform (info_at s m.ty) in
    let member : StructMember = get_or members index c.index-self-index.result in
    let at : member ≡ get_or members index member = ap (λ (m : StructMember). get_or members index m) c.index-self-index.is in
    let within : index < length members = omega (arith, c.loop-index-test.true, c.loop-index.auto.index-end) in
    let kept : member_layout_error s in_storage t (index, member) ≡ None = none_broken (member_layout_error s in_storage t (index, member)) (in_one member) alignment c.in-Ok.ensures in
    let this : alignment ≡ in_one member = sym (granted-value (member_layout_error s in_storage t (index, member)) (in_one member) alignment (sym c.in-Ok.ensures)) in
    let same : in_uniform (info_at s member.ty) ≡ Ok alignment = search rules in
    let other : alignment ≡ in_other member = sym (ap (λ (l : Layout). result_unwrap_or l 1) same) in
    let greater : c.max-greatest.result ≡ max c.loop-index.greatest alignment = search rules in
    let next : index + 1 ≤ length members = omega arith in
    record {
      storage = record {
        within = next;
        left = passed (member_layout_error s in_storage t) members index member within at c.loop-index.invariant.storage.left kept;
        so_far = greater ∙ ap (max c.loop-index.greatest) this ∙ greatest_more in_one members index member c.loop-index.greatest within at c.loop-index.invariant.storage.so_far;
      };
      uniform = record {
        within = next;
        left = passed (member_layout_error s in_uniform t) members index member within at c.loop-index.invariant.uniform.left (right_in_both s t index alignment member kept this same);
        so_far = greater ∙ ap (max c.loop-index.greatest) other ∙ greatest_more in_other members index member c.loop-index.greatest within at c.loop-index.invariant.uniform.so_far;
      };
    }
