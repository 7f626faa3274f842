use Rattle.std.proofs.Common.{◌<◌, ◌↔◌, All, IsTrue, length, sym, subst, rules}
use Rattle.naga_ir.proofs.PartLemmas.{base_is, members_are}
use Rattle.naga_ir.specs.declared.types.StructMember.{StructMember}
use Rattle.naga_leaves.proofs.HasLeaves.{array_has, other_has, struct_has}
use Rattle.naga_leaves.specs.steps.HasLeaves.{HasLeavesBy, HasMemberWithLeaves}
use Rattle.naga_typing.proofs.Existence.{array_override_exists}
use Rattle.naga_typing.specs.Context.{lists_of}
use Rattle.naga_typing.specs.Leaves.{elements}
use Rattle.naga_leaves.proofs.has_leaves.type_has_leaves.Goals as goal

pub element_count-has_element-requires-clause-exists : goal.element_count-has_element-requires-clause-exists
element_count-has_element-requires-clause-exists c = array_override_exists (lists_of c.args.gctx.now) _ _ _ _ c.requires.exist c.in-Array.is

pub index-requires : goal.index-requires
index-requires c = base_is (λ p. p < length c.args.has_leaves.now.items) c.args.inner.now c.in-Array.base c.in-Array.size c.in-Array.stride c.requires.parts c.in-Array.is

pub any_member_has_leaves-requires : goal.any_member_has_leaves-requires
any_member_has_leaves-requires c =
    subst (All (λ (m : StructMember). m.ty < length c.args.has_leaves.now.items)) (sym c.as_slice.ensures)
    (members_are (λ p. p < length c.args.has_leaves.now.items) c.args.inner.now c.in-Struct.members c.in-Struct.span c.requires.parts c.in-Struct.is)

pub returns-then-has_element : goal.returns-then-has_element
returns-then-has_element c =
    array_has (elements (lists_of c.args.gctx.now) c.args.length) c.args.has_leaves.now.items c.args.inner.now c.in-Array.base c.in-Array.size c.in-Array.stride c.index.result.now c.in-Array.is
    (search rules) c.index.ensures

pub returns-in-Struct : goal.returns-in-Struct
returns-in-Struct c =
    struct_has (elements (lists_of c.args.gctx.now) c.args.length) c.args.has_leaves.now.items c.args.inner.now c.in-Struct.members c.in-Struct.span c.any_member_has_leaves.result c.in-Struct.is
    (subst (λ members. IsTrue c.any_member_has_leaves.result ↔ HasMemberWithLeaves c.args.has_leaves.now.items members) c.as_slice.ensures c.any_member_has_leaves.ensures)

pub returns-in_default : goal.returns-in_default
returns-in_default c =
    subst (λ has. IsTrue has ↔ HasLeavesBy (elements (lists_of c.args.gctx.now) c.args.length) c.args.has_leaves.now.items c.args.inner.now) (sym c.is_some.ensures)
    (other_has (lists_of c.args.gctx.now) (elements (lists_of c.args.gctx.now) c.args.length) c.args.has_leaves.now.items c.args.inner.now c.whole_leaf.result c.in_default.not-Array c.in_default.not-Struct
    (c.whole_leaf.ensures (lists_of c.args.gctx.now)))
