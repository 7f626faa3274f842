use Rattle.std.proofs.Common.{◌<◌, ℕ, List, length, sym, ap, ◌∙◌}
use Rattle.std.specs.Option.{option_and_then}
use Rattle.std.proofs.lemmas.Option.{get_or_from_slice_get, slice_get_within}
use Rattle.naga_immediates.proofs.SlotParts.{inner_is, member_exists}
use Rattle.naga_immediates.specs.Slots.{AccessesMember}
use Rattle.naga_immediates.specs.Slots.Touches.{member, all}
use Rattle.naga_ir.specs.ItemReferences.{GlobalLists}
use Rattle.naga_ir.specs.declared.expression.Expression.{Expression}
use Rattle.naga_ir.specs.declared.ir.GlobalVariable.{GlobalVariable as Variable}
use Rattle.naga_ir.specs.declared.types.StructMember.{StructMember}
use Rattle.naga_ir.specs.declared.types.TypeInner.{TypeInner}
use Rattle.naga_typing.proofs.Existence.{references_exist}
use Rattle.naga_typing.specs.Context.{ReferencesExist, lists_of}
use Rattle.naga_typing.specs.Leaves.{inner_at}
use Rattle.naga_immediates.proofs.immediates.ImmediateSlots.for_pointer.Goals as goal

-- the type of an accessed member exists
accessed_exists : (g : GlobalLists) (xs : List Expression) (whole : TypeInner) (pointer : ℕ) (m : StructMember) → ReferencesExist g whole → AccessesMember xs whole pointer m → m.ty < length g.types
accessed_exists g xs whole pointer m exist a =
    member_exists g whole a.members a.span a.index m exist a.is_struct (slice_get_within a.members a.index m a.is_member) (sym (get_or_from_slice_get a.members a.index m m a.is_member))

pub index-requires-in-Some : goal.index-requires-in-Some
index-requires-in-Some c = accessed_exists (lists_of c.args.gctx) _ _ _ c.in-Some.member.now (references_exist (lists_of c.args.gctx) c.requires.references _ _ c.index-2.ensures) c.in-Some.ensures

pub from_type-requires-clause-exist : goal.from_type-requires-clause-exist
from_type-requires-clause-exist c = references_exist (lists_of c.args.gctx) c.requires.references _ _ c.index-in-Some.ensures

pub from_type-requires-in-None-clause-exist : goal.from_type-requires-in-None-clause-exist
from_type-requires-in-None-clause-exist c = references_exist (lists_of c.args.gctx) c.requires.references _ _ c.index-2.ensures

pub returns-in-Some : goal.returns-in-Some
returns-in-Some c =
    let g = lists_of c.args.gctx in
    record {
      whole = c.index-2.result.now.inner;
      inner = c.index-in-Some.result.now.inner;
      first = c.in-Some.member.now.offset;
      is_whole = ap (option_and_then (λ (v : Variable). inner_at g v.ty)) c.index.ensures ∙ inner_is g _ _ c.index-2.ensures;
      reached = member c.in-Some.member.now c.index-in-Some.result.now.inner c.in-Some.ensures (inner_is g _ _ c.index-in-Some.ensures);
      exactly = c.from_type.ensures;
    }

pub returns-in-None : goal.returns-in-None
returns-in-None c =
    let g = lists_of c.args.gctx in
    record {
      whole = c.index-2.result.now.inner;
      inner = c.index-2.result.now.inner;
      first = 0;
      is_whole = ap (option_and_then (λ (v : Variable). inner_at g v.ty)) c.index.ensures ∙ inner_is g _ _ c.index-2.ensures;
      reached = all c.in-None.ensures;
      exactly = c.from_type-in-None.ensures;
    }
