use Rattle.std.proofs.Common.{◌≡◌, Some, ap, slice_get, subst, sym}
use Rattle.std.proofs.lemmas.Option.{IfSome_then}
use Rattle.std.specs.Option.{option_map}
use Rattle.naga_immediates.specs.LeafSlots.{HasNoArray, HasSlotsOfLeaves}
use Rattle.naga_immediates.specs.Slots.{IsSetOf, UsesSlot}
use Rattle.naga_ir.proofs.Handles.{global_references_ok}
use Rattle.naga_ir.specs.Handles.{GlobalReferencesOk}
use Rattle.naga_ir.specs.ItemReferences.{GlobalLists, global_lists}
use Rattle.naga_ir.specs.declared.types.«Type».{«Type»}
use Rattle.naga_ir.specs.declared.types.TypeInner.{TypeInner}
use Rattle.naga_tests.proofs.tests.laws.slots_of.Goals as goal
use Rattle.naga_types.specs.HostLayouts.{IsForHosts}
use Rattle.naga_types.specs.declared.info.TypeInfo.{TypeInfo}
use Rattle.naga_typing.proofs.Existence.{references_exist}
use Rattle.naga_typing.specs.Context.{ReferencesExist}
use Rattle.naga_typing.specs.Leaves.{inner_at}

pub from_type-slots-requires-clause-exist : goal.from_type-slots-requires-clause-exist
from_type-slots-requires-clause-exist c =
    let m = c.args.module.now in
    let inner = c.index.result.now.inner in
    let ok : GlobalReferencesOk (global_lists m) = global_references_ok m c.requires.accepted.accepted.laid_out.handles in
    let exist : ReferencesExist (global_lists m) inner = references_exist (global_lists m) ok _ _ c.index.ensures in
    subst (λ (lists : GlobalLists). ReferencesExist (record lists { types = m.types }) inner) (sym c.to_ctx-gctx.ensures.lists) exist

pub from_type-slots-requires-clause-references : goal.from_type-slots-requires-clause-references
from_type-slots-requires-clause-references c =
    let m = c.args.module.now in
    let ok : GlobalReferencesOk (global_lists m) = global_references_ok m c.requires.accepted.accepted.laid_out.handles in
    subst (λ (lists : GlobalLists). GlobalReferencesOk (record lists { types = m.types })) (sym c.to_ctx-gctx.ensures.lists) ok

pub returns : goal.returns
returns c =
    let m = c.args.module.now in
    let g = global_lists m in
    let inner = c.index.result.now.inner in
    let slots = c.from_type-slots.result in
    let exactly : IsSetOf (UsesSlot g inner 0) slots =
    subst (λ (lists : GlobalLists). IsSetOf (UsesSlot (record lists { types = m.types }) inner 0) slots) c.to_ctx-gctx.ensures.lists c.from_type-slots.ensures in
    let FromInner : TypeInfo → Type 0 = λ info. IsForHosts info → HasNoArray g c.args.ty → (inner : TypeInner) → inner_at g c.args.ty ≡ Some inner → IsSetOf (UsesSlot g inner 0) slots → HasSlotsOfLeaves g 0 c.args.ty 0 slots in
    let Whole : TypeInfo → Type 0 = λ info. IsForHosts info → HasNoArray g c.args.ty → HasSlotsOfLeaves g 0 c.args.ty 0 slots in
    let from_inner : (info : TypeInfo) → FromInner info → Whole info = λ info law for_hosts no_array. law for_hosts no_array inner (ap (option_map (λ (ty : «Type»). ty.inner)) c.index.ensures) exactly in
    IfSome_then (slice_get c.args.validator.now.infos c.args.ty) {P = FromInner} {Q = Whole} c.slots_of_leaves.ensures from_inner
