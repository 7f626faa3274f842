use Rattle.std.proofs.Common.{◌≡◌, ℕ, Some, arith, refl, slice_get, subst, sym}
use Rattle.naga_immediates.specs.Slots.{IsSetOf, UsesSlot}
use Rattle.naga_ir.specs.ItemReferences.{GlobalLists, global_lists}
use Rattle.naga_typing.proofs.Existence.{references_exist}
use Rattle.naga_typing.specs.Context.{ReferencesExist}
use Rattle.naga_c.specs.Slots as spec
use Rattle.naga_c.proofs.SlotLaws.{not_shareable, shareable}
use Rattle.naga_c.proofs.slots.slots_of.Goals as goal

pub returns-then-ty-len-clause-none : goal.returns-then-ty-len-clause-none
returns-then-ty-len-clause-none c = spec.no_type (omega (arith, c.if-ty-len.true, c.requires.same_length, c.len.ensures.value)) refl

pub returns-then-not-contains-clause-none : goal.returns-then-not-contains-clause-none
returns-then-not-contains-clause-none c =
    spec.not_shareable (omega (arith, c.if-ty-len.false, c.requires.same_length, c.len.ensures.value))
    (not_shareable c.args.validator.now.infos c.args.ty c.new-handle.result c.type_info.result c.contains.result c.new-handle.ensures c.type_info.ensures (c.contains.ensures tt) c.if-not-contains.true) refl

pub from_type-requires-clause-exist : goal.from_type-requires-clause-exist
from_type-requires-clause-exist c =
    let m = c.args.«module».now in
    let inner = c.index.result.now.inner in
    let exist : ReferencesExist (global_lists m) inner = references_exist (global_lists m) c.requires.references _ _ c.index.ensures in
    subst (λ (lists : GlobalLists). ReferencesExist (record lists { types = m.types }) inner) (sym c.to_ctx.ensures.lists) exist

pub returns-clause-found : goal.returns-clause-found
returns-clause-found c =
    let m = c.args.«module».now in
    let whole = c.index.result.now in (
      shareable c.args.validator.now.infos c.args.ty c.new-handle.result c.type_info.result c.contains.result c.new-handle.ensures c.type_info.ensures (c.contains.ensures tt) c.if-not-contains.false,
      record {
        whole = whole;
        there = subst (λ (k : ℕ). slice_get m.types k ≡ Some whole) c.new-handle.ensures c.index.ensures;
        exactly = subst (λ (lists : GlobalLists). IsSetOf (UsesSlot (record lists { types = m.types }) whole.inner c.args.offset) c.from_type.result) c.to_ctx.ensures.lists c.from_type.ensures;
      },
    )
