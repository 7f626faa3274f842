use Rattle.std.proofs.Common.{ap, refl, sym, ◌∙◌, arith}
use Rattle.naga_immediates.proofs.SlotParts.{member_exists, passes_on, plain, starts, used_by_other, walked, walks_on}
use Rattle.naga_immediates.proofs.SlotSets.{exactly_too}
use Rattle.naga_immediates.specs.Slots.{SharesByte, UsesSlot, lists_with}
use Rattle.naga_ir.specs.declared.types.TypeInner.TheVariants.{Struct}
use Rattle.naga_typing.specs.Layout.{size_of}
use Rattle.naga_immediates.proofs.immediates.ImmediateSlots.from_type.Goals as goal
use Rattle.naga_immediates.proofs.immediates.ImmediateSlots.from_type.Goals.{in-Some, in_default-member_byte}

pub returns-in_default : goal.returns-in_default
returns-in_default c =
    let g = lists_with c.args.types.now c.args.gctx in
    exactly_too (SharesByte c.args.offset (size_of g c.args.ty.now)) (UsesSlot g c.args.ty.now c.args.offset) c.slots_of_part.result
    (λ k within. let both = used_by_other g c.args.ty.now c.args.offset k (plain _ c.in_default.not-Struct) in (both.1, both.0))
    c.slots_of_part.ensures

pub loop-member-init : goal.loop-member-init
loop-member-init c = starts _ _ _ c.new-walk.result c.new-walk.ensures.slots c.new-walk.ensures.noted

pub add-requires-clause-exists : goal.add-requires-clause-exists
add-requires-clause-exists c =
    member_exists (lists_with c.args.types.now c.args.gctx) c.args.ty.now c.as_slice-member-items.result.now c.in-Struct.span c.loop-member.member-index c.member-item.result c.requires.exist
    (c.in-Struct.is ∙ ap (λ ms. Struct ms c.in-Struct.span) (sym c.as_slice-member-items.ensures)) c.loop-member-test.true c.member-item.is

pub loop-member-preserved : goal.loop-member-preserved
loop-member-preserved c =
    elim c.match-member_byte.branch [
      | in-Some w ↦
          walks_on _ _ _ c.args.offset _ _ c.loop-member.walk c.match-member_byte.walk c.loop-member.invariant c.member-item.result c.loop-member-test.true c.member-item.is refl
          w.in-Some.byte w.add.new.self w.in-Some.ensures w.add.ensures.noted w.add.ensures.gains w.walk-is
      | in_default-member_byte w ↦
          passes_on _ _ _ c.args.offset _ _ c.loop-member.walk c.match-member_byte.walk c.loop-member.invariant c.member-item.result c.loop-member-test.true c.member-item.is refl
          c.member_byte.result c.member_byte.ensures w.in_default-member_byte.not-Some w.walk-is
    ]

pub returns : goal.returns
returns c =
    walked (lists_with c.args.types.now c.args.gctx) c.args.ty.now c.as_slice-member-items.result.now c.in-Struct.span c.args.offset c.loop-member.member-index c.loop-member.walk (omega arith)
    (c.in-Struct.is ∙ ap (λ ms. Struct ms c.in-Struct.span) (sym c.as_slice-member-items.ensures)) c.loop-member.invariant
