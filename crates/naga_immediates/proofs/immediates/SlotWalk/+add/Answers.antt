use Rattle.std.proofs.Common.{◌≡◌, ◌≢◌, ◌<◌, ◌⊎◌, ⊎_elim, ℕ, List, Option, Some, length, get_or, inl, inr, sym, ap, subst, ◌∙◌, arith}
use Rattle.std.specs.List.{slice_get, slice_set}
use Rattle.std.proofs.lemmas.Bool.{cases_lt}
use Rattle.std.proofs.lemmas.Grind.{get_or-set_at}
use Rattle.std.proofs.lemmas.List.{get_or-set_other, length-set}
use Rattle.std.proofs.lemmas.Option.{get_or_from_slice_get, same_Some, slice_get-get_or, slice_get_within}
use Rattle.naga_immediates.proofs.SlotParts.{all_added, begin, inner_is, member_before, other_added, passes_on, plain, walks_on}
use Rattle.naga_immediates.specs.Slots.{IsSetOf, HasSlot, SharesByte, slot_count}
use Rattle.naga_immediates.specs.declared.immediates.ImmediateSlots.{ImmediateSlots}
use Rattle.naga_immediates.specs.declared.immediates.SlotWalk.{SlotWalk}
use Rattle.naga_immediates.specs.steps.SlotWalk.{AddsSlotsOf, KnowsNoted, TypeUses, place_of}
use Rattle.naga_ir.specs.ItemReferences.{GlobalLists}
use Rattle.naga_ir.specs.declared.types.TypeInner.TheVariants.{Struct}
use Rattle.naga_typing.proofs.Existence.{references_exist}
use Rattle.naga_typing.specs.Context.{lists_of}
use Rattle.naga_typing.specs.Layout.{size_of}
use Rattle.naga_immediates.proofs.immediates.SlotWalk.+add.Goals as goal
use Rattle.naga_immediates.proofs.immediates.SlotWalk.+add.Goals.{in-Some, in_default-member_byte}

-- what is noted stays found if slots are added
still_known : (g : GlobalLists) (slots slots′ : ImmediateSlots) (noted : List (Option ℕ)) → ((k : ℕ) → HasSlot slots k → HasSlot slots′ k)
    → KnowsNoted g record { slots = slots; noted = noted } → KnowsNoted g record { slots = slots′; noted = noted }
still_known g slots slots′ noted kept known byte t k at within u = kept k (known byte t k at within u)

-- what is noted is gained already
noted_gains : (g : GlobalLists) (walk : SlotWalk) (t byte : ℕ) → KnowsNoted g walk → slice_get walk.noted (place_of t byte) ≡ Some (Some t) → AddsSlotsOf g t byte walk.slots walk.slots
noted_gains g walk t byte known at = record { kept = λ k h. h; gained = λ k within u. known byte t k at within u; only = λ k h. inl h }

-- what is read after a write is what was written, or what was there
read_set : {X : Type 0} (xs : List X) (i j : ℕ) (y v : X) → slice_get (slice_set xs i y) j ≡ Some v → ((j ≡ i) × (v ≡ y)) ⊎ (slice_get xs j ≡ Some v)
read_set xs i j y v at =
    let there : j < length (slice_set xs i y) = slice_get_within (slice_set xs i y) j v at in
    let kept : length (slice_set xs i y) ≡ length xs = length-set xs i y in
    let read : get_or (slice_set xs i y) j v ≡ v = get_or_from_slice_get (slice_set xs i y) j v v at in
    let within : j < length xs = omega arith in
    let other : j ≢ i → slice_get xs j ≡ Some v = λ apart. slice_get-get_or xs j v within ∙ ap Some (sym (get_or-set_other xs i j y v apart) ∙ read) in
    ⊎_elim
    (λ under. inr (other (λ e. omega arith)))
    (λ over. ⊎_elim
    (λ past. inr (other (λ e. omega arith)))
    (λ upto. let e : j ≡ i = omega arith in let place : i < length xs = omega arith in inl (e, sym read ∙ get_or-set_at xs i j y v e place))
    (cases_lt i j))
    (cases_lt j i)

-- a place tells bytes apart at one type
same_byte : (t t′ byte byte′ : ℕ) → t ≡ t′ → place_of t′ byte′ ≡ place_of t byte → byte ≡ byte′
same_byte t t′ byte byte′ e same = omega arith

-- a type whose slots are found may be noted
noted_more : (g : GlobalLists) (walk : SlotWalk) (t byte place : ℕ) → KnowsNoted g walk → place ≡ place_of t byte → ((k : ℕ) → k < slot_count → TypeUses g t byte k → HasSlot walk.slots k)
    → KnowsNoted g record { slots = walk.slots; noted = slice_set walk.noted place (Some t) }
noted_more g walk t byte place known same found byte′ t′ k at within u =
    ⊎_elim
    (λ p. let alike : t′ ≡ t = same_Some t′ t p.1 in found k within (subst (λ n. TypeUses g t n k) (sym (same_byte t t′ byte byte′ (sym alike) (p.0 ∙ same))) (subst (λ n. TypeUses g n byte′ k) alike u)))
    (λ before. known byte′ t′ k before within u)
    (read_set walk.noted place (place_of t′ byte′) (Some t) (Some t′) at)

pub slots_of_part-requires : goal.slots_of_part-requires
slots_of_part-requires t c = record { exist = references_exist (lists_of c.args.gctx) c.requires.references _ _ c.index.ensures; references = c.requires.references }

pub returns-in_default : goal.returns-in_default
returns-in_default t c =
    let gains = other_added (lists_of c.args.gctx) c.args.ty c.index.result.now.inner c.args.byte c.args.self.now.slots c.slots_of_part.result c.bitor_assign.new.self
    (inner_is (lists_of c.args.gctx) c.args.ty _ c.index.ensures) (plain _ c.in_default.not-Struct)
    (subst (λ n. IsSetOf (SharesByte n (size_of (lists_of c.args.gctx) c.index.result.now.inner)) c.slots_of_part.result) c.from.ensures c.slots_of_part.ensures)
    c.bitor_assign.ensures.after in
    record { noted = λ byte t k at within u. gains.kept k (c.requires.noted byte t k at within u); gains = gains }

pub returns-then-has_walked-clause-gains : goal.returns-then-has_walked-clause-gains
returns-then-has_walked-clause-gains t c = noted_gains (lists_of c.args.gctx) c.args.self.now c.args.ty c.args.byte c.requires.noted (c.has_walked.ensures.0 c.if-has_walked.true)

pub add-requires : goal.add-requires
add-requires t c =
    let before = member_before (lists_of c.args.gctx) c.requires.references c.args.ty c.index.result.now c.as_slice-member-items.result.now c.in-Struct.span c.index.ensures
    (c.in-Struct.is ∙ ap (λ ms. Struct ms c.in-Struct.span) (sym c.as_slice-member-items.ensures)) c.loop-member.member-index c.member-item.result c.loop-member-test.true c.member-item.is in
    let exists = c.requires.exists in
    (omega (arith, c.decreases), (omega arith, (c.requires.references, c.loop-member.invariant.noted)))

pub loop-member-init : goal.loop-member-init
loop-member-init t c = record { noted = c.requires.noted; gains = begin (lists_of c.args.gctx) _ _ _ }

pub loop-member-preserved : goal.loop-member-preserved
loop-member-preserved t c =
    elim c.match-member_byte.branch [
      | in-Some w ↦
          walks_on (lists_of c.args.gctx) _ _ c.from-in-loop-member.result _ _ c.loop-member.self c.match-member_byte.self c.loop-member.invariant c.member-item.result c.loop-member-test.true c.member-item.is c.from-in-loop-member.ensures
          w.in-Some.next w.add.new.self w.in-Some.ensures w.add.ensures.noted w.add.ensures.gains w.self-is
      | in_default-member_byte w ↦
          passes_on (lists_of c.args.gctx) _ _ c.from-in-loop-member.result _ _ c.loop-member.self c.match-member_byte.self c.loop-member.invariant c.member-item.result c.loop-member-test.true c.member-item.is c.from-in-loop-member.ensures
          c.member_byte.result c.member_byte.ensures w.in_default-member_byte.not-Some w.self-is
    ]

pub returns-clause-noted : goal.returns-clause-noted
returns-clause-noted t c =
    let is : c.index.result.now.inner ≡ Struct c.as_slice-member-items.result.now c.in-Struct.span = c.in-Struct.is ∙ ap (λ ms. Struct ms c.in-Struct.span) (sym c.as_slice-member-items.ensures) in
    let gains = all_added (lists_of c.args.gctx) c.args.ty c.index.result.now.inner c.as_slice-member-items.result.now c.in-Struct.span c.args.byte c.loop-member.member-index _ _ (omega arith) (inner_is (lists_of c.args.gctx) c.args.ty _ c.index.ensures) is c.loop-member.invariant.gains in
    noted_more (lists_of c.args.gctx) c.loop-member.self c.args.ty c.args.byte c.place_of.result c.loop-member.invariant.noted c.place_of.ensures.value gains.gained

pub returns-clause-gains : goal.returns-clause-gains
returns-clause-gains t c =
    let is : c.index.result.now.inner ≡ Struct c.as_slice-member-items.result.now c.in-Struct.span = c.in-Struct.is ∙ ap (λ ms. Struct ms c.in-Struct.span) (sym c.as_slice-member-items.ensures) in
    all_added (lists_of c.args.gctx) c.args.ty c.index.result.now.inner c.as_slice-member-items.result.now c.in-Struct.span c.args.byte c.loop-member.member-index _ _ (omega arith) (inner_is (lists_of c.args.gctx) c.args.ty _ c.index.ensures) is c.loop-member.invariant.gains
