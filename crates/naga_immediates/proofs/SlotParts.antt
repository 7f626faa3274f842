-- Which slots a type uses, by its members.
use Rattle.std.proofs.Common.{◌≡◌, ◌<◌, ◌≤◌, ◌+◌, ◌↔◌, ◌⊎◌, ⊎_elim, ℕ, true≢false, List, Option, Some, None, All, Contains, length, get_or, inl, inr, map, refl, replicate, sym, ap, subst, ◌∙◌, arith, ltb, if◌then◌else◌}
use Rattle.std.specs.Int.RustNames.{bit_or}
use Rattle.std.specs.List.{slice_get}
use Rattle.std.specs.Option.{option_map}
use Rattle.std.proofs.lemmas.Bool.{cases_lt, lt-ltb}
use Rattle.std.proofs.lemmas.List.{get_or-replicate, length-replicate}
use Rattle.std.proofs.lemmas.List.Elements.{All-contains, Contains-append_left}
use Rattle.std.proofs.lemmas.Nat.Bits.{bit_at-zero}
use Rattle.std.proofs.lemmas.Option.{none-some, cond_some, get_or_from_slice_get, same_Some, slice_get-get_or, slice_get_read, slice_get_within}
use Rattle.naga_arena.proofs.Elements.{contains-map}
use Rattle.naga_immediates.proofs.SlotBits.{in_both, zero_not_one}
use Rattle.naga_immediates.specs.Slots.{IsSetOf, HasPart, HasSlot, SharesByte, UsesSlot, slot_count}
use Rattle.naga_immediates.specs.Slots.HasPart.{itself, in_member}
use Rattle.naga_immediates.specs.declared.immediates.ImmediateSlots.{ImmediateSlots}
use Rattle.naga_immediates.specs.declared.immediates.SlotWalk.{SlotWalk}
use Rattle.naga_immediates.specs.steps.SlotWalk.{AddsSlotsOf, KnowsNoted, TypeUses, byte_of, note_count, place_of}
use Rattle.naga_ir.proofs.ReferencesOfItems.{parts_come_before}
use Rattle.naga_ir.specs.Handles.{ExistsGlobally, GlobalReferencesOk}
use Rattle.naga_ir.specs.ItemReferences.{GlobalLists, type_references}
use Rattle.naga_ir.specs.declared.reference.Reference.TheVariants as to
use Rattle.naga_ir.proofs.PartLemmas.{members_are}
use Rattle.naga_ir.specs.Parts.{parts}
use Rattle.naga_ir.specs.TypeWords.{IsNotStruct}
use Rattle.naga_ir.specs.declared.types.«Type».{«Type»}
use Rattle.naga_ir.specs.declared.types.StructMember.{StructMember}
use Rattle.naga_ir.specs.declared.types.TypeInner.{TypeInner}
use Rattle.naga_ir.specs.declared.types.TypeInner.TheVariants.{Struct}
use Rattle.naga_typing.specs.Context.{ReferencesExist}
use Rattle.naga_typing.specs.Layout.{size_of}
use Rattle.naga_typing.specs.Leaves.{inner_at}

pub contains_at : {X : Type 0} (xs : List X) (j : ℕ) (x : X) → slice_get xs j ≡ Some x → Contains xs x
contains_at xs j x at = (j, slice_get_within xs j x at, get_or_from_slice_get xs j x x at)

module _ (g : GlobalLists) where
  -- a part of a struct is a part of a member
  pub record InMember (members : List StructMember) (at : ℕ) (part : TypeInner) (first : ℕ) : Type 0 where
    pub m : StructMember
    pub inner : TypeInner
    pub is_member : Contains members m
    pub is_its : inner_at g m.ty ≡ Some inner
    pub has : HasPart g inner (at + m.offset) part first

  part_of_struct : (whole : TypeInner) (members : List StructMember) (span at : ℕ) (part : TypeInner) (first : ℕ) → whole ≡ Struct members span → HasPart g whole at part first → InMember members at part first
  part_of_struct _ members span _ _ _ e (itself inner at plain) = absurd (true≢false (subst IsNotStruct e plain))
  part_of_struct _ members span _ _ _ e (in_member members′ span′ at m inner part first is_member is_its has) =
      let same : members′ ≡ members = cc in
      record { m = m; inner = inner; is_member = subst (λ ms. Contains ms m) same is_member; is_its = is_its; has = has }

  -- a value that is not a struct is its own only part
  part_of_other : (whole : TypeInner) (at : ℕ) (part : TypeInner) (first : ℕ) → IsNotStruct whole → HasPart g whole at part first → (part ≡ whole) × (first ≡ at)
  part_of_other _ _ _ _ plain (itself inner at other) = (refl, refl)
  part_of_other _ _ _ _ plain (in_member members span at m inner part first is_member is_its has) = absurd (true≢false plain)

  -- a part begins no earlier than the whole
  part_from : (inner : TypeInner) (at : ℕ) (part : TypeInner) (first : ℕ) → HasPart g inner at part first → at ≤ first
  part_from _ _ _ _ (itself inner at plain) = omega arith
  part_from _ _ _ _ (in_member members span at m inner part first is_member is_its has) = let h : at + m.offset ≤ first = part_from inner (at + m.offset) part first has in omega arith

  -- nothing that begins past all bytes uses a slot
  none_past : (t at k : ℕ) → 256 ≤ at → k < slot_count → TypeUses g t at k → ⊥
  none_past t at k past within u = past_all u.uses.first (size_of g u.uses.part) (part_from u.inner at u.uses.part u.uses.first u.uses.is_part) u.uses.shares
    where
      past_all : (first size : ℕ) → at ≤ first → SharesByte first size k → ⊥
      past_all first size from (byte, a, b, c, d) = omega arith

  -- a value that is not a struct uses the slots of its bytes
  pub used_by_other : (inner : TypeInner) (at k : ℕ) → IsNotStruct inner → UsesSlot g inner at k ↔ SharesByte at (size_of g inner) k
  used_by_other inner at k plain = (there, back)
    where
      there : UsesSlot g inner at k → SharesByte at (size_of g inner) k
      there u =
          let same = part_of_other inner at u.part u.first plain u.is_part in
          subst (λ p. SharesByte at (size_of g p) k) same.0 (subst (λ n. SharesByte n (size_of g u.part) k) same.1 u.shares)

      back : SharesByte at (size_of g inner) k → UsesSlot g inner at k
      back h = record { part = inner; first = at; is_part = itself inner at plain; shares = h }

  -- one of the first members of a struct that begins at a byte uses a slot
  pub record UsedBefore (members : List StructMember) (at i k : ℕ) : Type 0 where
    pub place : ℕ
    pub m : StructMember
    pub before : place < i
    pub is_member : slice_get members place ≡ Some m
    pub uses : TypeUses g m.ty (at + m.offset) k

  -- a struct uses the slots that its members use
  pub used_by_struct : (members : List StructMember) (span at k : ℕ) → UsesSlot g (Struct members span) at k ↔ UsedBefore members at (length members) k
  used_by_struct members span at k = (there, back)
    where
      there : UsesSlot g (Struct members span) at k → UsedBefore members at (length members) k
      there u =
          let p = part_of_struct (Struct members span) members span at u.part u.first refl u.is_part in
          let member : slice_get members p.is_member.0 ≡ Some p.m = slice_get-get_or members p.is_member.0 p.m p.is_member.1 ∙ ap Some p.is_member.2 in
          record { place = p.is_member.0; m = p.m; before = p.is_member.1; is_member = member; uses = record { inner = p.inner; is_its = p.is_its; uses = record { part = u.part; first = u.first; is_part = p.has; shares = u.shares } } }

      back : UsedBefore members at (length members) k → UsesSlot g (Struct members span) at k
      back u =
          record { part = u.uses.uses.part; first = u.uses.uses.first; is_part = in_member members span at u.m u.uses.inner u.uses.uses.part u.uses.uses.first (contains_at members u.place u.m u.is_member) u.uses.is_its u.uses.uses.is_part; shares = u.uses.uses.shares }

  -- a set has gained exactly the slots that the first members use
  pub record GainsBefore (members : List StructMember) (at i : ℕ) (old new : ImmediateSlots) : Type 0 where
    pub kept : (k : ℕ) → HasSlot old k → HasSlot new k
    pub gained : (k : ℕ) → k < slot_count → UsedBefore members at i k → HasSlot new k
    pub only : (k : ℕ) → HasSlot new k → HasSlot old k ⊎ ((k < slot_count) × UsedBefore members at i k)

  pub begin : (members : List StructMember) (at : ℕ) (slots : ImmediateSlots) → GainsBefore members at 0 slots slots
  begin members at slots = record { kept = λ k h. h; gained = λ k within u. let h : u.place < 0 = u.before in absurd (omega (arith, h)); only = λ k h. inl h }

  module _ (members : List StructMember) (at i : ℕ) (old new : ImmediateSlots) (h : GainsBefore members at i old new) (m : StructMember) (is : slice_get members i ≡ Some m) where
    before_or_this : (k : ℕ) → UsedBefore members at (i + 1) k → UsedBefore members at i k ⊎ TypeUses g m.ty (at + m.offset) k
    before_or_this k u =
        let within : u.place < i + 1 = u.before in
        elim (cases_lt u.place i) [
          | inl earlier ↦ inl (record { place = u.place; m = u.m; before = earlier; is_member = u.is_member; uses = u.uses })
          | inr later ↦
              let same : u.place ≡ i = omega arith in
              let is_m : u.m ≡ m = same_Some u.m m (sym u.is_member ∙ ap (slice_get members) same ∙ is) in
              inr (subst (λ (n : StructMember). TypeUses g n.ty (at + n.offset) k) is_m u.uses)
        ]

    later : (k : ℕ) → UsedBefore members at i k → UsedBefore members at (i + 1) k
    later k u = let before : u.place < i = u.before in record { place = u.place; m = u.m; before = omega arith; is_member = u.is_member; uses = u.uses }

    -- one more member is added
    pub added : (next : ℕ) (new′ : ImmediateSlots) → next ≡ at + m.offset → AddsSlotsOf g m.ty next new new′ → GainsBefore members at (i + 1) old new′
    added next new′ e gains =
        let gains : AddsSlotsOf g m.ty (at + m.offset) new new′ = subst (λ n. AddsSlotsOf g m.ty n new new′) e gains in
        record {
          kept = λ k has. gains.kept k (h.kept k has);
          gained = λ k within u. ⊎_elim (λ before. gains.kept k (h.gained k within before)) (λ this. gains.gained k within this) (before_or_this k u);
          only = λ k has. ⊎_elim
              (λ had. ⊎_elim (λ first. inl first) (λ p. inr (p.0, later k p.1)) (h.only k had))
              (λ p. inr (p.0, record { place = i; m = m; before = omega arith; is_member = is; uses = p.1 }))
              (gains.only k has);
        }

    -- one more begins past all bytes
    pub skipped : 256 ≤ at + m.offset → GainsBefore members at (i + 1) old new
    skipped past =
        record {
          kept = h.kept;
          gained = λ k within u. ⊎_elim (λ before. h.gained k within before) (λ this. absurd (none_past m.ty (at + m.offset) k past within this)) (before_or_this k u);
          only = λ k has. ⊎_elim (λ had. inl had) (λ p. inr (p.0, later k p.1)) (h.only k has);
        }

  -- when all members are added, all slots of the struct are
  pub all_added : (t : ℕ) (inner : TypeInner) (members : List StructMember) (span at i : ℕ) (old new : ImmediateSlots) → length members ≡ i → inner_at g t ≡ Some inner → inner ≡ Struct members span
      → GainsBefore members at i old new → AddsSlotsOf g t at old new
  all_added t inner members span at i old new end is_its is h =
      let is_struct : inner_at g t ≡ Some (Struct members span) = is_its ∙ ap Some is in
      record {
        kept = h.kept;
        gained = λ k within u. h.gained k within (subst (λ n. UsedBefore members at n k) end ((used_by_struct members span at k).0 (subst (λ x. UsesSlot g x at k) (same_Some u.inner (Struct members span) (sym u.is_its ∙ is_struct)) u.uses)));
        only = λ k has. ⊎_elim (λ had. inl had)
            (λ p. inr (p.0, record { inner = Struct members span; is_its = is_struct; uses = (used_by_struct members span at k).1 (subst (λ n. UsedBefore members at n k) (sym end) p.1) })) (h.only k has);
      }

  -- a value that is not a struct is added at once
  pub other_added : (t : ℕ) (inner : TypeInner) (at : ℕ) (old slots new : ImmediateSlots) → inner_at g t ≡ Some inner → IsNotStruct inner → IsSetOf (SharesByte at (size_of g inner)) slots
      → new ≡ record { 0 = bit_or old.0 slots.0 } → AddsSlotsOf g t at old new
  other_added t inner at old slots new is_its plain exactly e =
      subst (AddsSlotsOf g t at old) (sym e) record {
        kept = λ k has. (in_both old.0 slots.0 k).1 (inl has);
        gained = λ k within u. (in_both old.0 slots.0 k).1 (inr ((exactly k).1 (within, (used_by_other inner at k plain).0 (subst (λ x. UsesSlot g x at k) (same_Some u.inner inner (sym u.is_its ∙ is_its)) u.uses))));
        only = λ k has. ⊎_elim (λ had. inl had) (λ found. let p = (exactly k).0 found in inr (p.0, record { inner = inner; is_its = is_its; uses = (used_by_other inner at k plain).1 p.1 })) ((in_both old.0 slots.0 k).0 has);
      }

-- a value without members is not a struct
pub plain : (inner : TypeInner) → ((members : List StructMember) (span : ℕ) → inner ≡ Struct members span → ⊥) → IsNotStruct inner
plain (Struct members span) h = absurd (h members span refl)
plain _ h = refl

module _ (g : GlobalLists) (ok : GlobalReferencesOk g) (t : ℕ) (x : «Type») (members : List StructMember) (span : ℕ) where
  -- the members of a struct come before it
  pub member_before : slice_get g.types t ≡ Some x → x.inner ≡ Struct members span → (i : ℕ) (m : StructMember) → i < length members → m ≡ get_or members i m → m.ty < t
  member_before at is i m within e =
      let all : All (λ (m : StructMember). m.ty < t) members = members_are (λ p. p < t) x.inner members span (λ p h. parts_come_before g ok t x p at h) is in
      subst (λ (m : StructMember). m.ty < t) (sym e) (all i m within)

-- the `TypeInner` of a type that exists
pub inner_is : (g : GlobalLists) (t : ℕ) (x : «Type») → slice_get g.types t ≡ Some x → inner_at g t ≡ Some x.inner
inner_is g t x at = ap (option_map (λ (x : «Type»). x.inner)) at

-- a byte of immediate data is the number itself, and there is none past them
byte_within : (n : ℕ) → n < 256 → byte_of n ≡ Some n
byte_within n h = ap (λ b. if b then Some n else None) (lt-ltb n 256 h)

pub byte_is : (n byte : ℕ) → Some byte ≡ byte_of n → byte ≡ n
byte_is n byte e = sym (cond_some (ltb n 256) n byte (sym e)).1

pub byte_past : (n : ℕ) (found : Option ℕ) → found ≡ byte_of n → ((byte : ℕ) → found ≡ Some byte → ⊥) → 256 ≤ n
byte_past n found e none = ⊎_elim (λ under. absurd (none n (e ∙ byte_within n under))) (λ past. past) (cases_lt n 256)

-- a walk has found the slots of the first members, and of the types that it has noted
pub record IsWalking (g : GlobalLists) (members : List StructMember) (at i : ℕ) (old : ImmediateSlots) (walk : SlotWalk) : Type 0 where
  pub noted : KnowsNoted g walk
  pub gains : GainsBefore g members at i old walk.slots

module _ (g : GlobalLists) (members : List StructMember) (at at′ i : ℕ) (old : ImmediateSlots) (walk next : SlotWalk) (h : IsWalking g members at i old walk)
    (m : StructMember) (within : i < length members) (e : m ≡ get_or members i m) (same : at′ ≡ at) where
  is_at : slice_get members i ≡ Some m
  is_at = slice_get_read members (length members) i m refl within e

  -- the walk walks through one more member
  pub walks_on : (byte : ℕ) (walk′ : SlotWalk) → Some byte ≡ byte_of (at′ + m.offset) → KnowsNoted g walk′ → AddsSlotsOf g m.ty byte walk.slots walk′.slots → next ≡ walk′ → IsWalking g members at (i + 1) old next
  walks_on byte walk′ is known gains e′ =
      subst (IsWalking g members at (i + 1) old) (sym e′)
      record { noted = known; gains = added g members at i old walk.slots h.gains m is_at byte walk′.slots (byte_is _ byte is ∙ ap (λ n. n + m.offset) same) gains }

  -- the walk passes over one more member, which begins past all bytes
  pub passes_on : (found : Option ℕ) → found ≡ byte_of (at′ + m.offset) → ((byte : ℕ) → found ≡ Some byte → ⊥) → next ≡ walk → IsWalking g members at (i + 1) old next
  passes_on found is none e′ =
      subst (IsWalking g members at (i + 1) old) (sym e′)
      record { noted = h.noted; gains = skipped g members at i old walk.slots h.gains m is_at (subst (λ n. 256 ≤ n + m.offset) same (byte_past _ found is none)) }

nothing_noted : (place t : ℕ) → slice_get (replicate note_count None) place ≡ Some (Some t) → ⊥
nothing_noted place t e =
    let within : place < note_count = omega (arith, slice_get_within (replicate note_count None) place (Some t) e, length-replicate note_count (let none : Option ℕ = None in none)) in
    none-some t (sym (get_or-replicate note_count place None (Some t) within) ∙ get_or_from_slice_get (replicate note_count None) place (Some t) (Some t) e)

-- a walk begins with no slots and nothing noted
pub starts : (g : GlobalLists) (members : List StructMember) (at : ℕ) (walk : SlotWalk) → walk.slots ≡ record { 0 = 0 } → walk.noted ≡ replicate note_count None → IsWalking g members at 0 (record { 0 = 0 }) walk
starts g members at walk none nothing =
    record {
      noted = λ byte t k noted within u. absurd (nothing_noted (place_of t byte) t (ap (λ noted. slice_get noted (place_of t byte)) (sym nothing) ∙ noted));
      gains = subst (GainsBefore g members at 0 (record { 0 = 0 })) (sym none) (begin g members at (record { 0 = 0 }));
    }

-- when all members are walked through, the slots are exactly those that the struct uses
pub walked : (g : GlobalLists) (inner : TypeInner) (members : List StructMember) (span at i : ℕ) (walk : SlotWalk) → length members ≡ i → inner ≡ Struct members span → IsWalking g members at i (record { 0 = 0 }) walk
    → IsSetOf (UsesSlot g inner at) walk.slots
walked g inner members span at i walk end is h k = (there, back)
  where
    there : HasSlot walk.slots k → (k < slot_count) × UsesSlot g inner at k
    there has =
        ⊎_elim (λ had. absurd (zero_not_one (sym (bit_at-zero k) ∙ had)))
        (λ p. (p.0, subst (λ x. UsesSlot g x at k) (sym is) ((used_by_struct g members span at k).1 (subst (λ n. UsedBefore g members at n k) (sym end) p.1))))
        (h.gains.only k has)

    back : (k < slot_count) × UsesSlot g inner at k → HasSlot walk.slots k
    back p = h.gains.gained k p.0 (subst (λ n. UsedBefore g members at n k) end ((used_by_struct g members span at k).0 (subst (λ x. UsesSlot g x at k) is p.1)))

-- the types of members exist
pub member_exists : (g : GlobalLists) (inner : TypeInner) (members : List StructMember) (span i : ℕ) (m : StructMember) → ReferencesExist g inner → inner ≡ Struct members span → i < length members → m ≡ get_or members i m → m.ty < length g.types
member_exists g inner members span i m exist is within e =
    let all : All (λ (m : StructMember). m.ty < length g.types) members = members_are (λ p. p < length g.types) inner members span (λ p h. All-contains (ExistsGlobally g) (type_references inner) (to.Type_ p) exist (Contains-append_left (map to.Type_ (parts inner)) _ (to.Type_ p) (contains-map to.Type_ (parts inner) p h))) is in
    subst (λ (m : StructMember). m.ty < length g.types) (sym e) (all i m within)
