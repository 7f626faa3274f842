-- When structs have uniform layouts, by their members.
use Rattle.std.proofs.Common.{◌≡◌, ◌+◌, ◌≤◌, ℕ, zero, suc, true, max, List, [], ◌∷◌, Option, Some, None, Ok, map, slice_get, refl, sym, subst, ap, ◌∙◌, arith}
use Rattle.std.specs.Option.{option_and_then, option_map}
use Rattle.std.specs.Prelude.{leb}
use Rattle.std.proofs.lemmas.Bool.{le-leb, leb-true}
use Rattle.naga_flags.specs.Bits.{SIZED}
use Rattle.naga_flags.specs.Flags.{has}
use Rattle.naga_ir.specs.declared.types.«Type».{«Type»}
use Rattle.naga_ir.specs.declared.types.StructMember.{StructMember}
use Rattle.naga_ir.specs.declared.types.TypeInner.{TypeInner}
use Rattle.naga_ir.specs.declared.types.TypeInner.TheVariants.{Struct}
use Rattle.naga_types.proofs.KeptConditions.{first-none, granted-none, granted-value, last-none, neither, none-first, none-last, unless-kept}
use Rattle.naga_types.proofs.LayoutParts.{IsWhole, span-kept, span-whole}
use Rattle.naga_types.specs.Checks.{first, ok_unless, require}
use Rattle.naga_types.specs.Layouts.{greatest_alignment, in_uniform, last_padding_error, member_layout_errors, min_uniform, end_after_struct_before, padding_error, end_after_struct, rounded_up, saturated, unsized_error, unsized_errors, span_error, uniform_layout_of}
use Rattle.naga_types.specs.Surroundings.{Surroundings, flags_at, form_at, form_in}
use Rattle.naga_types.specs.declared.error.Disalignment.{Disalignment}
use Rattle.naga_types.specs.declared.error.Disalignment.TheVariants.{MemberOffsetAfterStruct, UnsizedMember}
use Rattle.naga_typing.specs.Layout.{greatest}
use Rattle.naga_typing.specs.Leaves.{inner_at}

-- numbers that are the same above a bound have a greatest that is the same above it
pub greatest-above : {X : Type 0} (f h : X → ℕ) (bound : ℕ) (xs : List X) → ((x : X) → max (f x) bound ≡ max (h x) bound) → max (greatest (map f xs)) bound ≡ max (greatest (map h xs)) bound
greatest-above f h bound [] same = refl
greatest-above f h bound (x ∷ xs) same = let rest = greatest-above f h bound xs same in let here = same x in omega (arith, rest, here)

-- a type by its surroundings is the type by the lists
pub form-at : (s : Surroundings) (t : ℕ) → form_at s t ≡ inner_at s.lists t
form-at s t = by (slice_get s.lists.types t)
  where
    by : (found : Option «Type») → form_in found ≡ option_map (λ (ty : «Type»). ty.inner) found
    by None = refl
    by (Some ty) = refl

module _ (s : Surroundings) (t : ℕ) (members : List StructMember) (span : ℕ) where
  -- all members have fixed sizes if there is no error of their sizes
  pub sizes-fixed : first (unsized_errors s t members) ≡ None → (i : ℕ) (m : StructMember) → slice_get members i ≡ Some m → has (flags_at s m.ty) SIZED ≡ true
  sizes-fixed none i m at = unless-kept (has (flags_at s m.ty) SIZED) (t, UnsizedMember (saturated i)) (none-first (unsized_error s t) members none i m at)

  -- there is no error of the members' sizes if all have fixed sizes
  pub sizes-kept : ((i : ℕ) (m : StructMember) → slice_get members i ≡ Some m → has (flags_at s m.ty) SIZED ≡ true) → first (unsized_errors s t members) ≡ None
  sizes-kept all = first-none (unsized_error s t) members (λ i m at. ap (λ b. require b (t, UnsizedMember (saturated i))) (all i m at))

  -- a member after a struct begins after its room
  abbrev pub RoomIsLeft : Type 0
  RoomIsLeft = (i : ℕ) (m next : StructMember) (inside : List StructMember) (room : ℕ) → slice_get members i ≡ Some m → slice_get members (suc i) ≡ Some next → inner_at s.lists m.ty ≡ Some (Struct inside room)
      → m.offset + rounded_up room ≤ next.offset

  -- a member after a struct begins after its room if there is no error of such a member
  pub rooms-left : last_padding_error s t members ≡ None → RoomIsLeft
  rooms-left none i m next inside room m_at next_at is =
      let kept : end_after_struct_before s members (suc i) ≤ next.offset = leb-true (end_after_struct_before s members (suc i)) next.offset
      (unless-kept (leb (end_after_struct_before s members (suc i)) next.offset) (t, MemberOffsetAfterStruct (saturated (suc i)) next.offset (saturated (end_after_struct_before s members (suc i))))
      (none-last (padding_error s t members) members none (suc i) next next_at)) in
      let its : end_after_struct_before s members (suc i) ≡ m.offset + rounded_up room = ap (λ o. end_after_struct o (option_and_then (λ (p : StructMember). form_at s p.ty) o)) m_at ∙ ap (end_after_struct (Some m)) (form-at s m.ty ∙ is) in
      subst (λ n. n ≤ next.offset) its kept

  room_kept : RoomIsLeft → (i : ℕ) (m : StructMember) → slice_get members i ≡ Some m → end_after_struct_before s members i ≤ m.offset
  room_kept left zero m at = omega arith
  room_kept left (suc j) m at = by_member (slice_get members j) refl
    where
      by_form : (p : StructMember) → slice_get members j ≡ Some p → (found : Option TypeInner) → form_at s p.ty ≡ found → end_after_struct (Some p) found ≤ m.offset
      by_form p p_at None is = omega arith
      by_form p p_at (Some (Struct inside room)) is = left j p m inside room p_at at (sym (form-at s p.ty) ∙ is)
      by_form p p_at (Some _) is = omega arith

      by_member : (found : Option StructMember) → slice_get members j ≡ found → end_after_struct found (option_and_then (λ (p : StructMember). form_at s p.ty) found) ≤ m.offset
      by_member None none = omega arith
      by_member (Some p) p_at = by_form p p_at (form_at s p.ty) refl

  -- there is no error of a member after a struct if each begins after the room of the struct
  pub rooms-kept : RoomIsLeft → last_padding_error s t members ≡ None
  rooms-kept left = last-none (padding_error s t members) members
      (λ i m at. ap (λ b. require b (t, MemberOffsetAfterStruct (saturated i) m.offset (saturated (end_after_struct_before s members i)))) (le-leb (end_after_struct_before s members i) m.offset (room_kept left i m at)))

  -- no condition of a uniform layout is broken
  pub record UniformKept : Type 0 where
    pub whole : IsWhole s t members span
    pub rooms : last_padding_error s t members ≡ None
    pub placed : first (member_layout_errors s in_uniform t members) ≡ None
    pub sized : first (unsized_errors s t members) ≡ None

  -- what the uniform layout of a struct says
  pub uniform-laid_out : (a : ℕ) → uniform_layout_of s t members span ≡ Ok a → UniformKept × (max (greatest_alignment s in_uniform members) min_uniform ≡ a)
  uniform-laid_out a h =
      let spans : Option (ℕ × Disalignment) = span_error s t span in
      let rooms : Option (ℕ × Disalignment) = last_padding_error s t members in
      let places : Option (ℕ × Disalignment) = first (member_layout_errors s in_uniform t members) in
      let sizes : Option (ℕ × Disalignment) = first (unsized_errors s t members) in
      let failure : Option (ℕ × Disalignment) = first (spans ∷ rooms ∷ places ∷ sizes ∷ []) in
      let first_two = neither spans (first (rooms ∷ places ∷ sizes ∷ [])) (granted-none failure (max (greatest_alignment s in_uniform members) min_uniform) a h) in
      let next_two = neither rooms (first (places ∷ sizes ∷ [])) first_two.1 in
      let last_two = neither places (first (sizes ∷ [])) next_two.1 in (
        record { whole = span-whole s t members span first_two.0; rooms = next_two.0; placed = last_two.0; sized = (neither sizes None last_two.1).0 },
        granted-value failure (max (greatest_alignment s in_uniform members) min_uniform) a h,
      )

  -- when a struct has a uniform layout, and which
  pub uniform-layout_is : UniformKept → uniform_layout_of s t members span ≡ Ok (max (greatest_alignment s in_uniform members) min_uniform)
  uniform-layout_is kept =
      let alignment : ℕ = max (greatest_alignment s in_uniform members) min_uniform in
      ap (λ o. ok_unless (first (o ∷ last_padding_error s t members ∷ first (member_layout_errors s in_uniform t members) ∷ first (unsized_errors s t members) ∷ [])) alignment) (span-kept s t members span kept.whole)
      ∙ ap (λ o. ok_unless (first (o ∷ first (member_layout_errors s in_uniform t members) ∷ first (unsized_errors s t members) ∷ [])) alignment) kept.rooms
      ∙ ap (λ o. ok_unless (first (o ∷ first (unsized_errors s t members) ∷ [])) alignment) kept.placed
      ∙ ap (λ o. ok_unless (first (o ∷ [])) alignment) kept.sized
