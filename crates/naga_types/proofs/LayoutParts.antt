-- When arrays and structs have layouts, by the layouts of their parts.
use Rattle.std.proofs.Common.{◌≡◌, ◌==◌, ◌%◌, ℕ, true, max, List, [], ◌∷◌, Contains, Option, Some, None, Ok, Err, map, slice_get, refl, ap, ◌∙◌}
use Rattle.std.specs.Option.{option_or}
use Rattle.std.specs.Result.{result_unwrap_or}
use Rattle.std.proofs.lemmas.Bool.{eq-eqb, eqb-true}
use Rattle.std.proofs.lemmas.Option.{get_or_from_slice_get, slice_get_within}
use Rattle.naga_flags.specs.Bits.{HOST_SHAREABLE}
use Rattle.naga_flags.specs.Flags.{has}
use Rattle.naga_ir.specs.declared.types.StructMember.{StructMember}
use Rattle.naga_types.proofs.GreatestLemmas.{same_greatest}
use Rattle.naga_types.proofs.KeptConditions.{first-none, granted-none, granted-value, granted_ok, neither, none-first, unless-kept}
use Rattle.naga_types.specs.Checks.{first, ok_unless, require}
use Rattle.naga_types.specs.Layouts.{Layout, greatest_alignment, in_storage, member_layout_error, member_layout_errors, offset_error, saturated, span_error, storage_layout_of}
use Rattle.naga_types.specs.Surroundings.{Surroundings, flags_at, info_at}
use Rattle.naga_types.specs.TypeRule.{array_layout}
use Rattle.naga_types.specs.declared.error.Disalignment.{Disalignment}
use Rattle.naga_types.specs.declared.error.Disalignment.TheVariants.{ArrayStride, MemberOffset, NonHostShareable, StructSpan}
use Rattle.naga_types.specs.declared.info.TypeInfo.{TypeInfo}
use Rattle.naga_typing.specs.Layout.{alignment_at, greatest}

-- an item at an index is in the list
pub contains-place : {X : Type 0} (xs : List X) (i : ℕ) (x : X) → slice_get xs i ≡ Some x → Contains xs x
contains-place xs i x at = (i, slice_get_within xs i x at, get_or_from_slice_get xs i x x at)

-- the base of an array has an alignment, and the stride is a multiple of that and of the least
pub record ArrayIsAligned (least stride : ℕ) (l : Layout) (a : ℕ) : Type 0 where
  pub base : ℕ
  pub base_is : l ≡ Ok base
  pub is : max base least ≡ a
  pub aligned : stride % max base least ≡ 0

module _ (handle least stride : ℕ) where
  -- an array with an alignment has such a base and stride
  pub array-laid_out : (l : Layout) (a : ℕ) → array_layout handle least stride l ≡ Ok a → ArrayIsAligned least stride l a
  array-laid_out (Err e) a h = cc h
  array-laid_out (Ok b) a h =
      let kept = granted_ok (require (stride % max b least == 0) _) (max b least) a h in
      record { base = b; base_is = refl; is = kept.1; aligned = eqb-true (stride % max b least) 0 (unless-kept (stride % max b least == 0) _ kept.0) }

  -- an array has the alignment `max b least` if its base has the alignment `b` and its stride is a multiple of it
  pub array-layout_is : (l : Layout) (b : ℕ) → l ≡ Ok b → stride % max b least ≡ 0 → array_layout handle least stride l ≡ Ok (max b least)
  array-layout_is l b is multiple =
      ap (array_layout handle least stride) is
      ∙ ap (λ c. ok_unless (require c (handle, ArrayStride stride (max b least))) (max b least)) (eq-eqb (stride % max b least) 0 multiple)

-- a type that hosts may share stands at a multiple of the alignment that it has in an address space
pub record MemberIsAligned (s : Surroundings) (layout : TypeInfo → Layout) (m : StructMember) : Type 0 where
  pub shareable : has (flags_at s m.ty) HOST_SHAREABLE ≡ true
  pub alignment : ℕ
  pub is_alignment : layout (info_at s m.ty) ≡ Ok alignment
  pub aligned : m.offset % alignment ≡ 0

module _ (s : Surroundings) (layout : TypeInfo → Layout) (t : ℕ) where
  -- what doesn't fail for its offset has an alignment and stands at a multiple of it
  at_multiple : (k offset : ℕ) (l : Layout) → offset_error t k offset l ≡ None → (a : ℕ) × (l ≡ Ok a) × (offset % a ≡ 0)
  at_multiple k offset (Err e) h = cc h
  at_multiple k offset (Ok a) h = (a, refl, eqb-true (offset % a) 0 (unless-kept (offset % a == 0) _ h))

  -- members are aligned if none fails
  pub aligned_if_none_fails : (members : List StructMember) (k : ℕ) (m : StructMember) → first (member_layout_errors s layout t members) ≡ None → slice_get members k ≡ Some m → MemberIsAligned s layout m
  aligned_if_none_fails members k m none at =
      let both = neither (require (has (flags_at s m.ty) HOST_SHAREABLE) (m.ty, NonHostShareable)) (offset_error t k m.offset (layout (info_at s m.ty))) (none-first (member_layout_error s layout t) members none k m at) in
      let multiple = at_multiple k m.offset (layout (info_at s m.ty)) both.1 in
      record { shareable = unless-kept (has (flags_at s m.ty) HOST_SHAREABLE) _ both.0; alignment = multiple.0; is_alignment = multiple.1; aligned = multiple.2 }

  -- no member fails if all are aligned
  pub none_fails_if_aligned : (members : List StructMember) → ((k : ℕ) (m : StructMember) → slice_get members k ≡ Some m → MemberIsAligned s layout m) → first (member_layout_errors s layout t members) ≡ None
  none_fails_if_aligned members each = first-none (member_layout_error s layout t) members (λ k m at.
      let one = each k m at in
      let kept = ap (λ b. require b (m.ty, NonHostShareable)) one.shareable in
      let multiple = ap (λ b. require b (t, MemberOffset (saturated k) m.offset one.alignment)) (eq-eqb (m.offset % one.alignment) 0 one.aligned) in
      ap (λ o. option_or o (offset_error t k m.offset (layout (info_at s m.ty)))) kept ∙ ap (offset_error t k m.offset) one.is_alignment ∙ multiple)

  -- their greatest alignment is the greatest of the numbers in their layouts
  pub greatest-placed : (members : List StructMember) (of : ℕ → ℕ) → ((i : ℕ) (m : StructMember) → slice_get members i ≡ Some m → layout (info_at s m.ty) ≡ Ok (of m.ty))
      → greatest_alignment s layout members ≡ greatest (map (λ (m : StructMember). of m.ty) members)
  greatest-placed members of all =
      same_greatest (λ (m : StructMember). result_unwrap_or (layout (info_at s m.ty)) 1) (λ (m : StructMember). of m.ty) members (λ i m at. ap (λ l. result_unwrap_or l 1) (all i m at))

module _ (s : Surroundings) (t : ℕ) (members : List StructMember) (span : ℕ) where
  -- the span of a struct is a multiple of its alignment
  abbrev pub IsWhole : Type 0
  IsWhole = span % alignment_at s.layouts t ≡ 0

  -- the span is a multiple of the alignment if there is no error of the span
  pub span-whole : span_error s t span ≡ None → IsWhole
  span-whole none = eqb-true (span % alignment_at s.layouts t) 0 (unless-kept (span % alignment_at s.layouts t == 0) (t, StructSpan span (alignment_at s.layouts t)) none)

  -- there is no error of the span if it is a multiple of the alignment
  pub span-kept : IsWhole → span_error s t span ≡ None
  span-kept whole = ap (λ b. require b (t, StructSpan span (alignment_at s.layouts t))) (eq-eqb (span % alignment_at s.layouts t) 0 whole)

  -- what the storage layout of a struct says
  pub storage-laid_out : (a : ℕ) → storage_layout_of s t members span ≡ Ok a → IsWhole × (first (member_layout_errors s in_storage t members) ≡ None) × (greatest_alignment s in_storage members ≡ a)
  storage-laid_out a h =
      let members_fail : Option (ℕ × Disalignment) = first (member_layout_errors s in_storage t members) in
      let failure : Option (ℕ × Disalignment) = first (span_error s t span ∷ members_fail ∷ []) in
      let both = neither (span_error s t span) (option_or members_fail None) (granted-none failure (greatest_alignment s in_storage members) a h) in
      (span-whole both.0, (neither members_fail None both.1).0, granted-value failure (greatest_alignment s in_storage members) a h)

  -- when a struct has a storage layout, and which
  pub storage-layout_is : IsWhole → first (member_layout_errors s in_storage t members) ≡ None → storage_layout_of s t members span ≡ Ok (greatest_alignment s in_storage members)
  storage-layout_is whole none =
      ap (λ o. ok_unless (first (o ∷ first (member_layout_errors s in_storage t members) ∷ [])) (greatest_alignment s in_storage members)) (span-kept whole)
      ∙ ap (λ o. ok_unless (first (o ∷ [])) (greatest_alignment s in_storage members)) none
