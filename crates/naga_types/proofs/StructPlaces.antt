-- Where members of an accepted struct stand.
use Rattle.std.proofs.Common.{◌≡◌, ◌==◌, ◌<◌, ◌≤◌, ◌+◌, ◌&&◌, ◌||◌, ⊎_elim, ℕ, zero, suc, Bool, true, false, List, [], ◌∷◌, Some, None, Ok, bit_and, if◌then◌else◌, length, slice_get, refl, sym, ap, ◌∙◌, arith}
use Rattle.std.specs.Prelude.{◌-◌, leb, ltb}
use Rattle.std.specs.List.{enumerate_from, list_any}
use Rattle.std.proofs.lemmas.Bool.{and_parts, eqb-true, leb-true, ltb-false, or_parts, or_cases}
use Rattle.std.proofs.lemmas.Option.{same_Some, slice_get_within}
use Rattle.naga_arena.proofs.Elements.{all_at}
use Rattle.naga_arena.proofs.InOrder.{found_at}
use Rattle.naga_flags.proofs.HasLemmas.{has-bit_and}
use Rattle.naga_flags.specs.Bits.{HOST_SHAREABLE, SIZED, all_type_flags}
use Rattle.naga_flags.specs.Flags.{has}
use Rattle.naga_ir.specs.declared.types.StructMember.{StructMember}
use Rattle.naga_types.proofs.HostForms.{struct_info}
use Rattle.naga_types.proofs.KeptConditions.{granted_ok, none-first, none_stands, unless-kept}
use Rattle.naga_types.proofs.StructFlags.{has-struct_flags, without_sources}
use Rattle.naga_types.specs.Checks.{first}
use Rattle.naga_types.specs.Layouts.{before}
use Rattle.naga_types.specs.StructRule.{common_flags, end_in, restarts_at_zero, has_source, is_array, member_checks, member_error, place_checks, struct_checks, struct_flags, struct_rule}
use Rattle.naga_types.specs.Surroundings.{Surroundings, flags_at, form_at, size_at}
use Rattle.naga_types.specs.declared.info.TypeInfo.{TypeInfo}

-- an item passes no test that no item passes
none_pass : {X : Type 0} (p : ℕ × X → Bool) (n : ℕ) (xs : List X) (k : ℕ) (x : X) → list_any p (enumerate_from n xs) ≡ false → slice_get xs k ≡ Some x → p (n + k, x) ≡ false
none_pass p n [] k x none at = cc at
none_pass p n (y ∷ xs) zero x none at =
    let here : n + 0 ≡ n = omega arith in
    ap (λ i. p (i, x)) here ∙ ap (λ z. p (n, z)) (sym (same_Some y x at)) ∙ (or_parts (p (n, y)) _ none).0
none_pass p n (y ∷ xs) (suc k) x none at =
    let here : n + suc k ≡ n + 1 + k = omega arith in
    ap (λ i. p (i, x)) here ∙ none_pass p (n + 1) xs k x (or_parts (p (n, y)) _ none).1 at

-- what begins at 0 or behind another, and does not go back, begins behind it
behind : (at_start : Bool) (e o : ℕ) → (at_start || leb e o) ≡ true → (at_start && ltb 0 e) ≡ false → e ≤ o
behind true e o h back = let none = ltb-false 0 e back in omega arith
behind false e o h back = leb-true e o h

-- if hosts may share a struct, no member went back
no_member_back : (back : Bool) (flags : ℕ) → has (if back then bit_and flags (all_type_flags - HOST_SHAREABLE) else flags) HOST_SHAREABLE ≡ true → back ≡ false
no_member_back true flags h =
    let kept : false ≡ true = (and_parts (has flags HOST_SHAREABLE) false (sym (has-bit_and flags (all_type_flags - HOST_SHAREABLE) HOST_SHAREABLE) ∙ h)).1 in
    sym kept
no_member_back false flags h = refl

module _ (s : Surroundings) (members : List StructMember) where
  -- a member goes back
  abbrev back : Bool
  back = list_any (restarts_at_zero s members) (enumerate_from 0 members)

  -- the members are the two sources of blending
  abbrev sources : Bool
  sources = has_source members 0 && has_source members 1

  -- what the struct may be used for, without sources of blending
  abbrev for_hosts : ℕ
  for_hosts = if back then bit_and (common_flags s members) (all_type_flags - HOST_SHAREABLE) else common_flags s members

  -- no member of a struct that hosts share goes back
  pub none_goes_back : (k : ℕ) (m : StructMember) → has (struct_flags s members) HOST_SHAREABLE ≡ true → slice_get members k ≡ Some m → restarts_at_zero s members (k, m) ≡ false
  none_goes_back k m h at =
      let here : 0 + k ≡ k = omega arith in
      ap (λ i. restarts_at_zero s members (i, m)) (sym here) ∙ none_pass (restarts_at_zero s members) 0 members k m (no_member_back back (common_flags s members) (without_sources sources for_hosts HOST_SHAREABLE refl h)) at

  -- each member of a struct of a fixed size has one
  pub members_sized : (k : ℕ) (m : StructMember) → has (struct_flags s members) SIZED ≡ true → slice_get members k ≡ Some m → has (flags_at s m.ty) SIZED ≡ true
  members_sized k m h at = all_at (λ (m : StructMember). has (flags_at s m.ty) SIZED ≡ true) members k m (has-struct_flags s members SIZED refl h) at

module _ (s : Surroundings) (t : ℕ) (members : List StructMember) (span : ℕ) (i : TypeInfo) (is : struct_rule s t members span ≡ Ok i) where
  -- the struct keeps its conditions, and this is its info
  abbrev all_kept : (first (struct_checks s members span) ≡ None) × (struct_info s t members span ≡ i)
  all_kept = granted_ok (first (struct_checks s members span)) (struct_info s t members span) i is

  -- the flags of the struct are the flags by its members
  pub flags_are : i.flags.0 ≡ struct_flags s members
  flags_are = ap (λ (x : TypeInfo). x.flags.0) (sym all_kept.1)

  member_kept : (k : ℕ) (m : StructMember) → slice_get members k ≡ Some m → first (member_checks s members span (k, m)) ≡ None
  member_kept k m at =
      none-first (member_error s members span) members (none_stands (struct_checks s members span) 1 _ all_kept.0 refl) k m at

  module _ (k : ℕ) (m : StructMember) (at : slice_get members k ≡ Some m) where
    place_kept : first (place_checks s members span k m) ≡ None
    place_kept = none_stands (member_checks s members span (k, m)) 2 _ (member_kept k m at) refl

    begins_behind : (m.offset == 0 || leb (end_in s (before members k)) m.offset) ≡ true
    begins_behind = unless-kept (m.offset == 0 || leb (end_in s (before members k)) m.offset) _ (none_stands (place_checks s members span k m) 0 _ place_kept refl)

    -- a member ends within the span
    pub ends_within : m.offset + size_at s m.ty ≤ span
    ends_within = leb-true (m.offset + size_at s m.ty) span (unless-kept (leb (m.offset + size_at s m.ty) span) _ (none_stands (place_checks s members span k m) 1 _ place_kept refl))

    sized_or_last : (has (flags_at s m.ty) SIZED || is_array (form_at s m.ty) && k + 1 == length members) ≡ true
    sized_or_last = unless-kept (has (flags_at s m.ty) SIZED || is_array (form_at s m.ty) && k + 1 == length members) _ (none_stands (member_checks s members span (k, m)) 3 _ (member_kept k m at) refl)

    -- a member before another has a fixed size
    pub earlier_sized : k + 1 < length members → has (flags_at s m.ty) SIZED ≡ true
    earlier_sized earlier =
        ⊎_elim (λ (h : has (flags_at s m.ty) SIZED ≡ true). h)
        (λ (h : (is_array (form_at s m.ty) && k + 1 == length members) ≡ true). absurd (let last = eqb-true (k + 1) (length members) (and_parts (is_array (form_at s m.ty)) _ h).1 in omega arith))
        (or_cases (has (flags_at s m.ty) SIZED) _ sized_or_last)

  module _ (hosts : has i.flags.0 HOST_SHAREABLE ≡ true) where
    for_hosts_too : has (struct_flags s members) HOST_SHAREABLE ≡ true
    for_hosts_too = ap (λ flags. has flags HOST_SHAREABLE) (sym flags_are) ∙ hosts

    next_follows : (k : ℕ) (m q : StructMember) → slice_get members k ≡ Some m → slice_get members (suc k) ≡ Some q → m.offset + size_at s m.ty ≤ q.offset
    next_follows k m q at next =
        let e : end_in s (before members (suc k)) ≡ m.offset + size_at s m.ty = ap (end_in s) at in
        let h = behind (q.offset == 0) (end_in s (before members (suc k))) q.offset (begins_behind (suc k) q next) (none_goes_back s members (suc k) q for_hosts_too next) in
        omega (arith, e, h)

    -- a member ends before each one behind it begins
    pub members_follow : (d k j : ℕ) (m q : StructMember) → j ≡ suc (k + d) → slice_get members k ≡ Some m → slice_get members j ≡ Some q → m.offset + size_at s m.ty ≤ q.offset
    members_follow zero k j m q e at there = next_follows k m q at (ap (slice_get members) (let same : suc k ≡ j = omega arith in same) ∙ there)
    members_follow (suc d) k j m q e at there =
        let r = found_at members (suc (k + d)) (let within = slice_get_within members j q there in omega arith) in
        let h = members_follow d k (suc (k + d)) m r.0 refl at r.1 in
        let n = next_follows (suc (k + d)) r.0 q r.1 (ap (slice_get members) (let same : suc (suc (k + d)) ≡ j = omega arith in same) ∙ there) in
        omega (arith, h, n)
