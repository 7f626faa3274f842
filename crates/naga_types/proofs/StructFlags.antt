-- A struct's flags are its members': except `IO_SHAREABLE` it has none that a member lacks.
use Rattle.std.proofs.Common.{◌≡◌, ◌&&◌, ℕ, Bool, true, false, List, All, if◌then◌else◌, refl, sym, ap, ◌∙◌}
use Rattle.std.specs.List.{enumerate_from, list_all, list_any}
use Rattle.std.specs.Prelude.{◌==◌, ◌-◌, bit_and, bit_or}
use Rattle.std.proofs.lemmas.Bool.{and_parts}
use Rattle.std.proofs.lemmas.Nat.{and_or_apart}
use Rattle.naga_flags.proofs.HasLemmas.{has-bit_and}
use Rattle.naga_flags.specs.Bits.{HOST_SHAREABLE, IO_SHAREABLE, all_type_flags}
use Rattle.naga_flags.specs.Flags.{has}
use Rattle.naga_ir.specs.declared.types.StructMember.{StructMember}
use Rattle.naga_types.proofs.CommonFlags.{has-common_flags}
use Rattle.naga_types.proofs.KeptConditions.{all-pass}
use Rattle.naga_types.specs.FormFlags.{unshared_flags}
use Rattle.naga_types.specs.StructRule.{common_flags, restarts_at_zero, has_source, struct_flags}
use Rattle.naga_types.specs.Surroundings.{Surroundings, flags_at}

-- an intersection has no flags that its first set lacks
pub has-first : (a b flags : ℕ) → has (bit_and a b) flags ≡ true → has a flags ≡ true
has-first a b flags h = (and_parts (has a flags) (has b flags) (sym (has-bit_and a b flags) ∙ h)).0

-- an intersection has no flags that its second set lacks
pub has-second : (a b flags : ℕ) → has (bit_and a b) flags ≡ true → has b flags ≡ true
has-second a b flags h = (and_parts (has a flags) (has b flags) (sym (has-bit_and a b flags) ∙ h)).1

-- the flag that sources of blending are given changes no others
kept_by_sources : (sources : Bool) (hosts flags : ℕ) → bit_and IO_SHAREABLE flags ≡ 0 → has (if sources then bit_or hosts IO_SHAREABLE else hosts) flags ≡ has hosts flags
kept_by_sources true hosts flags apart = ap (λ n. n == flags) (and_or_apart flags hosts IO_SHAREABLE apart)
kept_by_sources false hosts flags apart = refl

-- flags other than the one that sources of blending are given are the flags without it
pub without_sources : (sources : Bool) (hosts flags : ℕ) → bit_and IO_SHAREABLE flags ≡ 0 → has (if sources then bit_or hosts IO_SHAREABLE else hosts) flags ≡ true → has hosts flags ≡ true
without_sources sources hosts flags apart h = sym (kept_by_sources sources hosts flags apart) ∙ h

-- except `IO_SHAREABLE`, a struct has no flags that a member lacks
pub has-struct_flags : (s : Surroundings) (members : List StructMember) (flags : ℕ) → bit_and IO_SHAREABLE flags ≡ 0 → has (struct_flags s members) flags ≡ true
    → All (λ (m : StructMember). has (flags_at s m.ty) flags ≡ true) members
has-struct_flags s members flags apart h =
    let goes : Bool = list_any (restarts_at_zero s members) (enumerate_from 0 members) in
    let common = by_back goes (without_sources (has_source members 0 && has_source members 1) (if goes then bit_and (common_flags s members) (all_type_flags - HOST_SHAREABLE) else common_flags s members) flags apart h) in
    all-pass (λ (m : StructMember). has (flags_at s m.ty) flags) members
    (and_parts (has unshared_flags flags) (list_all (λ (m : StructMember). has (flags_at s m.ty) flags) members) (sym (has-common_flags s members flags) ∙ common)).1
  where
    by_back : (back : Bool) → has (if back then bit_and (common_flags s members) (all_type_flags - HOST_SHAREABLE) else common_flags s members) flags ≡ true → has (common_flags s members) flags ≡ true
    by_back true e = has-first (common_flags s members) (all_type_flags - HOST_SHAREABLE) flags e
    by_back false e = e

-- a second condition that holds adds nothing
and_true : (b : Bool) → (b && true) ≡ b
and_true true = refl
and_true false = refl

-- of the flags that structs may have, and that neither rule on single structs changes, a struct
-- has those that all members have
pub has-members_flags : (s : Surroundings) (members : List StructMember) (flags : ℕ) → bit_and IO_SHAREABLE flags ≡ 0 → has (all_type_flags - HOST_SHAREABLE) flags ≡ true → has unshared_flags flags ≡ true
    → has (struct_flags s members) flags ≡ list_all (λ (m : StructMember). has (flags_at s m.ty) flags) members
has-members_flags s members flags apart kept may =
    let goes : Bool = list_any (restarts_at_zero s members) (enumerate_from 0 members) in
    kept_by_sources (has_source members 0 && has_source members 1) (if goes then bit_and (common_flags s members) (all_type_flags - HOST_SHAREABLE) else common_flags s members) flags apart ∙ by_back goes
    ∙ has-common_flags s members flags ∙ ap (λ b. b && list_all (λ (m : StructMember). has (flags_at s m.ty) flags) members) may
  where
    by_back : (back : Bool) → has (if back then bit_and (common_flags s members) (all_type_flags - HOST_SHAREABLE) else common_flags s members) flags ≡ has (common_flags s members) flags
    by_back true = has-bit_and (common_flags s members) (all_type_flags - HOST_SHAREABLE) flags ∙ ap (λ b. has (common_flags s members) flags && b) kept ∙ and_true (has (common_flags s members) flags)
    by_back false = refl
