-- The sources of blending among members, one member after another.
use Rattle.std.proofs.Common.{◌≡◌, ◌==◌, ◌&&◌, ℕ, zero, suc, ◌+◌, ◌<◌, All, Bool, true, false, List, [], ◌∷◌, ◌++◌, Option, Some, None, length, take, get_or, refl, sym, ap, subst, ◌∙◌, arith}
use Rattle.std.specs.Prelude.{leb, not}
use Rattle.std.specs.Option.{option_or}
use Rattle.std.proofs.lemmas.Bool.{lt-leb}
use Rattle.std.proofs.lemmas.List.{take_more}
use Rattle.std.proofs.lemmas.List.Elements.{All-tail}
use Rattle.naga_flags.specs.Bits.{DUAL_SOURCE_BLENDING}
use Rattle.naga_flags.specs.Flags.{has}
use Rattle.naga_ir.specs.declared.types.StructMember.{StructMember}
use Rattle.naga_types.specs.Checks.{first, when, require}
use Rattle.naga_types.specs.StructRule.{has_source, source_checks, source_of, source_type, type_of_source}
use Rattle.naga_types.specs.steps.Structs.{is_noted, sources_of, with_member}
use Rattle.naga_types.specs.declared.error.TypeError.{TypeError}
use Rattle.naga_types.specs.declared.error.TypeError.TheVariants.{InvalidBlendSrc, MissingCapability}
use Rattle.naga_types.specs.declared.error.VaryingError.TheVariants.{BindingCollisionBlendSrc, InvalidBlendSrcIndex}
use Rattle.naga_types.specs.declared.structs.Sources.{Sources}
use Rattle.naga_types.proofs.CheckLemmas.{alone}

-- the conditions of a source of blending are the same by the members before and by what is noted of them, since
-- only the sources 0 and 1 are noted
pub same_conditions : (capabilities : ℕ) (members : List StructMember) (source : Option (ℕ × ℕ)) → first (source_checks capabilities (is_noted (sources_of members)) source) ≡ first (source_checks capabilities (has_source members) source)
same_conditions capabilities members None = refl
same_conditions capabilities members (Some (location, zero)) = refl
same_conditions capabilities members (Some (location, suc zero)) = refl
same_conditions capabilities members (Some (location, suc (suc source))) =
    let past : (leb (suc (suc source)) 1 && location == 0) ≡ false = ap (λ b. b && location == 0) (lt-leb (suc (suc source)) 1 (omega arith)) in
    let capability = require (has capabilities DUAL_SOURCE_BLENDING) (MissingCapability (record { 0 = DUAL_SOURCE_BLENDING })) in
    let collision = λ (taken : Bool). require (not taken) (InvalidBlendSrc (BindingCollisionBlendSrc (suc (suc source)))) in
    let with = λ (taken : Bool) (here : Bool). first (capability ∷ require here (InvalidBlendSrc (InvalidBlendSrcIndex location (suc (suc source)))) ∷ collision taken ∷ []) in
    let noted = is_noted (sources_of members) (suc (suc source)) in
    let before = has_source members (suc (suc source)) in
    ap (with noted) past ∙ neither capability _ (collision noted) (collision before) ∙ sym (ap (with before) past)
  where
    neither : (o : Option TypeError) (e : TypeError) (x y : Option TypeError) → first (o ∷ Some e ∷ x ∷ []) ≡ first (o ∷ Some e ∷ y ∷ [])
    neither None e x y = refl
    neither (Some d) e x y = refl

option_or_assoc : {A : Type 0} (a b c : Option A) → option_or (option_or a b) c ≡ option_or a (option_or b c)
option_or_assoc None b c = refl
option_or_assoc (Some x) b c = refl

-- one member more
source_more : (k : ℕ) (xs : List StructMember) (m : StructMember) → source_type k (xs ++ m ∷ []) ≡ option_or (source_type k xs) (type_of_source k m.ty (source_of m.binding))
source_more k [] m = alone (type_of_source k m.ty (source_of m.binding))
source_more k (x ∷ xs) m =
    ap (option_or (type_of_source k x.ty (source_of x.binding))) (source_more k xs m)
    ∙ sym (option_or_assoc (type_of_source k x.ty (source_of x.binding)) (source_type k xs) (type_of_source k m.ty (source_of m.binding)))

abbrev both : Option ℕ → Option ℕ → Sources
both a b = record { first = a; second = b }

same_sources : (a b c d : Option ℕ) → a ≡ c → b ≡ d → both a b ≡ both c d
same_sources a b c d p q = cc (p, q)

-- the sources among the members up to a place
pub sources_more : (xs : List StructMember) (i : ℕ) (m : StructMember) → i < length xs → m ≡ get_or xs i m → sources_of (take (i + 1) xs) ≡ with_member (sources_of (take i xs)) m
sources_more xs i m h e =
    let one_more : take (i + 1) xs ≡ take i xs ++ m ∷ [] = take_more xs i m h ∙ ap (λ y. take i xs ++ y ∷ []) (sym e) in
    ap sources_of one_more ∙ same_sources _ _ _ _ (source_more 0 (take i xs) m) (source_more 1 (take i xs) m)

found_before : (n : ℕ) (o p : Option ℕ) (t : ℕ) → ((x : ℕ) → o ≡ Some x → x < n) → ((x : ℕ) → p ≡ Some x → x < n) → option_or o p ≡ Some t → t < n
found_before n None p t here rest h = rest t h
found_before n (Some x) p t here rest h = here t h

of_member : (n k ty : ℕ) (b : Option (ℕ × ℕ)) → ty < n → (x : ℕ) → type_of_source k ty b ≡ Some x → x < n
of_member n k ty None before x h = cc h
of_member n k ty (Some (location, source)) before x h = asked (source == k) h
  where
    asked : (q : Bool) → when q (Some ty) ≡ Some x → x < n
    asked true e = subst (λ y. y < n) (same_in e) before
      where
        same_in : Some ty ≡ Some x → ty ≡ x
        same_in e = cc e
    asked false e = cc e

-- a source of blending is among the members
pub source_before : (n k : ℕ) (xs : List StructMember) → All (λ (m : StructMember). m.ty < n) xs → (t : ℕ) → source_type k xs ≡ Some t → t < n
source_before n k [] before t h = cc h
source_before n k (m ∷ xs) before t h =
    found_before n (type_of_source k m.ty (source_of m.binding)) (source_type k xs) t (of_member n k m.ty (source_of m.binding) (before 0 m (omega arith))) (source_before n k xs (All-tail (λ (x : StructMember). x.ty < n) m xs before)) h
