-- Results that lists of conditions give.
use Rattle.std.proofs.Common.{◌≡◌, inl, inr, [], ◌∷◌, Option, Some, None, refl, sym, ap, subst, ◌∙◌}
use Rattle.std.specs.Option.{option_or}
use Rattle.std.specs.Prelude.{Ok, Err}
use Rattle.naga_types.specs.Checks.{first, ok_unless}
use Rattle.naga_types.specs.RuleResults.{IsRuleResult, NeedsMemory}
use Rattle.naga_types.specs.declared.error.TypeError.{TypeError}
use Rattle.naga_types.specs.declared.error.TypeError.TheVariants.{InvalidDynamicArray, OutOfMemory}

-- a refusal is the condition that is broken
pub broken : {A E : Type 0} (o : Option E) (a : A) (e : E) → Err e ≡ ok_unless o a → o ≡ Some e
broken None a e h = cc h
broken (Some x) a e h = cc h

-- what is granted breaks no condition
pub none_broken : {A E : Type 0} (o : Option E) (a b : A) → Ok b ≡ ok_unless o a → o ≡ None
none_broken None a b h = refl
none_broken (Some e) a b h = cc h

-- a refusal is one whatever is granted otherwise
pub same_refusal : {A B E : Type 0} (o : Option E) (a : A) (b : B) (e : E) → Err e ≡ ok_unless o a → Err e ≡ ok_unless o b
same_refusal None a b e h = cc h
same_refusal (Some x) a b e h = cc h

pub alone : {E : Type 0} (o : Option E) → option_or o None ≡ o
alone None = refl
alone (Some e) = refl

-- the second, the third and the fourth of four conditions, if those before are kept
pub second : {E : Type 0} (a b c d : Option E) (e : E) → a ≡ None → b ≡ Some e → first (a ∷ b ∷ c ∷ d ∷ []) ≡ Some e
second a b c d e p q = ap (λ o. first (o ∷ b ∷ c ∷ d ∷ [])) p ∙ ap (λ o. first (o ∷ c ∷ d ∷ [])) q

pub third : {E : Type 0} (a b c d : Option E) (e : E) → a ≡ None → b ≡ None → c ≡ Some e → first (a ∷ b ∷ c ∷ d ∷ []) ≡ Some e
third a b c d e p q r = ap (λ o. first (o ∷ b ∷ c ∷ d ∷ [])) p ∙ ap (λ o. first (o ∷ c ∷ d ∷ [])) q ∙ ap (λ o. first (o ∷ d ∷ [])) r

pub fourth : {E : Type 0} (a b c d : Option E) → a ≡ None → b ≡ None → c ≡ None → first (a ∷ b ∷ c ∷ d ∷ []) ≡ d
fourth a b c d p q r = ap (λ o. first (o ∷ b ∷ c ∷ d ∷ [])) p ∙ ap (λ o. first (o ∷ c ∷ d ∷ [])) q ∙ ap (λ o. first (o ∷ d ∷ [])) r ∙ alone d

-- a refusal carries a text whatever is granted otherwise
text_stays : (A B : Type 0) (x : TypeError) → NeedsMemory {A = A} (Err x) → NeedsMemory {A = B} (Err x)
text_stays A B (InvalidDynamicArray (c ∷ name) ty) h = tt
text_stays A B _ h = absurd h

-- what is returned by one refusal is returned by all, if it is the first
pub result_first : {A B : Type 0} (o total : Option TypeError) (a : A) (b : B) (e : TypeError) → ((x : TypeError) → o ≡ Some x → total ≡ Some x) → IsRuleResult (ok_unless o a) (Err e) → IsRuleResult (ok_unless total b) (Err e)
result_first None total a b e first_is (inl h) = cc h
result_first None total a b e first_is (inr h) = absurd h.1
result_first (Some x) total a b e first_is (inl h) = inl (same_refusal (Some x) a b e h ∙ ap (λ o. ok_unless o b) (sym (first_is x refl)))
result_first {A = A} {B = B} (Some x) total a b e first_is (inr h) =
    inr (same_refusal (Some OutOfMemory) a b e h.0, subst (λ o. NeedsMemory (ok_unless o b)) (sym (first_is x refl)) (text_stays A B x h.1))

-- what is returned as Ok was not refused
pub not_refused : {A : Type 0} (o : Option TypeError) (a b : A) → IsRuleResult (ok_unless o a) (Ok b) → o ≡ None
not_refused o a b (inl h) = none_broken o a b h
not_refused o a b (inr h) = cc (h.0)
