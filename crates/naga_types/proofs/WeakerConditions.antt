-- What passes some conditions passes weaker ones.
use Rattle.std.proofs.Common.{◌≡◌, ◌∙◌, ℕ, Bool, true, false, List, [], ◌∷◌, Option, Some, None, Ok, ap, map, refl, slice_get, take}
use Rattle.std.specs.Option.{option_map, option_or}
use Rattle.std.specs.Prelude.{if◌then◌else◌, ⊤}
use Rattle.std.proofs.lemmas.Option.{same_Some}
use Rattle.naga_arena.specs.InOrder.{AllAcceptedInOrder, RuleInOrder}
use Rattle.naga_types.proofs.KeptConditions.{neither}
use Rattle.naga_types.specs.Checks.{first, first_error_or, ok_unless, require, when}

-- a condition that is kept wherever another is
abbrev pub Weaker : {E : Type 0} → Option E → Option E → Type 0
Weaker strict lax = strict ≡ None → lax ≡ None

-- a condition is as weak as itself
pub same : {E : Type 0} {condition : Option E} → Weaker condition condition
same kept = kept

-- what is required is weaker if it holds more often
pub require-weaker : {E : Type 0} (strict lax : Bool) (error : E) → (strict ≡ true → lax ≡ true) → Weaker (require strict error) (require lax error)
require-weaker true lax error holds none = ap (λ b. require b error) (holds refl)
require-weaker false lax error holds none = cc none

-- a condition that is only required in some cases is weaker if it is weaker there
pub when-weaker : {E : Type 0} (asked : Bool) (strict lax : Option E) → Weaker strict lax → Weaker (when asked strict) (when asked lax)
when-weaker true strict lax weaker none = weaker none
when-weaker false strict lax weaker none = refl

-- one of two conditions, by a case, is weaker if both are
pub if-weaker : {E : Type 0} (case : Bool) (strict lax other_strict other_lax : Option E) → Weaker strict lax → Weaker other_strict other_lax
    → Weaker (if case then strict else other_strict) (if case then lax else other_lax)
if-weaker true strict lax other_strict other_lax weaker other none = weaker none
if-weaker false strict lax other_strict other_lax weaker other none = other none

-- each of some conditions is weaker than one of others
abbrev pub AllWeaker : {E : Type 0} → List (Option E) → List (Option E) → Type 0
AllWeaker [] [] = ⊤
AllWeaker [] (lax ∷ laxes) = ⊥
AllWeaker (strict ∷ stricts) [] = ⊥
AllWeaker (strict ∷ stricts) (lax ∷ laxes) = Weaker strict lax × AllWeaker stricts laxes

first_of_two : {E : Type 0} (strict lax : Option E) (stricts laxes : List (Option E)) → Weaker strict lax → Weaker (first stricts) (first laxes) → Weaker (first (strict ∷ stricts)) (first (lax ∷ laxes))
first_of_two strict lax stricts laxes weaker rest none =
    let kept = neither strict (first stricts) none in
    ap (λ o. option_or o (first laxes)) (weaker kept.0) ∙ rest kept.1

-- conditions are weaker if each is
pub first-weaker : {E : Type 0} (stricts laxes : List (Option E)) → AllWeaker stricts laxes → Weaker (first stricts) (first laxes)
first-weaker [] [] weaker none = refl
first-weaker [] (lax ∷ laxes) weaker none = absurd weaker
first-weaker (strict ∷ stricts) [] weaker none = absurd weaker
first-weaker (strict ∷ stricts) (lax ∷ laxes) weaker none = first_of_two strict lax stricts laxes weaker.0 (first-weaker stricts laxes weaker.1) none

-- the conditions of items are weaker if those of each item are
pub each-weaker : {X E : Type 0} (strict lax : X → Option E) → ((x : X) → Weaker (strict x) (lax x)) → (items : List X) → Weaker (first (map strict items)) (first (map lax items))
each-weaker strict lax weaker [] none = refl
each-weaker strict lax weaker (x ∷ items) none = first_of_two (strict x) (lax x) (map strict items) (map lax items) (weaker x) (each-weaker strict lax weaker items) none

-- what is granted unless a condition is broken is granted unless a weaker one is
pub granted-too : {A E : Type 0} (strict lax : Option E) (value result : A) → Weaker strict lax → ok_unless strict value ≡ Ok result → ok_unless lax value ≡ Ok result
granted-too None lax value result weaker granted = ap (λ o. ok_unless o value) (weaker refl) ∙ granted
granted-too (Some error) lax value result weaker granted = cc granted

-- what passes all of some conditions passes all of weaker ones
pub passed-too : {A E : Type 0} (stricts laxes : List (Option E)) (value result : A) → AllWeaker stricts laxes → first_error_or stricts value ≡ Ok result → first_error_or laxes value ≡ Ok result
passed-too stricts laxes value result weaker = granted-too (first stricts) (first laxes) value result (first-weaker stricts laxes weaker)

module _ {X V E : Type 0} (strict lax : RuleInOrder X V E) (items : List X)
    (too : (before : List V) (k : ℕ) (x : X) (v : V) → slice_get items k ≡ Some x → strict before k x ≡ Ok v → lax before k x ≡ Ok v) where
  one-too : (before : List V) (k : ℕ) (v : V) (found : Option X) → slice_get items k ≡ found → option_map (strict before k) found ≡ Some (Ok v) → option_map (lax before k) found ≡ Some (Ok v)
  one-too before k v None at is = cc is
  one-too before k v (Some x) at is = ap Some (too before k x v at (same_Some _ _ is))

  -- if a rule accepts each item that another accepts, with the same value, so it does all
  pub all-too : (values : List V) → AllAcceptedInOrder strict items values → AllAcceptedInOrder lax items values
  all-too values all = record { as_many = all.as_many; follow = λ k v at. one-too (take k values) k v (slice_get items k) refl (all.follow k v at) }
