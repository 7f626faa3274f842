-- Conditions are kept exactly if each is.
use Rattle.std.proofs.Common.{◌≡◌, ◌+◌, ℕ, zero, suc, Bool, true, false, List, [], ◌∷◌, All, Option, Some, None, Ok, map, slice_get, refl, sym, ap, ◌∙◌, arith}
use Rattle.std.specs.List.{enumerate_from, list_all}
use Rattle.std.specs.Option.{option_or}
use Rattle.std.proofs.lemmas.Bool.{and_parts}
use Rattle.std.proofs.lemmas.List.Elements.{All-cons, All-nil}
use Rattle.std.proofs.lemmas.Option.{same_Some}
use Rattle.naga_types.specs.Checks.{first, ok_unless, last, require}

-- what is granted is the value
pub granted-value : {A E : Type 0} (o : Option E) (a b : A) → ok_unless o a ≡ Ok b → a ≡ b
granted-value None a b h = cc h
granted-value (Some e) a b h = cc h

-- what is granted breaks no condition
pub granted-none : {A E : Type 0} (o : Option E) (a b : A) → ok_unless o a ≡ Ok b → o ≡ None
granted-none None a b h = refl
granted-none (Some e) a b h = cc h

-- what is granted is the value, and breaks no condition
pub granted_ok : {A E : Type 0} (o : Option E) (a b : A) → ok_unless o a ≡ Ok b → (o ≡ None) × (a ≡ b)
granted_ok o a b h = (granted-none o a b h, granted-value o a b h)

-- a condition that is kept holds
pub unless-kept : {E : Type 0} (b : Bool) (e : E) → require b e ≡ None → b ≡ true
unless-kept true e h = refl
unless-kept false e h = cc h

-- neither of two options has a value if together they have none
pub neither : {A : Type 0} (a b : Option A) → option_or a b ≡ None → (a ≡ None) × (b ≡ None)
neither None b h = (refl, h)
neither (Some x) b h = (cc h, cc h)

-- no entry of a list stands if there is no first
pub none_stands : {A : Type 0} (xs : List (Option A)) (k : ℕ) (o : Option A) → first xs ≡ None → slice_get xs k ≡ Some o → o ≡ None
none_stands [] k o none at = cc at
none_stands (x ∷ xs) zero o none at = sym (same_Some x o at) ∙ (neither x (first xs) none).0
none_stands (x ∷ xs) (suc k) o none at = none_stands xs k o (neither x (first xs) none).1 at

-- each item of a list passes
pub all-pass : {X : Type 0} (p : X → Bool) (xs : List X) → list_all p xs ≡ true → All (λ x. p x ≡ true) xs
all-pass p [] h = All-nil (λ x. p x ≡ true)
all-pass p (x ∷ xs) h = let both = and_parts (p x) (list_all p xs) h in All-cons (λ y. p y ≡ true) x xs both.0 (all-pass p xs both.1)

module _ {X E : Type 0} (f : ℕ × X → Option E) where
  -- no item has a value by its index
  abbrev NoneFrom : ℕ → List X → Type 0
  NoneFrom k xs = (i : ℕ) (x : X) → slice_get xs i ≡ Some x → f (k + i, x) ≡ None

  at_start : (k : ℕ) (x : X) → f (k, x) ≡ f (k + 0, x)
  at_start k x = ap (λ n. f (n, x)) (let same : k ≡ k + 0 = omega arith in same)

  at_next : (k i : ℕ) (x : X) → f ((k + 1) + i, x) ≡ f (k + suc i, x)
  at_next k i x = ap (λ n. f (n, x)) (let same : (k + 1) + i ≡ k + suc i = omega arith in same)

  no_item : {P : Type 0} (x : X) → None ≡ Some x → P
  no_item x e = absurd (impossible e)
    where
      impossible : None ≡ Some x → ⊥
      impossible e = cc e

  first_by_one : (k : ℕ) (y : X) (xs : List X) → f (k, y) ≡ None → NoneFrom (k + 1) xs → NoneFrom k (y ∷ xs)
  first_by_one k y xs here rest zero x at = ap (λ z. f (k + 0, z)) (sym (same_Some y x at)) ∙ sym (at_start k y) ∙ here
  first_by_one k y xs here rest (suc i) x at = sym (at_next k i x) ∙ rest i x at

  rest_of : (k : ℕ) (y : X) (xs : List X) → NoneFrom k (y ∷ xs) → NoneFrom (k + 1) xs
  rest_of k y xs none i x at = at_next k i x ∙ none (suc i) x at

  -- there is no first value if no item has one
  first_none : (k : ℕ) (xs : List X) → NoneFrom k xs → first (map f (enumerate_from k xs)) ≡ None
  first_none k [] none = refl
  first_none k (y ∷ xs) none = ap (λ o. option_or o (first (map f (enumerate_from (k + 1) xs)))) (at_start k y ∙ none 0 y refl) ∙ first_none (k + 1) xs (rest_of k y xs none)

  none_first : (k : ℕ) (xs : List X) → first (map f (enumerate_from k xs)) ≡ None → NoneFrom k xs
  none_first k [] h = λ i x at. no_item x at
  none_first k (y ∷ xs) h =
      let parts = neither (f (k, y)) (first (map f (enumerate_from (k + 1) xs))) h in
      first_by_one k y xs parts.0 (none_first (k + 1) xs parts.1)

  last_none : (k : ℕ) (xs : List X) → NoneFrom k xs → last (map f (enumerate_from k xs)) ≡ None
  last_none k [] none = refl
  last_none k (y ∷ xs) none = ap (λ o. option_or o (f (k, y))) (last_none (k + 1) xs (rest_of k y xs none)) ∙ at_start k y ∙ none 0 y refl

  none_last : (k : ℕ) (xs : List X) → last (map f (enumerate_from k xs)) ≡ None → NoneFrom k xs
  none_last k [] h = λ i x at. no_item x at
  none_last k (y ∷ xs) h =
      let parts = neither (last (map f (enumerate_from (k + 1) xs))) (f (k, y)) h in
      first_by_one k y xs parts.1 (none_last (k + 1) xs parts.0)

  -- no item has a value by its place
  abbrev pub NoneAt : List X → Type 0
  NoneAt xs = (i : ℕ) (x : X) → slice_get xs i ≡ Some x → f (i, x) ≡ None

  from_start : (xs : List X) → NoneAt xs → NoneFrom 0 xs
  from_start xs none i x at = ap (λ n. f (n, x)) (let same : 0 + i ≡ i = omega arith in same) ∙ none i x at

  by_place : (xs : List X) → NoneFrom 0 xs → NoneAt xs
  by_place xs none i x at = ap (λ n. f (n, x)) (let same : i ≡ 0 + i = omega arith in same) ∙ none i x at

  -- the first value among those of all items is none if no item has one
  pub first-none : (xs : List X) → NoneAt xs → first (map f (enumerate_from 0 xs)) ≡ None
  first-none xs none = first_none 0 xs (from_start xs none)

  -- no item has a value if the first value among those of all items is none
  pub none-first : (xs : List X) → first (map f (enumerate_from 0 xs)) ≡ None → NoneAt xs
  none-first xs h = by_place xs (none_first 0 xs h)

  -- the last value among them is none if no item has one
  pub last-none : (xs : List X) → NoneAt xs → last (map f (enumerate_from 0 xs)) ≡ None
  last-none xs none = last_none 0 xs (from_start xs none)

  -- no item has a value if the last value among those of all items is none
  pub none-last : (xs : List X) → last (map f (enumerate_from 0 xs)) ≡ None → NoneAt xs
  none-last xs h = by_place xs (none_last 0 xs h)
