-- Items in their order, as far as a rule accepts them.
use Rattle.std.proofs.Common.{◌≡◌, ℕ, ◌+◌, ◌<◌, List, [], ◌∷◌, ◌++◌, Some, Result, Ok, Err, All, IsOk, map, length, take, slice_get, refl, sym, ap, subst, ◌∙◌, arith, append-nil, append_assoc, length-append}
use Rattle.std.specs.List.{enumerate_from}
use Rattle.std.proofs.lemmas.List.{length-map, map-append}
use Rattle.std.proofs.lemmas.List.Elements.{All-nil, All-cons}
use Rattle.std.proofs.lemmas.Option.{same_Some, slice_get-get_or, slice_get_within}
use Rattle.std.proofs.Math.Seq.{get_or-append_seam, take-append_seam}
use Rattle.naga_arena.specs.Results.{IsFirstError}

-- every item is accepted, each with its value
abbrev pub AllAccepted : {A E : Type 0} → List (Result A E) → List A → Type 0
AllAccepted results values = results ≡ map Ok values

pub slice_get-seam : {A : Type 0} (xs ys : List A) (x : A) → slice_get (xs ++ x ∷ ys) (length xs) ≡ Some x
slice_get-seam xs ys x =
    let within : length xs < length (xs ++ x ∷ ys) = omega (arith, length-append xs (x ∷ ys)) in
    slice_get-get_or (xs ++ x ∷ ys) (length xs) x within ∙ ap Some (get_or-append_seam xs x ys x)

all_ok : {A : Type 0} (E : Type 0) (values : List A) → let oks : List (Result A E) = map Ok values in All IsOk oks
all_ok E [] = All-nil IsOk
all_ok E (a ∷ values) = All-cons IsOk (Ok a) (map Ok values) refl (all_ok E values)

pub accepted_ok : {A E : Type 0} (results : List (Result A E)) (values : List A) → AllAccepted results values → All IsOk results
accepted_ok {A} {E} results values all = subst (All IsOk) (sym all) (all_ok E values)

-- what follows the front of a list is the first of the rest
at_seam : {A : Type 0} (xs ys : List A) (x : A) → slice_get (xs ++ ys) (length xs) ≡ Some x → (rest : List A) × (ys ≡ x ∷ rest)
at_seam xs [] x e = absurd (omega (arith, slice_get_within (xs ++ []) (length xs) x e, ap length (append-nil xs)))
at_seam xs (y ∷ ys) x e = (ys, ap (λ z. z ∷ ys) (same_Some y x (sym (slice_get-seam xs ys y) ∙ e)))

module _ {X A E : Type 0} (items : List X) (results : List (Result A E)) where
  -- the items so far have these values, and these are left, each with its index
  pub record Progress (done : List A) (left : List (ℕ × X)) : Type 0 where
    front : List X
    rest : List X
    whole : items ≡ front ++ rest
    place : length front ≡ length done
    left_is : left ≡ enumerate_from (length done) rest
    others : List (Result A E)
    answers : results ≡ map Ok done ++ others

  pub begun : (done : List A) (left : List (ℕ × X)) → done ≡ [] → left ≡ enumerate_from 0 items → Progress done left
  begun done left none e =
      subst (λ d. Progress d left) (sym none) (record { front = []; rest = items; whole = refl; place = refl; left_is = e; others = results; answers = refl })

  -- the next item, if one is left
  record Next (done : List A) (n : ℕ) (x : X) (more : List (ℕ × X)) : Type 0 where
    front : List X
    rest : List X
    whole : items ≡ front ++ x ∷ rest
    place : length front ≡ length done
    number : n ≡ length done
    more_is : more ≡ enumerate_from (length done + 1) rest

  next : (done : List A) (left : List (ℕ × X)) (n : ℕ) (x : X) (more : List (ℕ × X)) → Progress done left → left ≡ (n, x) ∷ more → Next done n x more
  next done left n x more p e = by_rest p.rest (sym e ∙ p.left_is) p.whole
    where
      by_rest : (rest : List X) → (n, x) ∷ more ≡ enumerate_from (length done) rest → items ≡ p.front ++ rest → Next done n x more
      by_rest [] e w = cc
      by_rest (y ∷ rest) e w =
          let first : (n, x) ≡ (length done, y) = cc in
          let same : y ≡ x = sym (ap (λ (q : ℕ × X). q.1) first) in
          record { front = p.front; rest = rest; whole = w ∙ ap (λ z. p.front ++ z ∷ rest) same; place = p.place; number = ap (λ (q : ℕ × X). q.0) first; more_is = cc }

  -- the next item has the index that it comes with
  pub stands : (done : List A) (left : List (ℕ × X)) (n : ℕ) (x : X) (more : List (ℕ × X)) → Progress done left → left ≡ (n, x) ∷ more → slice_get items n ≡ Some x
  stands done left n x more p e =
      let s = next done left n x more p e in
      ap (λ l. slice_get l n) s.whole ∙ ap (slice_get (s.front ++ x ∷ s.rest)) (s.number ∙ sym s.place) ∙ slice_get-seam s.front s.rest x

  -- the index of the next item is the number of values so far
  pub number : (done : List A) (left : List (ℕ × X)) (n : ℕ) (x : X) (more : List (ℕ × X)) → Progress done left → left ≡ (n, x) ∷ more → n ≡ length done
  number done left n x more p e = (next done left n x more p e).number

  -- what the rule gives for the next item
  answer : (done : List A) (left : List (ℕ × X)) (n : ℕ) (x : X) (more : List (ℕ × X)) (r : Result A E) (p : Progress done left) → left ≡ (n, x) ∷ more → slice_get results n ≡ Some r → (rest : List (Result A E)) × (p.others ≡ r ∷ rest)
  answer done left n x more r p e at =
      let oks : List (Result A E) = map Ok done in
      let s = next done left n x more p e in
      let number : n ≡ length oks = s.number ∙ sym (length-map done Ok) in
      at_seam oks p.others r (ap (λ l. slice_get l (length oks)) (sym p.answers) ∙ ap (slice_get results) (sym number) ∙ at)

  pub went_on : (done : List A) (left : List (ℕ × X)) (n : ℕ) (x : X) (more : List (ℕ × X)) (a : A) (now : List A)
      → Progress done left → left ≡ (n, x) ∷ more → slice_get results n ≡ Some (Ok a) → now ≡ done ++ a ∷ [] → Progress now more
  went_on done left n x more a now p e at is =
      let s = next done left n x more p e in
      let o = answer done left n x more (Ok a) p e at in
      let longer : length (done ++ a ∷ []) ≡ length done + 1 = length-append done (a ∷ []) in
      subst (λ d. Progress d more) (sym is) (record {
        front = s.front ++ x ∷ [];
        rest = s.rest;
        whole = s.whole ∙ sym (append_assoc s.front (x ∷ []) s.rest);
        place = length-append s.front (x ∷ []) ∙ ap (λ k. k + 1) s.place ∙ sym longer;
        left_is = s.more_is ∙ ap (λ k. enumerate_from k s.rest) (sym longer);
        others = o.0;
        answers =
            p.answers ∙ ap (λ l. map Ok done ++ l) o.1 ∙ sym (append_assoc (map Ok done) (Ok a ∷ []) o.0)
            ∙ ap (λ l. l ++ o.0) (sym (map-append Ok done (a ∷ [])));
      })

  pub ended : (done : List A) (left : List (ℕ × X)) → length results ≡ length items → Progress done left → left ≡ [] → AllAccepted results done
  ended done left same p e = by_rest p.rest (sym e ∙ p.left_is) p.whole p.others p.answers
    where
      oks : List (Result A E)
      oks = map Ok done

      by_rest : (rest : List X) → [] ≡ enumerate_from (length done) rest → items ≡ p.front ++ rest → (others : List (Result A E)) → results ≡ oks ++ others → results ≡ oks
      by_rest (y ∷ rest) e w others r = cc
      by_rest [] e w [] r = r ∙ append-nil oks
      by_rest [] e w (o ∷ others) r =
          absurd (omega (arith, ap length r, length-append oks (o ∷ others), length-map done (λ a. let ok : Result A E = Ok a in ok), ap length w, ap length (append-nil p.front), p.place, same))

  -- the items before the one that comes next are accepted
  pub accepted_before : (done : List A) (left : List (ℕ × X)) (n : ℕ) (x : X) (more : List (ℕ × X)) → Progress done left → left ≡ (n, x) ∷ more → All IsOk (take n results)
  accepted_before done left n x more p e =
      let oks : List (Result A E) = map Ok done in
      let s = next done left n x more p e in
      let number : n ≡ length oks = s.number ∙ sym (length-map done Ok) in
      subst (All IsOk) (sym (ap (take n) p.answers ∙ ap (λ k. take k (oks ++ p.others)) number ∙ take-append_seam oks p.others)) (all_ok E done)

  pub refused : (done : List A) (left : List (ℕ × X)) (n : ℕ) (x : X) (more : List (ℕ × X)) (error : E)
      → Progress done left → left ≡ (n, x) ∷ more → slice_get results n ≡ Some (Err error) → IsFirstError results n error
  refused done left n x more error p e at = record { refused = at; accepted_before = accepted_before done left n x more p e }
