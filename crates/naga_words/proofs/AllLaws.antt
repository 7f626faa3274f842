-- Words that are read again and again until none are left.
use Rattle.std.proofs.Common.{◌≡◌, ◌∙◌, ℕ, zero, suc, ◌<◌, ◌≤◌, List, [], ◌∷◌, ◌++◌, Option, None, Some, ap, append_assoc, arith, length, refl, rules, subst, sym}
use Rattle.std.proofs.lemmas.Option.{option_and_then_some, same_Some}
use Rattle.naga_words.specs.Operands.{◌>>=◌}
use Rattle.naga_words.specs.Reading.{read_all, read_within}

-- a value before those that are read
abbrev pub onto : {A : Type 0} → A → Option (List A) → Option (List A)
onto a read = read >>= (λ values. Some (a ∷ values))

-- the values `before`, before those that are read
abbrev pub then : {A : Type 0} → List A → Option (List A) → Option (List A)
then before read = read >>= (λ values. Some (before ++ values))

then_nothing : {A : Type 0} (read : Option (List A)) → read ≡ then [] read
then_nothing None = refl
then_nothing (Some values) = refl

onto_then : {A : Type 0} (a : A) (before : List A) (read : Option (List A)) → onto a (then before read) ≡ then (a ∷ before) read
onto_then a before None = refl
onto_then a before (Some values) = refl

module _ {A : Type 0} (first : List ℕ → Option (A × List ℕ)) where
  -- fewer words are left than there were
  abbrev pub Shortens : Type 0
  Shortens = (ws : List ℕ) (read : A × List ℕ) → first ws ≡ Some read → length read.1 < length ws

  -- the same is read if more words follow, which are left too
  abbrev pub Extends : Type 0
  Extends = (ws more : List ℕ) (a : A) (rest : List ℕ) → first ws ≡ Some (a, rest) → first (ws ++ more) ≡ Some (a, rest ++ more)

  -- more turns than there are words change nothing
  enough : Shortens → (most n : ℕ) (ws : List ℕ) → length ws ≤ most → length ws ≤ n → read_within first most ws ≡ read_within first n ws
  enough shorter most n [] h k = refl
  enough shorter zero n (w ∷ ws) h k = absurd (omega (arith, h))
  enough shorter (suc most) zero (w ∷ ws) h k = absurd (omega (arith, k))
  enough shorter (suc most) (suc n) (w ∷ ws) h k = go (λ rest fewer. enough shorter most n rest (omega (arith, fewer, h)) (omega (arith, fewer, k))) (first (w ∷ ws)) refl
    where
      go : ((rest : List ℕ) → length rest < suc (length ws) → read_within first most rest ≡ read_within first n rest) → (r : Option (A × List ℕ)) → first (w ∷ ws) ≡ r
          → (r >>= (λ read. onto read.0 (read_within first most read.1))) ≡ (r >>= (λ read. onto read.0 (read_within first n read.1)))
      go again None e = refl
      go again (Some read) e = ap (onto read.0) (again read.1 (shorter (w ∷ ws) read e))

  -- what is read first, and then the rest
  pub all_step : Shortens → (ws : List ℕ) (a : A) (rest : List ℕ) → first ws ≡ Some (a, rest) → read_all first ws ≡ onto a (read_all first rest)
  all_step shorter [] a rest h = absurd (let few = shorter [] (a, rest) h in omega (arith, few))
  all_step shorter (w ∷ ws) a rest h =
      let few = shorter (w ∷ ws) (a, rest) h in
      ap (λ (r : Option (A × List ℕ)). r >>= (λ read. onto read.0 (read_within first (length ws) read.1))) h
      ∙ ap (onto a) (enough shorter (length ws) (length rest) rest (omega (arith, few)) (omega arith))

  -- the same after other values
  pub all_more : Shortens → (before : List A) (ws : List ℕ) (a : A) (rest : List ℕ) → first ws ≡ Some (a, rest) → then (before ++ a ∷ []) (read_all first rest) ≡ then before (read_all first ws)
  all_more shorter before ws a rest h = go (read_all first rest) ∙ ap (then before) (sym (all_step shorter ws a rest h))
    where
      go : (read : Option (List A)) → then (before ++ a ∷ []) read ≡ then before (onto a read)
      go None = refl
      go (Some values) = ap Some (append_assoc before (a ∷ []) values)

  -- nothing is read of words of which nothing is read first
  pub all_stuck : (ws : List ℕ) → ¬ (ws ≡ []) → first ws ≡ None → read_all first ws ≡ None
  all_stuck [] some h = absurd (some refl)
  all_stuck (w ∷ ws) some h = ap (λ (r : Option (A × List ℕ)). r >>= (λ read. onto read.0 (read_within first (length ws) read.1))) h

  -- of words some of which are read, the others are read after them
  all_append_within : Shortens → Extends → (most : ℕ) (front more : List ℕ) (xs : List A) → length front ≤ most → read_all first front ≡ Some xs → read_all first (front ++ more) ≡ then xs (read_all first more)
  all_append_within shorter longer most [] more xs few h = subst (λ (xs : List A). read_all first more ≡ then xs (read_all first more)) (same_Some [] xs h) (then_nothing (read_all first more))
  all_append_within shorter longer zero (w ∷ ws) more xs few h = absurd (omega (arith, few))
  all_append_within shorter longer (suc most) (w ∷ ws) more xs few h = go (λ rest ys fewer e. all_append_within shorter longer most rest more ys (omega (arith, fewer, few)) e) (first (w ∷ ws)) refl
    where
      go : ((rest : List ℕ) (ys : List A) → length rest < suc (length ws) → read_all first rest ≡ Some ys → read_all first (rest ++ more) ≡ then ys (read_all first more))
          → (r : Option (A × List ℕ)) → first (w ∷ ws) ≡ r → read_all first (w ∷ ws ++ more) ≡ then xs (read_all first more)
      go again None e = let none : None ≡ Some xs = sym (all_stuck (w ∷ ws) (λ e. cc) e) ∙ h in cc
      go again (Some (a, rest)) e =
          option_and_then_some (λ (values : List A). Some (a ∷ values)) (read_all first rest) xs (sym (all_step shorter (w ∷ ws) a rest e) ∙ h) λ ys read same.
          all_step shorter (w ∷ ws ++ more) a (rest ++ more) (longer (w ∷ ws) more a rest e)
          ∙ ap (onto a) (again rest ys (shorter (w ∷ ws) (a, rest) e) read)
          ∙ onto_then a ys (read_all first more)
          ∙ ap (λ (xs : List A). then xs (read_all first more)) (same_Some (a ∷ ys) xs same)

  pub all_append : Shortens → Extends → (front more : List ℕ) (xs : List A) → read_all first front ≡ Some xs → read_all first (front ++ more) ≡ then xs (read_all first more)
  all_append shorter longer front more xs h = all_append_within shorter longer (length front) front more xs (omega arith) h

  -- of words of which nothing is read there are none
  pub all_nothing : (ws : List ℕ) → read_all first ws ≡ Some [] → ws ≡ []
  all_nothing [] h = refl
  all_nothing (w ∷ ws) h = search rules

  -- what is read first of words of which several are read
  pub all_first : Shortens → (ws : List ℕ) (a : A) (more : List A) → read_all first ws ≡ Some (a ∷ more) → (rest : List ℕ) × (first ws ≡ Some (a, rest))
  all_first shorter [] a more h = cc
  all_first shorter (w ∷ ws) a more h =
      option_and_then_some (λ (read : A × List ℕ). onto read.0 (read_within first (length ws) read.1)) (first (w ∷ ws)) (a ∷ more) h λ read e h.
      option_and_then_some (λ (values : List A). Some (read.0 ∷ values)) (read_within first (length ws) read.1) (a ∷ more) h λ values f h.
      (read.1, e ∙ ap (λ (a : A). Some (a, read.1)) (let same : read.0 ∷ values ≡ a ∷ more = same_Some _ _ h in cc))

  -- no more is read than there are words
  all_few_within : (most : ℕ) (ws : List ℕ) (xs : List A) → read_within first most ws ≡ Some xs → length xs ≤ most
  all_few_within most [] xs h = let none = ap length (same_Some [] xs h) in omega (arith, none)
  all_few_within zero (w ∷ ws) xs h = cc
  all_few_within (suc most) (w ∷ ws) xs h =
      option_and_then_some (λ (read : A × List ℕ). onto read.0 (read_within first most read.1)) (first (w ∷ ws)) xs h λ read e h.
      option_and_then_some (λ (values : List A). Some (read.0 ∷ values)) (read_within first most read.1) xs h λ values f h.
      let few = all_few_within most read.1 values f in
      let same = ap length (same_Some _ _ h) in
      omega (arith, few, same)

  pub all_few : (ws : List ℕ) (xs : List A) → read_all first ws ≡ Some xs → length xs ≤ length ws
  all_few ws xs h = all_few_within (length ws) ws xs h
