-- How many expressions the sizes of types need, and which type needs an expression first.
use Rattle.std.proofs.Common.{◌≡◌, ℕ, zero, suc, ◌+◌, ◌<◌, ◌≤◌, max, Bool, true, false, cond, ◌⊎◌, inl, inr, length, arith, refl, add-one}
use Rattle.std.proofs.lemmas.Bool.Decides.{nat_tests}
use Rattle.std.proofs.lemmas.Bool.{cases_lt}
use Rattle.naga_ir.specs.Handles.{size_initialiser}
use Rattle.naga_ir.specs.ItemReferences.{GlobalLists}
use Rattle.naga_ir.specs.Ranks.{asks_for, first_waiting, least, reach, top_before}

least_within : (p : ℕ → Bool) (n : ℕ) → least p n ≤ n
unfolding least
least_within p zero = omega arith
least_within p (suc n) = by_test (p 0) (least_within (λ t. p (suc t)) n)
  where
    by_test : (b : Bool) → least (λ t. p (suc t)) n ≤ n → cond b 0 (suc (least (λ t. p (suc t)) n)) ≤ suc n
    by_test true h = omega arith
    by_test false h = omega arith

least_le : (p : ℕ → Bool) (n t : ℕ) → t < n → p t ≡ true → least p n ≤ t
unfolding least
least_le p zero t l h = absurd (omega arith)
least_le p (suc n) zero l h = rw h (omega arith)
least_le p (suc n) (suc t) l h = by_test (p 0) (least_le (λ k. p (suc k)) n t (omega arith) h)
  where
    by_test : (b : Bool) → least (λ k. p (suc k)) n ≤ t → cond b 0 (suc (least (λ k. p (suc k)) n)) ≤ suc t
    by_test true g = omega arith
    by_test false g = omega arith

-- the least that passes does, unless none does
least_passes : (p : ℕ → Bool) (n : ℕ) → least p n < n → p (least p n) ≡ true
unfolding least
least_passes p zero l = absurd (omega arith)
least_passes p (suc n) l = by_test (p 0) refl l (least_passes (λ k. p (suc k)) n)
  where
    by_test : (b : Bool) → p 0 ≡ b → cond b 0 (suc (least (λ k. p (suc k)) n)) < suc n → (least (λ k. p (suc k)) n < n → p (suc (least (λ k. p (suc k)) n)) ≡ true) → p (cond b 0 (suc (least (λ k. p (suc k)) n))) ≡ true
    by_test true e l rest = e
    by_test false e l rest = rest (omega arith)

module _ (g : GlobalLists) where
  pub waiting_within : (e : ℕ) → first_waiting g e ≤ length g.types
  unfolding first_waiting
  waiting_within e = least_within (asks_for g e) (length g.types)

  pub waiting_le : (e t : ℕ) → t < length g.types → e < reach (size_initialiser g t) → first_waiting g e ≤ t
  unfolding first_waiting
  waiting_le e t l h = let p : asks_for g e t ≡ true = grind (arith, nat_tests) in least_le (asks_for g e) (length g.types) t l p

  pub waiting_asks : (e : ℕ) → first_waiting g e < length g.types → e < reach (size_initialiser g (first_waiting g e))
  unfolding first_waiting
  waiting_asks e l = let p : asks_for g e (least (asks_for g e) (length g.types)) ≡ true = least_passes (asks_for g e) (length g.types) l in grind (arith, nat_tests)

  pub waiting_before : (e t : ℕ) → t < first_waiting g e → reach (size_initialiser g t) ≤ e
  waiting_before e t l = by_place (cases_lt e (reach (size_initialiser g t)))
    where
      by_place : (e < reach (size_initialiser g t)) ⊎ (reach (size_initialiser g t) ≤ e) → reach (size_initialiser g t) ≤ e
      by_place (inl h) = let w = waiting_within e in let k = waiting_le e t (omega arith) h in absurd (omega arith)
      by_place (inr h) = h

  pub waiting_grows : (o e : ℕ) → o ≤ e → first_waiting g o ≤ first_waiting g e
  waiting_grows o e l = by_place (cases_lt (first_waiting g e) (length g.types))
    where
      by_place : (first_waiting g e < length g.types) ⊎ (length g.types ≤ first_waiting g e) → first_waiting g o ≤ first_waiting g e
      by_place (inl h) = let a = waiting_asks e h in waiting_le o (first_waiting g e) h (omega arith)
      by_place (inr h) = let w = waiting_within o in omega arith

  pub top_zero : top_before g 0 ≡ 0
  unfolding top_before
  top_zero = refl

  pub top_next : (t : ℕ) → top_before g (t + 1) ≡ max (top_before g t) (reach (size_initialiser g t))
  unfolding top_before
  top_next t = let e : top_before g (suc t) ≡ max (top_before g t) (reach (size_initialiser g t)) = refl in rw (add-one) e

  pub top_has : (t : ℕ) → reach (size_initialiser g t) ≤ top_before g (t + 1)
  top_has t = let n = top_next t in omega arith

  pub top_grows : (u t : ℕ) → u ≤ t → top_before g u ≤ top_before g t
  unfolding top_before
  top_grows u zero l = let e : u ≡ 0 = omega arith in rw e (omega arith)
  top_grows u (suc t) l = by_place (top_grows u t) (cases_lt u (suc t))
    where
      by_place : (u ≤ t → top_before g u ≤ top_before g t) → (u < suc t) ⊎ (suc t ≤ u) → top_before g u ≤ max (top_before g t) (reach (size_initialiser g t))
      by_place rest (inl h) = let k = rest (omega arith) in omega arith
      by_place rest (inr h) = let e : u ≡ suc t = omega arith in rw e (omega arith)

  -- the types before a bound need at most a number of expressions
  pub top_le : (t e : ℕ) → ((u : ℕ) → u < t → reach (size_initialiser g u) ≤ e) → top_before g t ≤ e
  unfolding top_before
  top_le zero e h = omega arith
  top_le (suc t) e h = let a = top_le t e (λ u l. h u (omega arith)) in let b = h t (omega arith) in omega arith

  -- an expression past the types before t and within the size of t waits for t
  waiting_at : (e t : ℕ) → t < length g.types → top_before g t ≤ e → e < reach (size_initialiser g t) → first_waiting g e ≡ t
  waiting_at e t l low high = by_place (waiting_le e t l high) (cases_lt (first_waiting g e) t)
    where
      by_place : first_waiting g e ≤ t → (first_waiting g e < t) ⊎ (t ≤ first_waiting g e) → first_waiting g e ≡ t
      by_place le (inl b) =
          let a = waiting_asks e (omega arith) in
          let h = top_has (first_waiting g e) in
          let k = top_grows (first_waiting g e + 1) t (omega arith) in
          absurd (omega arith)
      by_place le (inr b) = omega arith

  -- an expression past all sizes waits for all types
  pub waiting_end : (e : ℕ) → top_before g (length g.types) ≤ e → first_waiting g e ≡ length g.types
  waiting_end e low = by_place (waiting_within e) (cases_lt (first_waiting g e) (length g.types))
    where
      by_place : first_waiting g e ≤ length g.types → (first_waiting g e < length g.types) ⊎ (length g.types ≤ first_waiting g e) → first_waiting g e ≡ length g.types
      by_place le (inl b) =
          let a = waiting_asks e b in
          let h = top_has (first_waiting g e) in
          let k = top_grows (first_waiting g e + 1) (length g.types) (omega arith) in
          absurd (omega arith)
      by_place le (inr b) = omega arith

  pub waits : (e t : ℕ) → t < length g.types → top_before g t ≤ e → e < top_before g (t + 1) → first_waiting g e ≡ t
  waits e t l low high = let n = top_next t in waiting_at e t l low (omega arith)
