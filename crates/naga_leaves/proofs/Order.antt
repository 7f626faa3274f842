-- The order of paths, and what follows a path or its extensions.
use Rattle.std.proofs.Common.{◌≡◌, ◌≢◌, ◌+◌, ◌<◌, ◌≤◌, ◌⊎◌, ⊎_elim, inl, inr, ℕ, zero, suc, List, [], ◌∷◌, ◌++◌, refl, sym, ap, ◌∙◌, arith}
use Rattle.std.proofs.lemmas.Bool.{cases_order}
use Rattle.naga_leaves.specs.Order.{IsAtOrAfter}

less : (a b : ℕ) → (a < b) ⊎ ((a ≡ b) ⊎ (b < a))
less a b = ⊎_elim (λ (e : a ≡ b). inr (inl e)) (λ (o : (a < b) ⊎ (b < a)). ⊎_elim (λ (l : a < b). inl l) (λ (g : b < a). inr (inr g)) o) (cases_order a b)

-- each path comes from itself
pub from_itself : (p : List ℕ) → IsAtOrAfter p p
from_itself [] = tt
from_itself (i ∷ p) = inr (refl, from_itself p)

head_is : (i j : ℕ) (p q : List ℕ) → i ∷ p ≡ j ∷ q → i ≡ j
head_is i j p q e = cc

tail_is : (i j : ℕ) (p q : List ℕ) → i ∷ p ≡ j ∷ q → p ≡ q
tail_is i j p q e = cc

-- what follows a path is all that comes from its first extension
pub from_extension : (p q : List ℕ) → IsAtOrAfter (p ++ 0 ∷ []) q → IsAtOrAfter p q × (q ≢ p)
from_extension [] [] h = absurd h
from_extension [] (j ∷ q) h = (tt, λ e. cc)
from_extension (i ∷ p) [] h = absurd h
from_extension (i ∷ p) (j ∷ q) (inl lt) = (inl lt, λ e. let same : j ≡ i = head_is j i q p e in omega arith)
from_extension (i ∷ p) (j ∷ q) (inr h) = let w = from_extension p q h.1 in (inr (h.0, w.0), λ e. w.1 (tail_is j i q p e))

pub to_extension : (p q : List ℕ) → IsAtOrAfter p q → q ≢ p → IsAtOrAfter (p ++ 0 ∷ []) q
to_extension [] [] h other = other refl
to_extension [] (zero ∷ q) h other = inr (refl, tt)
to_extension [] (suc j ∷ q) h other = inl (omega arith)
to_extension (i ∷ p) [] h other = absurd h
to_extension (i ∷ p) (j ∷ q) (inl lt) other = inl lt
to_extension (i ∷ p) (j ∷ q) (inr h) other = inr (h.0, to_extension p q h.1 (λ e. other (both e)))
  where
    both : q ≡ p → j ∷ q ≡ i ∷ p
    both e = let same : i ≡ j = h.0 in cc

-- a path comes after all extensions of another
abbrev pub Past : List ℕ → List ℕ → Type 0
Past [] q = ⊥
Past (i ∷ p) [] = ⊥
Past (i ∷ p) (j ∷ q) = (i < j) ⊎ ((i ≡ j) × Past p q)

-- a path extends another at an index from this on
pub record Extends (p q : List ℕ) (n : ℕ) : Type 0 where
  pub index : ℕ
  pub rest : List ℕ
  pub is : q ≡ p ++ index ∷ rest
  pub from : n ≤ index

extends_further : (i : ℕ) (p q : List ℕ) (n : ℕ) → Extends p q n → Extends (i ∷ p) (i ∷ q) n
extends_further i p q n e = record { index = e.index; rest = e.rest; is = ap (λ q. i ∷ q) e.is; from = e.from }

same_head : (i j : ℕ) (p q : List ℕ) (n : ℕ) → i ≡ j → Extends (i ∷ p) (i ∷ q) n → Extends (i ∷ p) (j ∷ q) n
same_head i j p q n e h = record { index = h.index; rest = h.rest; is = ap (λ j. j ∷ q) (sym e) ∙ h.is; from = h.from }

-- what comes from an index of a path extends the path, or comes after its extensions
pub extends_or_past : (p q : List ℕ) (n : ℕ) → IsAtOrAfter (p ++ n ∷ []) q → Extends p q n ⊎ Past p q
extends_or_past [] [] n h = absurd h
extends_or_past [] (j ∷ q) n h = inl (record { index = j; rest = q; is = refl; from = ⊎_elim (λ (lt : n < j). omega arith) (λ (e : (n ≡ j) × Unit {0}). let same : n ≡ j = e.0 in omega arith) h })
extends_or_past (i ∷ p) [] n h = absurd h
extends_or_past (i ∷ p) (j ∷ q) n (inl lt) = inr (inl lt)
extends_or_past (i ∷ p) (j ∷ q) n (inr h) =
    ⊎_elim (λ (e : Extends p q n). inl (same_head i j p q n h.0 (extends_further i p q n e))) (λ (l : Past p q). inr (inr (h.0, l))) (extends_or_past p q n h.1)

-- what comes after the extensions of the path with an index comes from the next index on
pub past_next : (p q : List ℕ) (i : ℕ) → Past (p ++ i ∷ []) q → IsAtOrAfter (p ++ (i + 1) ∷ []) q
past_next [] [] i h = absurd h
past_next [] (j ∷ q) i (inl lt) = ⊎_elim (λ (l : i + 1 < j). inl l) (λ (e : (i + 1 ≡ j) ⊎ (j < i + 1)). ⊎_elim (λ (same : i + 1 ≡ j). inr (same, tt)) (λ (l : j < i + 1). inl (omega arith)) e) (less (i + 1) j)
past_next [] (j ∷ q) i (inr h) = absurd h.1
past_next (k ∷ p) [] i h = absurd h
past_next (k ∷ p) (j ∷ q) i (inl lt) = inl lt
past_next (k ∷ p) (j ∷ q) i (inr h) = inr (h.0, past_next p q i h.1)

-- what comes after the extensions of a path comes from any index on
pub past_from : (p q : List ℕ) (n : ℕ) → Past p q → IsAtOrAfter (p ++ n ∷ []) q
past_from [] q n h = absurd h
past_from (i ∷ p) [] n h = absurd h
past_from (i ∷ p) (j ∷ q) n (inl lt) = inl lt
past_from (i ∷ p) (j ∷ q) n (inr h) = inr (h.0, past_from p q n h.1)

-- what comes from a greater index comes from a lesser
pub from_lesser : (p q : List ℕ) (n m : ℕ) → n ≤ m → IsAtOrAfter (p ++ m ∷ []) q → IsAtOrAfter (p ++ n ∷ []) q
from_lesser [] [] n m le h = absurd h
from_lesser [] (j ∷ q) n m le (inl lt) = inl (omega arith)
from_lesser [] (j ∷ q) n m le (inr h) =
    let same : m ≡ j = h.0 in
    ⊎_elim (λ (l : n < j). inl l) (λ (e : (n ≡ j) ⊎ (j < n)). ⊎_elim (λ (same : n ≡ j). inr (same, tt)) (λ (l : j < n). inl (omega arith)) e) (less n j)
from_lesser (k ∷ p) [] n m le h = absurd h
from_lesser (k ∷ p) (j ∷ q) n m le (inl lt) = inl lt
from_lesser (k ∷ p) (j ∷ q) n m le (inr h) = inr (h.0, from_lesser p q n m le h.1)

-- what extends a path at an index comes from that index
pub from_own : (p : List ℕ) (i : ℕ) (rest : List ℕ) → IsAtOrAfter (p ++ i ∷ []) (p ++ i ∷ rest)
from_own [] i rest = inr (refl, tt)
from_own (j ∷ p) i rest = inr (refl, from_own p i rest)

-- what comes from the next index of a path comes from every index of its extension
pub from_below : (p q : List ℕ) (i n : ℕ) → IsAtOrAfter (p ++ (i + 1) ∷ []) q → IsAtOrAfter ((p ++ i ∷ []) ++ n ∷ []) q
from_below [] [] i n h = absurd h
from_below [] (j ∷ q) i n (inl lt) = inl (omega arith)
from_below [] (j ∷ q) i n (inr h) = let same : i + 1 ≡ j = h.0 in inl (omega arith)
from_below (k ∷ p) [] i n h = absurd h
from_below (k ∷ p) (j ∷ q) i n (inl lt) = inl lt
from_below (k ∷ p) (j ∷ q) i n (inr h) = inr (h.0, from_below p q i n h.1)
