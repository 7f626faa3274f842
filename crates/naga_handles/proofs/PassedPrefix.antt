-- Walks over lists, by what is passed already and what is left.
use Rattle.std.proofs.Common.{ℕ, suc, ◌+◌, ◌<◌, length, drop, get_or, drop-cons, add-one, sym, subst, ◌≡◌, List, [], ◌∷◌, ◌++◌, append_assoc, refl, ap, ◌∙◌}
use Rattle.std.specs.Prelude.{Result, Ok, Err, All}
use Rattle.std.specs.List.{flat_map}
use Rattle.std.proofs.lemmas.List.Elements.{All-nil, All-append, All-head, All-tail, All-weaker}
use Rattle.std.proofs.lemmas.Grind.{flat_map-append}
use Rattle.naga_ir.specs.FirstError.{AcceptsAll, ChecksEach}
use Rattle.naga_ir.proofs.StatementLemmas.{checks-along, checks-before, checks-none, checks-then}

-- all items up to those that are left are accepted
pub record Passed {B E : Type 0} (check : B → Result (Unit {0}) E → Type 0) (items left : List B) : Type 0 where
  pub before : List B
  pub at : items ≡ before ++ left
  pub accepted : AcceptsAll check before

module _ {B E : Type 0} (check : B → Result (Unit {0}) E → Type 0) where
  -- at first all items are left
  pub begin : (items : List B) → Passed check items items
  begin items = record { before = []; at = refl; accepted = All-nil (λ item. check item (Ok tt)) }

  -- equal items are left
  pub left-along : {items : List B} (left other : List B) → left ≡ other → Passed check items left → Passed check items other
  left-along left other e p = subst (Passed check _) e p

  -- the first of what is left is passed
  pub more : {items : List B} (xs left : List B) → Passed check items (xs ++ left) → ChecksEach check xs (Ok tt) → Passed check items left
  more xs left p h = record {
    before = p.before ++ xs;
    at = p.at ∙ sym (append_assoc p.before xs left);
    accepted = All-append (λ item. check item (Ok tt)) p.before xs p.accepted h.accepted;
  }

  -- what is left decides
  last : {items : List B} (left : List B) (r : Result (Unit {0}) E) → Passed check items left → ChecksEach check left r → ChecksEach check items r
  last left r p h = checks-along check _ _ r (sym p.at) (checks-then check p.before left r (record { accepted = p.accepted; refused = tt }) h)

  -- the first of what is left is refused
  pub stop : {items : List B} (xs left : List B) (error : E) → Passed check items (xs ++ left) → ChecksEach check xs (Err error) → ChecksEach check items (Err error)
  stop xs left error p h = last (xs ++ left) (Err error) p (checks-before check xs left error h)

  -- nothing is left
  pub end : {items : List B} → Passed check items [] → ChecksEach check items (Ok tt)
  end p = last [] (Ok tt) p (checks-none check)

  -- what accepted items give is accepted
  flat_accepts : {A : Type 0} (f : A → List B) (xs : List A) → All (λ x. AcceptsAll check (f x)) xs → AcceptsAll check (flat_map f xs)
  flat_accepts f [] all = All-nil (λ item. check item (Ok tt))
  flat_accepts f (x ∷ xs) all =
      All-append (λ item. check item (Ok tt)) (f x) (flat_map f xs) (All-head (λ y. AcceptsAll check (f y)) x xs all) (flat_accepts f xs (All-tail (λ y. AcceptsAll check (f y)) x xs all))

  -- checking items is checking what they give
  pub flatten : {A : Type 0} (each : A → Result (Unit {0}) E → Type 0) (f : A → List B) (xs : List A) (r : Result (Unit {0}) E)
      → ((x : A) (s : Result (Unit {0}) E) → each x s → ChecksEach check (f x) s) → ChecksEach each xs r → ChecksEach check (flat_map f xs) r
  flatten each f xs (Ok _) means h = record {
    accepted = flat_accepts f xs (All-weaker (λ x. each x (Ok tt)) (λ x. AcceptsAll check (f x)) (λ x a. (means x (Ok tt) a).accepted) xs h.accepted);
    refused = tt;
  }
  flatten each f xs (Err error) means h =
      let first = h.refused in
      let split : flat_map f xs ≡ flat_map f first.before ++ (f first.item ++ flat_map f first.after) =
      ap (flat_map f) first.at ∙ flat_map-append f first.before (first.item ∷ first.after) in
      stop (f first.item) (flat_map f first.after) error (record {
        before = flat_map f first.before;
        at = split;
        accepted = flat_accepts f first.before (All-weaker (λ x. each x (Ok tt)) (λ x. AcceptsAll check (f x)) (λ x a. (means x (Ok tt) a).accepted) first.before first.accepted_before);
      }) (means first.item (Err error) first.refused)

-- the item of an index is the first of those that are left
pub left-at : {X : Type 0} (xs : List X) (i : ℕ) (x : X) → i < length xs → x ≡ get_or xs i x → drop i xs ≡ x ∷ drop (i + 1) xs
left-at xs i x h e = rw (add-one, drop-cons xs i x) (ap (λ y. y ∷ drop (suc i) xs) (sym e))
