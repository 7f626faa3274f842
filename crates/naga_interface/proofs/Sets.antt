-- One binding more among those that sets have.
use Rattle.std.proofs.Common.{◌≡◌, ◌==◌, ◌∙◌, ◌||◌, ℕ, Bool, false, List, [], ◌∷◌, ◌++◌, ap, sym}
use Rattle.std.proofs.Math.Bool.{or-false, or_comm}
use Rattle.std.proofs.lemmas.Bool.Decides.{Decides-eqb, Decides-like, same_from_decides}
use Rattle.std.proofs.lemmas.List.Folds.{list_any-append}
use Rattle.std.specs.List.{list_any}

-- equality of numbers doesn't depend on their order
either_way : (a b : ℕ) → (a == b) ≡ (b == a)
either_way a b = same_from_decides (a == b) (b == a) (Decides-eqb a b) (Decides-like (b == a) (λ (e : b ≡ a). sym e) (λ (e : a ≡ b). sym e) (Decides-eqb b a))

module _ {X : Type 0} (p : X → Bool) (xs : List X) (x : X) where
  any_more : list_any p (xs ++ x ∷ []) ≡ (p x || list_any p xs)
  any_more = list_any-append p xs (x ∷ []) ∙ ap (λ (b : Bool). list_any p xs || b) (or-false (p x)) ∙ or_comm (list_any p xs) (p x)

  -- an item that doesn't pass a test changes nothing
  pub any_same : (t : Bool) → t ≡ list_any p xs → p x ≡ false → t ≡ list_any p (xs ++ x ∷ [])
  any_same t before fails = before ∙ sym (any_more ∙ ap (λ (b : Bool). b || list_any p xs) fails)

  -- an item that is found by its number is added
  pub any_added : (n own : ℕ) (t new : Bool) → t ≡ list_any p xs → new ≡ (n == own || t) → p x ≡ (own == n) → new ≡ list_any p (xs ++ x ∷ [])
  any_added n own t new before added is =
      added ∙ ap (λ (b : Bool). n == own || b) before ∙ ap (λ (b : Bool). b || list_any p xs) (either_way n own ∙ sym is) ∙ sym any_more
