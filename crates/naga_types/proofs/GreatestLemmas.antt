-- The greatest alignment of some members.
use Rattle.std.proofs.Common.{◌≡◌, ◌≤◌, ℕ, suc, max, List, [], ◌∷◌, Some, map, slice_get, refl, ap, ◌∙◌}
use Rattle.naga_arena.proofs.Elements.{all_at}
use Rattle.naga_typing.proofs.GreatestAlignment.{greatest-bounds}
use Rattle.naga_typing.specs.Layout.{greatest}

-- something holds of each item of a list at its index
abbrev pub OfEach : {X : Type 0} → List X → (X → Type 0) → Type 0
OfEach {X} xs P = (k : ℕ) (x : X) → slice_get xs k ≡ Some x → P x

module _ {X : Type 0} (f h : X → ℕ) where
  -- alignments that are the same have the same greatest
  pub same_greatest : (xs : List X) → OfEach xs (λ x. f x ≡ h x) → greatest (map f xs) ≡ greatest (map h xs)
  same_greatest [] each = refl
  same_greatest (x ∷ xs) each = ap (λ a. max a (greatest (map f xs))) (each 0 x refl) ∙ ap (max (h x)) (same_greatest xs (λ k y at. each (suc k) y at))

module _ {X : Type 0} (f : X → ℕ) where
  -- each alignment is at most the greatest
  pub at_most_greatest : (xs : List X) → OfEach xs (λ x. f x ≤ greatest (map f xs))
  at_most_greatest xs k x at = all_at (λ x. f x ≤ greatest (map f xs)) xs k x (greatest-bounds f xs) at
