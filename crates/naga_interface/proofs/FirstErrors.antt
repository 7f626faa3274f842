-- The first error of the items of a list, one item after another.
use Rattle.std.proofs.Common.{◌≡◌, ◌∙◌, ◌+◌, ◌<◌, ℕ, List, ◌∷◌, Option, Some, None, drop, get_or, length, map, ap, sym}
use Rattle.std.proofs.lemmas.List.{drop_more}
use Rattle.std.specs.List.{enumerate_from}
use Rattle.std.specs.Option.{option_or}
use Rattle.naga_types.specs.Checks.{first}

-- what is left begins with the item at its place
next : {X : Type 0} (xs : List X) (i : ℕ) (x : X) → i < length xs → x ≡ get_or xs i x → drop i xs ≡ x ∷ drop (i + 1) xs
next xs i x h e = drop_more xs i x h ∙ ap (λ y. y ∷ drop (i + 1) xs) (sym e)

module _ {X E : Type 0} (g : ℕ × X → Option E) (xs : List X) (i : ℕ) (x : X) (h : i < length xs) (e : x ≡ get_or xs i x) (so_far : first (map g (enumerate_from i (drop i xs))) ≡ first (map g (enumerate_from 0 xs))) where
  here : first (map g (enumerate_from i (drop i xs))) ≡ option_or (g (i, x)) (first (map g (enumerate_from (i + 1) (drop (i + 1) xs))))
  here = ap (λ ys. first (map g (enumerate_from i ys))) (next xs i x h e)

  -- an item without an error is passed
  pub passed : g (i, x) ≡ None → first (map g (enumerate_from (i + 1) (drop (i + 1) xs))) ≡ first (map g (enumerate_from 0 xs))
  passed none = sym (here ∙ ap (λ o. option_or o (first (map g (enumerate_from (i + 1) (drop (i + 1) xs))))) none) ∙ so_far

  -- the error of an item is the first
  pub refused : (error : E) → g (i, x) ≡ Some error → first (map g (enumerate_from 0 xs)) ≡ Some error
  refused error some = sym so_far ∙ here ∙ ap (λ o. option_or o (first (map g (enumerate_from (i + 1) (drop (i + 1) xs))))) some
