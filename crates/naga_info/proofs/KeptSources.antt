-- What is kept of the sources of expressions stays right as it grows.
use Rattle.std.proofs.Common.{◌≡◌, ℕ, List, [], ◌∷◌, ◌++◌, Some, length, slice_get}
use Rattle.naga_info.specs.Integers.{Scope}
use Rattle.naga_info.specs.Sources.{AreSources, IsLastSource}
use Rattle.naga_info.specs.declared.sources.Place.{Place}
use Rattle.naga_info.specs.declared.sources.Place.TheVariants.{InFunction, InModule}
use Rattle.naga_info.specs.declared.sources.Sources.{Sources}
use Rattle.naga_ir.proofs.OneMore.{each_and_last}

module _ (s : Scope) where
  -- no source is kept
  pub none_kept : (kept : Sources) → kept.in_function ≡ [] → kept.in_module ≡ [] → AreSources s kept
  none_kept kept f m (InFunction e) q at = none kept.in_function f e at
    where
      none : (xs : List Place) → xs ≡ [] → (k : ℕ) → slice_get xs k ≡ Some q → IsLastSource s (InFunction e) q
      none [] is k at = cc at
      none (x ∷ xs) is k at = cc is
  none_kept kept f m (InModule e) q at = none kept.in_module m e at
    where
      none : (xs : List Place) → xs ≡ [] → (k : ℕ) → slice_get xs k ≡ Some q → IsLastSource s (InModule e) q
      none [] is k at = cc at
      none (x ∷ xs) is k at = cc is

  module _ (kept : Sources) (last : Place) (right : AreSources s kept) where
    -- the source of the next global expression is kept
    pub one_in_module : IsLastSource s (InModule (length kept.in_module)) last → AreSources s (record kept { in_module = kept.in_module ++ last ∷ [] })
    one_in_module is (InFunction e) q at = right (InFunction e) q at
    one_in_module is (InModule e) q at = each_and_last kept.in_module last (λ e q. IsLastSource s (InModule e) q) (λ e q at. right (InModule e) q at) is e q at

    -- the source of the next expression of the function is kept
    pub one_in_function : IsLastSource s (InFunction (length kept.in_function)) last → AreSources s (record kept { in_function = kept.in_function ++ last ∷ [] })
    one_in_function is (InModule e) q at = right (InModule e) q at
    one_in_function is (InFunction e) q at = each_and_last kept.in_function last (λ e q. IsLastSource s (InFunction e) q) (λ e q at. right (InFunction e) q at) is e q at
