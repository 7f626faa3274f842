-- When coordinates can be clamped.
use Rattle.std.proofs.Common.{◌≡◌, ◌||◌, ◌∙◌, Bool, true, false, not, Ok, Some, ap, refl, sym}
use Rattle.naga_types.specs.Checks.{ok_unless, require}

module _ {E : Type 0} (asked can : Bool) (error : E) where
  -- nothing is refused that isn't wanted
  pub unasked : asked ≡ false → Ok (tt {0}) ≡ ok_unless (require (not asked || can) error) (tt {0})
  unasked h = sym (ap (λ (asked : Bool). ok_unless (require (not asked || can) error) (tt {0})) h)

  -- what is wanted and can't be is refused
  pub refused : asked ≡ true → can ≡ false → require (not asked || can) error ≡ Some error
  refused h g = ap (λ (asked : Bool). require (not asked || can) error) h ∙ ap (λ (can : Bool). require can error) g

-- nothing is refused that can be
pub allowed : {E : Type 0} (asked can : Bool) (error : E) → can ≡ true → Ok (tt {0}) ≡ ok_unless (require (not asked || can) error) (tt {0})
allowed true can error h = sym (ap (λ (can : Bool). ok_unless (require can error) (tt {0})) h)
allowed false can error h = refl
