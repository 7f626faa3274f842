-- The set of numbers that a validator notes.
use Rattle.std.specs.Prelude.{◌≡◌, ◌==◌, ◌||◌, ℕ, Bool, not, List, Option, Some, None, slice_get, unwrap_or, false}

-- whether the set `seen` has the number `id`
abbrev pub has_id : List Bool → ℕ → Bool
has_id seen id = unwrap_or (slice_get seen id) false

-- the set `seen` has no number
abbrev pub HasNone : List Bool → Type 0
HasNone seen = (id : ℕ) → has_id seen id ≡ false

-- the number `id` was added to the set `old`, which gave `new`, and was new if `old` didn't have it
pub record IsNoted (old : List Bool) (id : ℕ) (new : List Bool) (is_new : Bool) : Type 0 where
  pub is_new_if : is_new ≡ not (has_id old id)
  pub has_both : (other : ℕ) → has_id new other ≡ (other == id || has_id old other)

-- the number `own` of an override, if it has one, was added to the set `old`, which gave `new`, and
-- `is_duplicate` if `old` had it
abbrev pub IsChecked : List Bool → Option ℕ → List Bool → Bool → Type 0
IsChecked old (Some id) new is_duplicate = IsNoted old id new (not is_duplicate)
IsChecked old None new is_duplicate = (new ≡ old) × (is_duplicate ≡ false)
