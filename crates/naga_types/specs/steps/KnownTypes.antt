-- What is known of the types before one.
use Rattle.std.specs.Prelude.{◌<◌, ◌≤◌, ℕ, length}
use Rattle.naga_types.specs.Surroundings.{Surroundings}

-- the types before a place have infos, and the type at the place has a layout
pub record KnownBefore (s : Surroundings) (t : ℕ) : Type 0 where
  pub each_accepted : t ≤ length s.infos
  pub laid_out : t < length s.layouts
  pub there : t < length s.lists.types
