-- Which ranges of indices exist.
use Rattle.std.specs.Prelude.{◌≡◌, ◌⊎◌, ℕ, ◌<◌, ◌≤◌}
use Rattle.naga_arena.specs.declared.range.Range.{Range}

-- the range `r` is within a list of `length` items: it is empty, or goes forward and ends within the list
abbrev pub IsGoodRange : {K : Type 0} → ℕ → Range K → Type 0
IsGoodRange length r = (r.start ≡ r.end) ⊎ ((r.start < r.end) × (r.end ≤ length))
