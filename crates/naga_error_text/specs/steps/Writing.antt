-- What a text that begins at a place leaves in a buffer that may be too short for it.
use Rattle.std.specs.Prelude.{ℕ, List, ◌+◌, ◌-◌, ◌++◌, take, drop, length}

-- `old` with a text in place of what it has from the place `at` on, as far as it reaches
abbrev pub written_at : ℕ → (text old : List ℕ) → List ℕ
written_at at text old = take at old ++ (take (length old - at) text ++ drop (at + length text) old)
