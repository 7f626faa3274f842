-- What a text leaves in a buffer that may be too short for it.
use Rattle.std.specs.Prelude.{ℕ, List, ◌++◌, take, drop, length}

-- `old` with a text in place of its beginning, as far as it reaches: the rest is as before
abbrev pub overwritten : (text old : List ℕ) → List ℕ
overwritten text old = take (length old) text ++ drop (length text) old
