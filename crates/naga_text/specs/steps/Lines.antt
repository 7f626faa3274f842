-- The bytes of words.
use Rattle.std.specs.Prelude.{◌≡◌, ◌==◌, ℕ, false}
use Rattle.naga_text.specs.Bytes.{line_feed, space}

-- the byte `b` ends no word and no line
abbrev pub IsInWord : ℕ → Type 0
IsInWord b = ((b == space) ≡ false) × ((b == line_feed) ≡ false)
