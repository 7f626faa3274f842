-- The bytes of ASCII that have a meaning in a text.
use Rattle.std.specs.Prelude.{ℕ}

-- the byte that ends a line
abbrev pub line_feed : ℕ
line_feed = 10

-- the byte that parts words
abbrev pub space : ℕ
space = 32

-- the byte that a comment begins with, `#`
abbrev pub hash : ℕ
hash = 35

-- the byte before a negative number, and in the place of what is left out
abbrev pub minus : ℕ
minus = 45

-- the first of the ten digits
abbrev pub digit_zero : ℕ
digit_zero = 48

-- the byte that parts the pieces of a word, `:`
abbrev pub colon : ℕ
colon = 58

-- the letter before the number of an override, `o`
abbrev pub letter_o : ℕ
letter_o = 111
