-- The words of a line that are still to be read, and the lines after it.
use Rattle.std.specs.Prelude.{ℕ, List, [], ◌∷◌}
use Rattle.naga_text.specs.Words.{lines_of, words_of}
use Rattle.naga_text.specs.declared.line_words.LineWords.{LineWords}
use Rattle.naga_text.specs.declared.line_words.LineWords.TheVariants.{AtWord, AtLine, AtEnd}

-- the first of lines; a text always has one
abbrev pub first_of : List (List ℕ) → List ℕ
first_of [] = []
first_of (line ∷ lines) = line

-- the lines after the first
abbrev pub others_of : List (List ℕ) → List (List ℕ)
others_of [] = []
others_of (line ∷ lines) = lines

-- the first line of a text
abbrev pub first_line : List ℕ → List ℕ
first_line text = first_of (lines_of text)

-- the words of the line that are still to be read
abbrev pub words_left : LineWords → List (List ℕ)
words_left (AtWord bytes) = words_of (first_line bytes.now)
words_left (AtLine bytes) = []
words_left AtEnd = []

-- the lines after the line
abbrev pub lines_after : LineWords → List (List ℕ)
lines_after (AtWord bytes) = others_of (lines_of bytes.now)
lines_after (AtLine bytes) = lines_of bytes.now
lines_after AtEnd = []
