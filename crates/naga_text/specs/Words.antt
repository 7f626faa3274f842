-- Lines, words, and the numbers that words write.
use Rattle.std.specs.Prelude.{◌==◌, ℕ, ◌+◌, ◌-◌, ◌*◌, ◌^◌, ℤ, pos, neg_ℤ, List, [], ◌∷◌, Option, Some, None, length, nat_lt, nat_le, option_map, ◌&&◌, if◌then◌else◌}
use Rattle.std.specs.List.{slice_split}
use Rattle.std.specs.Str.{all_ascii_digits}
use Rattle.naga_arena.specs.Numbers.{largest_handle, largest_u32}
use Rattle.naga_text.specs.Bytes.{colon, digit_zero, line_feed, minus, space}

-- the greatest `u16`
abbrev pub largest_u16 : ℕ
largest_u16 = 2 ^ 16 - 1

-- the greatest `i16`
abbrev pub largest_i16 : ℕ
largest_i16 = 2 ^ 15 - 1

-- the greatest `i32`
abbrev pub largest_i32 : ℕ
largest_i32 = 2 ^ 31 - 1

-- the greatest `i64`
abbrev pub largest_i64 : ℕ
largest_i64 = 2 ^ 63 - 1

-- the number that digits write when they follow the digits of `n`
abbrev pub value_after : ℕ → List ℕ → ℕ
value_after n [] = n
value_after n (c ∷ cs) = value_after (n * 10 + (c - digit_zero)) cs

-- the most digits that a number is written in
abbrev pub most_digits : ℕ
most_digits = 20

-- the number that a word writes in 1 to 20 digits, if it is at most `most`
abbrev pub number_up_to : ℕ → List ℕ → Option ℕ
number_up_to most word = if nat_lt 0 (length word) && nat_le (length word) most_digits && all_ascii_digits word && nat_le (value_after 0 word) most then Some (value_after 0 word) else None

-- the integer that a word writes: a number up to `most`, or after a minus the negative of one up to `most` + 1
abbrev pub integer_up_to : ℕ → List ℕ → Option ℤ
integer_up_to most [] = None
integer_up_to most (c ∷ cs) = if c == minus then option_map (λ n. neg_ℤ (pos n)) (number_up_to (most + 1) cs) else option_map pos (number_up_to most (c ∷ cs))

-- the number of 32 bits that a word writes
abbrev pub number_of : List ℕ → Option ℕ
number_of word = number_up_to largest_u32 word

-- the handle that a word writes as its index
abbrev pub handle_of : List ℕ → Option ℕ
handle_of word = number_up_to largest_handle word

-- the words of a line, which single spaces part
abbrev pub words_of : List ℕ → List (List ℕ)
words_of line = slice_split (λ b. b == space) line

-- the pieces of a word, which colons part
abbrev pub pieces_of : List ℕ → List (List ℕ)
pieces_of word = slice_split (λ b. b == colon) word

-- the lines of a text; if the text ends with a line feed, the last is empty
abbrev pub lines_of : List ℕ → List (List ℕ)
lines_of text = slice_split (λ b. b == line_feed) text
