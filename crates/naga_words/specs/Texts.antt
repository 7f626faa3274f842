-- Texts and names in words.
use Rattle.std.specs.Int.{w32, to_le_bytes}
use Rattle.std.specs.List.{flat_map, list_all}
use Rattle.std.specs.Prelude.{◌==◌, ◌&&◌, ℕ, ◌+◌, ◌/◌, List, [], ◌∷◌, Option, None, Some, drop, if◌then◌else◌, length, nat_le, take}
use Rattle.std.specs.Str.{is_utf8}
use Rattle.naga_words.specs.Operands.{◌>>=◌, none}

-- the bytes of `words`, the lowest of each word first
abbrev pub bytes_in : List ℕ → List ℕ
bytes_in words = flat_map (to_le_bytes w32) words

-- how many words so many `bytes` need
abbrev pub word_count : ℕ → ℕ
word_count bytes = (bytes + 3) / 4

-- the first `count` of `bytes`, if they are UTF-8 and the bytes after them are 0
abbrev pub text_in : ℕ → List ℕ → Option (List ℕ)
text_in count bytes =
    if list_all (λ b. b == 0) (drop count bytes) && is_utf8 (take count bytes) then Some (take count bytes)
    else None

-- the text with which words begin, and the words after it: the number of its bytes, and as many words as these need
abbrev pub text_of : List ℕ → Option (List ℕ × List ℕ)
text_of [] = None
text_of (count ∷ ws) =
    if nat_le (word_count count) (length ws) then
    text_in count (bytes_in (take (word_count count) ws)) >>= (λ text. Some (text, drop (word_count count) ws))
    else None

-- the name with which words begin, and the words after it: a text, or the word that stands for nothing if there is none
abbrev pub name_of : List ℕ → Option (Option (List ℕ) × List ℕ)
name_of [] = None
name_of (w ∷ ws) =
    if w == none then Some (None, ws)
    else text_of (w ∷ ws) >>= (λ text. Some (Some text.0, text.1))
