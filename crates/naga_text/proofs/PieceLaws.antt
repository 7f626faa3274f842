-- What precedes the first separator, and what follows it.
use Rattle.std.proofs.Common.{◌≡◌, ◌==◌, ℕ, ◌+◌, ◌-◌, ◌<◌, ◌≤◌, All, IfNone, IfSome, None, Option, Some, false, List, [], ◌∷◌, ◌++◌, drop, get_or, length, take, arith, refl, sym, ap, ◌∙◌, length-drop, eq-eqb}
use Rattle.std.proofs.lemmas.List.{drop_more, take-append-drop, take_all}
use Rattle.std.proofs.lemmas.List.Elements.{All-head, All-tail, All-weaker}
use Rattle.std.proofs.lemmas.List.Splits.{length-slice_split, slice_split-cons_no, slice_split_at, slice_split_none}
use Rattle.std.specs.Option.{MatchOption}
use Rattle.std.proofs.lemmas.List.Sums.{count_by-le-length}
use Rattle.std.specs.List.{count_by, onto_first, slice_split}
use Rattle.naga_text.specs.Bytes.{line_feed, space}
use Rattle.naga_text.specs.Words.{lines_of, words_of}
use Rattle.naga_text.specs.LineWords.{first_line, first_of, others_of}
use Rattle.naga_text.specs.steps.Lines.{IsInWord}

-- bytes are those before the one at `i`, that one, and those after it
pub parts_at : (xs : List ℕ) (i : ℕ) → i < length xs → xs ≡ take i xs ++ get_or xs i 0 ∷ take (length xs - (i + 1)) (drop (i + 1) xs)
parts_at xs i within =
    let rest : take (length xs - (i + 1)) (drop (i + 1) xs) ≡ drop (i + 1) xs = take_all _ (drop (i + 1) xs) (simp length-drop (omega arith)) in
    let whole : take i xs ++ get_or xs i 0 ∷ drop (i + 1) xs ≡ xs = ap (λ l. take i xs ++ l) (sym (drop_more xs i 0 within)) ∙ take-append-drop i xs in
    sym whole ∙ ap (λ l. take i xs ++ get_or xs i 0 ∷ l) (sym rest)

-- bytes of which the one at `i` is the first separator are the bytes before it, and the pieces of those after it
pub split_at : (xs : List ℕ) (i separator : ℕ) → i < length xs → All (λ b. (b == separator) ≡ false) (take i xs) → get_or xs i 0 ≡ separator
    → slice_split (λ b. b == separator) xs ≡ take i xs ∷ slice_split (λ b. b == separator) (take (length xs - (i + 1)) (drop (i + 1) xs))
split_at xs i separator within before here =
    ap (slice_split (λ b. b == separator)) (parts_at xs i within)
    ∙ slice_split_at (λ b. b == separator) (take i xs) (get_or xs i 0) (take (length xs - (i + 1)) (drop (i + 1) xs)) before (eq-eqb (get_or xs i 0) separator here)

-- there is a first piece, and a list of those after it
pub first_piece : {A : Type 0} (after : Option A) (pieces : List (List ℕ)) (first : List ℕ) (rest : A → List (List ℕ)) → IfNone after (pieces ≡ first ∷ []) → IfSome after (λ a. pieces ≡ first ∷ rest a)
    → (others : List (List ℕ)) × (first ∷ others ≡ pieces)
first_piece None pieces first rest last more = ([], sym last)
first_piece (Some a) pieces first rest last more = (rest a, sym more)

-- any bytes have a first piece
pub has_piece : (separator : ℕ) (xs : List ℕ) → (first : List ℕ) × (others : List (List ℕ)) × (slice_split (λ b. b == separator) xs ≡ first ∷ others)
has_piece separator xs = go (slice_split (λ b. b == separator) xs) refl
  where
    go : (pieces : List (List ℕ)) → slice_split (λ b. b == separator) xs ≡ pieces → (first : List ℕ) × (others : List (List ℕ)) × (slice_split (λ b. b == separator) xs ≡ first ∷ others)
    go [] e = let count = length-slice_split (λ b. b == separator) xs in let none : 0 ≡ count_by (λ b. b == separator) xs + 1 = ap length (sym e) ∙ count in absurd (omega (arith, none))
    go (first ∷ others) e = (first, others, e)

-- a word before a text is a word before the first of its lines
before_line : (word text first : List ℕ) (others : List (List ℕ)) → All (λ b. (b == line_feed) ≡ false) word → lines_of text ≡ first ∷ others → lines_of (word ++ text) ≡ (word ++ first) ∷ others
before_line [] text first others in' h = h
before_line (b ∷ word) text first others in' h =
    let IsIn = λ (b : ℕ). (b == line_feed) ≡ false in
    slice_split-cons_no (λ b. b == line_feed) b (word ++ text) (All-head IsIn b word in')
    ∙ ap (onto_first b) (before_line word text first others (All-tail IsIn b word in') h)

-- no byte of a word parts words
no_space : (word : List ℕ) → All IsInWord word → All (λ b. (b == space) ≡ false) word
no_space word in' = All-weaker IsInWord (λ b. (b == space) ≡ false) (λ b h. h.0) word in'

-- no byte of a word parts lines
no_feed : (word : List ℕ) → All IsInWord word → All (λ b. (b == line_feed) ≡ false) word
no_feed word in' = All-weaker IsInWord (λ b. (b == line_feed) ≡ false) (λ b h. h.1) word in'

-- a word before a space is the first of the first line, which has the words of the line after the space
pub goes_on : (text word rest : List ℕ) → All IsInWord word → text ≡ word ++ space ∷ rest
    → (words_of (first_line text) ≡ word ∷ words_of (first_line rest)) × (others_of (lines_of text) ≡ others_of (lines_of rest))
goes_on text word rest in' whole =
    let piece = has_piece line_feed rest in
    let lines : lines_of text ≡ (word ++ space ∷ piece.0) ∷ piece.1 =
    ap lines_of whole ∙ before_line word (space ∷ rest) (space ∷ piece.0) piece.1 (no_feed word in') (slice_split-cons_no (λ b. b == line_feed) space rest refl ∙ ap (onto_first space) piece.2) in
    let first : first_line rest ≡ piece.0 = ap first_of piece.2 in (
      ap words_of (ap first_of lines) ∙ slice_split_at (λ b. b == space) word space piece.0 (no_space word in') refl ∙ ap (λ line. word ∷ words_of line) (sym first),
      ap others_of lines ∙ sym (ap others_of piece.2),
    )

-- a word before a line feed is the first line, and its one word
pub ends_line : (text word rest : List ℕ) → All IsInWord word → text ≡ word ++ line_feed ∷ rest → (words_of (first_line text) ≡ word ∷ []) × (others_of (lines_of text) ≡ lines_of rest)
ends_line text word rest in' whole =
    let lines : lines_of text ≡ word ∷ lines_of rest = ap lines_of whole ∙ slice_split_at (λ b. b == line_feed) word line_feed rest (no_feed word in') refl in (
      ap words_of (ap first_of lines) ∙ slice_split_none (λ b. b == space) word (no_space word in'),
      ap others_of lines,
    )

-- a word that nothing follows is the only line, and its one word
pub ends_text : (word : List ℕ) → All IsInWord word → (words_of (first_line word) ≡ word ∷ []) × (others_of (lines_of word) ≡ [])
ends_text word in' =
    let lines : lines_of word ≡ word ∷ [] = slice_split_none (λ b. b == line_feed) word (no_feed word in') in (
      ap words_of (ap first_of lines) ∙ slice_split_none (λ b. b == space) word (no_space word in'),
      ap others_of lines,
    )

-- a text has its first line and the others
pub lines_are : (text : List ℕ) → lines_of text ≡ first_line text ∷ others_of (lines_of text)
lines_are text =
    let piece = has_piece line_feed text in
    piece.2 ∙ ap (λ line. line ∷ piece.1) (sym (ap first_of piece.2)) ∙ ap (λ others. first_line text ∷ others) (sym (ap others_of piece.2))

-- what follows the first line are the others, if there are any
pub others_follow : {A : Type 0} (text : List ℕ) (after : List (List ℕ)) (rest : Option A) (lines : A → List (List ℕ)) → after ≡ others_of (lines_of text) → MatchOption rest (after ≡ []) (λ a. after ≡ lines a)
    → IfNone rest (lines_of text ≡ first_line text ∷ []) × IfSome rest (λ a. lines_of text ≡ first_line text ∷ lines a)
others_follow text after None lines e h = (lines_are text ∙ ap (λ others. first_line text ∷ others) (sym e ∙ h), tt)
others_follow text after (Some a) lines e h = (tt, lines_are text ∙ ap (λ others. first_line text ∷ others) (sym e ∙ h))

-- a text has one line more than line feeds
pub line_count : (text : List ℕ) → (1 ≤ length (lines_of text)) × (length (lines_of text) ≤ length text + 1)
line_count text =
    let lines = length-slice_split (λ b. b == line_feed) text in
    let feeds = count_by-le-length (λ b. b == line_feed) text in (omega (arith, lines), omega (arith, lines, feeds))
