-- What words say, and where words that say nothing can't be read.
use Rattle.std.specs.Prelude.{◌≡◌, ℕ, ◌≤◌, ◌+◌, ◌*◌, ◌/◌, ◌%◌, Bool, false, List, [], ◌∷◌, ◌++◌, Option, None, Some, drop, if◌then◌else◌, length, nat_eq, nat_le, take}
use Rattle.std.specs.Cmp.Lexicographic.{pointwise}
use Rattle.naga_draft.specs.Modules.{CanBegin, Say}
use Rattle.naga_draft.specs.declared.draft.Contents.{Contents}
use Rattle.naga_draft.specs.declared.item.Item.{Item}
use Rattle.naga_words.specs.Items.{item_of}
use Rattle.naga_words.specs.Operands.{◌>>=◌}
use Rattle.naga_words.specs.Reading.{read_all}
use Rattle.naga_words.specs.declared.opcodes.TheConstants as code
use Rattle.naga_words.specs.declared.reader.WordsError.{WordsError}
use Rattle.naga_words.specs.declared.reader.WordsError.TheVariants as error

-- the item with which words begin, and the words after it: of a head, which has the number of the operands above the
-- opcode, and of as many operands
abbrev pub first_item : List ℕ → Option (Item × List ℕ)
first_item [] = None
first_item (head ∷ ws) =
    if nat_le (head / 256) (length ws) then
    item_of (head % 256) (take (head / 256) ws) >>= (λ item. Some (item, drop (head / 256) ws))
    else None

-- the words of a header: an item of opcode 15 with two operands, the bytes of "NAGW" and the version of the words, 1
abbrev pub header : List ℕ
header = (2 * 256 + code.OP_HEADER) ∷ 0x5747_414e ∷ 1 ∷ []

-- `words` begin with a header
abbrev pub have_header : List ℕ → Bool
have_header words = pointwise nat_eq (take (length header) words) header

-- `words` without the header with which they begin, if they begin with one
abbrev pub after_header : List ℕ → List ℕ
after_header words = if have_header words then drop (length header) words else words

-- the items that are one after another the words, after a header or without one
abbrev pub items_of : List ℕ → Option (List Item)
items_of words = read_all first_item (after_header words)

-- `words` are items that say together `contents`
abbrev pub IsWords : List ℕ → Contents → Type 0
IsWords words contents = (items : List Item) × (items_of words ≡ Some items) × Say items contents

-- the words before the index `at` are items that can begin a module, after a header or without one, and there no item
-- can stand, nor a header, nor the end
pub record IsFirstUnreadable (words : List ℕ) (at : ℕ) : Type 0 where
  pub items : List Item
  pub before : items_of (take at words) ≡ Some items
  pub within : at ≤ length words
  pub begins : CanBegin items
  pub no_item : (item : Item) (rest : List ℕ) → first_item (drop at words) ≡ Some (item, rest)
      → ¬ (CanBegin (items ++ item ∷ []))
  pub no_header : at ≡ 0 → have_header words ≡ false
  pub no_end : at ≡ length words → (contents : Contents) → ¬ (Say items contents)

-- an error names the index of a word of which this holds
abbrev pub NamesItem : WordsError → (ℕ → Type 0) → Type 0
NamesItem (error.Item at) P = P at
NamesItem error.OutOfMemory P = ⊥
