-- Items while they are read.
use Rattle.std.specs.Prelude.{◌≡◌, ℕ, List, [], ◌∷◌, ◌++◌, Some}
use Rattle.naga_words.specs.Words.{first_item, items_of}
use Rattle.naga_draft.specs.declared.draft.Draft.{Draft}
use Rattle.naga_draft.specs.declared.item.Item.{Item}
use Rattle.naga_words.specs.declared.reader.WordsError.{WordsError}
use Rattle.naga_words.specs.declared.reader.WordsError.TheVariants as error
use Rattle.naga_draft.specs.declared.unread.Unread.{Unread}
use Rattle.naga_draft.specs.declared.unread.Unread.TheVariants as unread
use Rattle.naga_draft.specs.Drafts.{AreAdded}

-- the error of an item whose first word has the index `at`
abbrev pub error_of : Unread → ℕ → WordsError
error_of unread.Item at = error.Item at
error_of unread.OutOfMemory at = error.OutOfMemory

-- `words` begin with an item, which was added to a draft after `items`, and `rest` follows
pub record IsOneMore (items : List Item) (words rest : List ℕ) (d : Draft) : Type 0 where
  pub item : Item
  pub before : first_item words ≡ Some (item, rest)
  pub added : AreAdded (items ++ item ∷ []) d

-- `words` are items, which were added to a draft, after a header or without one
pub record AreAllAdded (words : List ℕ) (d : Draft) : Type 0 where
  pub items : List Item
  pub are : items_of words ≡ Some items
  pub added : AreAdded items d
