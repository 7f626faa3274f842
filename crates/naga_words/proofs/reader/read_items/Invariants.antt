use Rattle.std.proofs.Common.{◌≡◌, ℕ, List, [], ◌++◌, Some, false, length}
use Rattle.naga_draft.specs.Drafts.{AreAdded}
use Rattle.naga_draft.specs.declared.item.Item.{Item}
use Rattle.naga_words.specs.Words.{have_header, items_of}
use Rattle.naga_words.proofs.reader.read_items.Given as goal

-- the words so far, and their items, which were added: a header of the words is among them
abbrev pub invariant-items : goal.invariant-items
invariant-items l = record {
  front : List ℕ;
  items : List Item;
  words : l.words ≡ front ++ l.left;
  are : items_of front ≡ Some items;
  whole : front ≡ [] → have_header l.words ≡ false;
  added : AreAdded items l.draft;
}

abbrev pub decreases-items : goal.decreases-items
decreases-items l = length l.left
