-- Where words can't be read.
use Rattle.std.proofs.Common.{◌≡◌, ◌⊎◌, inl, inr, ℕ, ◌+◌, ◌<◌, ◌≤◌, ◌^◌, List, [], ◌∷◌, ◌++◌, Some, append_assoc, append-nil, arith, drop, length, length-append, refl, sym, ap, ◌∙◌, subst, take, false}
use Rattle.std.proofs.Math.Seq.{drop-append_seam, drop-length, take-append_seam, take-length}
use Rattle.std.proofs.lemmas.List.{length-drop, length-take-le, take-append-drop}
use Rattle.std.proofs.lemmas.Option.{option_and_then_some, same_Some}
use Rattle.naga_draft.specs.Modules.{CanBegin, Say}
use Rattle.naga_draft.specs.Drafts.{AreAdded}
use Rattle.naga_draft.specs.declared.draft.Contents.{Contents}
use Rattle.naga_draft.specs.declared.draft.Draft.{Draft}
use Rattle.naga_draft.specs.declared.item.Item.{Item}
use Rattle.naga_draft.specs.declared.unread.Unread.{Unread}
use Rattle.naga_draft.specs.declared.unread.Unread.TheVariants as unread
use Rattle.naga_draft.proofs.WholeLaws.{added_begins}
use Rattle.naga_words.specs.Reading.{read_all}
use Rattle.naga_words.specs.Words.{IsFirstUnreadable, IsWords, NamesItem, first_item, have_header, items_of}
use Rattle.naga_words.specs.declared.reader.WordsError.{WordsError}
use Rattle.naga_words.specs.declared.reader.WordsError.TheVariants as error
use Rattle.naga_words.specs.steps.ReadItems.{error_of}
use Rattle.naga_words.proofs.AllLaws.{all_first, all_nothing}
use Rattle.naga_words.proofs.ReaderLaws.{empty_list, item_shortens, items_then, words_few}

-- a list with items has some
none_left : {A : Type 0} (front left : List A) → ¬ (left ≡ []) → ¬ (length front ≡ length (front ++ left))
none_left front [] some e = some refl
none_left front (x ∷ left) some e = let long = length-append front (x ∷ left) in absurd (omega (arith, e, long))

-- no item can stand after the words `front` of items that were added to a draft
pub stuck_at : (words front left : List ℕ) (items : List Item) (d : Draft) (at : ℕ) → words ≡ front ++ left → items_of front ≡ Some items → AreAdded items d → length words < 2 ^ 63 → at ≡ length front
    → (front ≡ [] → have_header words ≡ false) → ¬ (left ≡ []) → ((item : Item) (rest : List ℕ) → first_item left ≡ Some (item, rest) → ¬ (CanBegin (items ++ item ∷ []))) → IsFirstUnreadable words at
stuck_at words front left items d at split are added few place whole some refused =
    let taken : take at words ≡ front = (λ j. take (place j) (split j)) ∙ take-append_seam front left in
    let dropped : drop at words ≡ left = (λ j. drop (place j) (split j)) ∙ drop-append_seam front left in
    let all : length words ≡ length front + length left = ap length split ∙ length-append front left in
    let items_are = words_few front items are in record {
      items = items;
      before = ap items_of taken ∙ are;
      within = omega (arith, all, place);
      begins = added_begins items d (omega (arith, items_are, all, few)) added;
      no_item = λ item rest before. refused item rest (ap first_item (sym dropped) ∙ before);
      no_header = λ none. whole (empty_list front (omega (arith, place, none)));
      no_end = λ e. absurd (none_left front left some (sym place ∙ e ∙ ap length split));
    }

-- the end can't stand after words whose items were added to a draft
pub stuck_at_end : (words : List ℕ) (items : List Item) (d : Draft) → items_of words ≡ Some items → AreAdded items d → length words < 2 ^ 63 → ((contents : Contents) → ¬ (Say items contents)) → IsFirstUnreadable words (length words)
stuck_at_end words items d are added few none =
    let items_are = words_few words items are in record {
      items = items;
      before = ap items_of (take-length words) ∙ are;
      within = omega arith;
      begins = added_begins items d (omega (arith, items_are, few)) added;
      no_item = λ item rest before. let no : first_item [] ≡ Some (item, rest) = ap first_item (sym (drop-length words)) ∙ before in cc;
      no_header = λ none. ap have_header (empty_list words none);
      no_end = λ e. none;
    }

-- an error says that memory was refused, or names where words can't be read
pub names : (words : List ℕ) (u : Unread) (at : ℕ) → (u ≡ unread.Item → IsFirstUnreadable words at) → (error_of u at ≡ error.OutOfMemory) ⊎ NamesItem (error_of u at) (IsFirstUnreadable words)
names words unread.Item at first = inr (first refl)
names words unread.OutOfMemory at first = inl refl

-- an index after which no words are left is their number
all_dropped : (at : ℕ) (words : List ℕ) → at ≤ length words → drop at words ≡ [] → at ≡ length words
all_dropped at words within none = let left = ap length none in let long = length-drop at words in omega (arith, within, left, long)

-- words that say something have no first item that can't be read
no_unreadable : (words : List ℕ) (contents : Contents) (at : ℕ) → IsWords words contents → ¬ (IsFirstUnreadable words at)
no_unreadable words contents at h u =
    let split = take-append-drop at words in
    option_and_then_some _ (read_all first_item (drop at words)) h.0 (sym (items_then (take at words) (drop at words) u.items u.before whole) ∙ ap items_of split ∙ h.1) λ more read same.
    go more read (subst (λ items. Say items contents) (sym (same_Some _ _ same)) h.2)
  where
    whole : take at words ≡ [] → have_header (drop at words) ≡ false
    whole none =
        let taken = length-take-le at words u.within in
        let empty = ap length none in
        ap have_header (sym (ap (λ front. front ++ drop at words) none) ∙ take-append-drop at words) ∙ u.no_header (omega (arith, taken, empty))

    go : (more : List Item) → read_all first_item (drop at words) ≡ Some more → Say (u.items ++ more) contents → ⊥
    go [] read say = u.no_end (all_dropped at words u.within (all_nothing first_item (drop at words) read)) contents (subst (λ items. Say items contents) (append-nil u.items) say)
    go (x ∷ more) read say =
        let first = all_first first_item item_shortens (drop at words) x more read in
        u.no_item x first.0 first.1 (more, contents, subst (λ items. Say items contents) (sym (append_assoc u.items (x ∷ []) more)) say)

-- words that say something are not read only if memory was refused
pub only_memory : (words : List ℕ) (contents : Contents) → IsWords words contents → (e : WordsError) → (e ≡ error.OutOfMemory) ⊎ NamesItem e (IsFirstUnreadable words) → e ≡ error.OutOfMemory
only_memory words contents says (error.Item at) (inl memory) = memory
only_memory words contents says (error.Item at) (inr first) = absurd (no_unreadable words contents at says first)
only_memory words contents says error.OutOfMemory why = refl

-- why words are not read
pub ruleset stuck = (names, only_memory, stuck_at_end)
