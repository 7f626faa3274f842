-- The items with which words begin, words after a header or without one, and the bytes of texts.
use Rattle.std.proofs.Common.{◌≡◌, ◌∙◌, ℕ, ◌≤◌, ◌/◌, ◌%◌, Bool, true, false, List, [], ◌∷◌, ◌++◌, Option, None, Some, ap, arith, cond, drop, drop_of_length-le, length, length-append, nat_le, refl, rules, sym, take, ◌==◌, eqb-true, nat_eq, ◌*◌}
use Rattle.std.proofs.lemmas.Bool.{le-leb, leb-true, false_from_ne_true}
use Rattle.std.proofs.lemmas.List.{drop-append-le, length-drop, length-take-le, take-append-drop, take-append-le, take-take}
use Rattle.std.proofs.lemmas.Option.{option_and_then_some, same_Some, none-some}
use Rattle.naga_draft.specs.declared.item.Item.{Item}
use Rattle.naga_words.specs.Items.{item_of}
use Rattle.naga_words.specs.Words.{first_item, after_header, have_header, header, items_of}
use Rattle.naga_words.proofs.AllLaws.{Extends, Shortens, all_append, all_few, all_step, then}
use Rattle.std.proofs.lemmas.Slice.Eq.{bytes_eq-Decides}
use Rattle.std.specs.Cmp.Lexicographic.{pointwise}
use Rattle.std.specs.Prelude.{◌&&◌}
use Rattle.naga_words.specs.Reading.{read_all}
use Rattle.std.proofs.lemmas.Str.{IsUtf8-from_is_utf8, is_utf8-from_IsUtf8}
use Rattle.std.specs.Int.{w32, to_le_bytes}
use Rattle.std.specs.List.{list_all}
use Rattle.std.specs.Str.{IsUtf8, is_utf8}
use Rattle.naga_ir.specs.declared.types.StructMember.{StructMember}
use Rattle.naga_words.specs.Texts.{bytes_in, name_of, text_in, text_of, word_count}
use Rattle.naga_words.specs.Types.{first_member, member_of}

-- a value that a test let through, and that it did
pub let_through : {B P : Type 0} (b : Bool) (x : Option B) (y : B) → cond b x None ≡ Some y → (b ≡ true → x ≡ Some y → P) → P
let_through true x y h then = then refl h
let_through false x y h then = cc

-- the operands and the rest of the item with which words begin
pub record IsAt (head : ℕ) (ws : List ℕ) (item : Item) (rest : List ℕ) : Type 0 where
  pub fits : head / 256 ≤ length ws
  pub item_is : item_of (head % 256) (take (head / 256) ws) ≡ Some item
  pub rest_is : rest ≡ drop (head / 256) ws

pub item_at : (head : ℕ) (ws : List ℕ) (item : Item) (rest : List ℕ) → first_item (head ∷ ws) ≡ Some (item, rest) → IsAt head ws item rest
item_at head ws item rest h =
    let_through (nat_le (head / 256) (length ws)) _ (item, rest) h λ fits h.
    option_and_then_some (λ (item : Item). Some (item, drop (head / 256) ws)) (item_of (head % 256) (take (head / 256) ws)) (item, rest) h λ read is h.
    let same : (read, drop (head / 256) ws) ≡ (item, rest) = same_Some _ _ h in record {
      fits = leb-true (head / 256) (length ws) fits;
      item_is = is ∙ ap (λ (p : Item × List ℕ). Some p.0) same;
      rest_is = sym (ap (λ (p : Item × List ℕ). p.1) same);
    }

pub item_is : (head : ℕ) (ws : List ℕ) (item : Item) → head / 256 ≤ length ws → item_of (head % 256) (take (head / 256) ws) ≡ Some item → first_item (head ∷ ws) ≡ Some (item, drop (head / 256) ws)
item_is head ws item fits h = rw (le-leb (head / 256) (length ws) fits, h) refl

-- an item has a word at least
pub item_shortens : Shortens first_item
item_shortens [] read h = cc
item_shortens (head ∷ ws) (item, rest) h = let at = item_at head ws item rest h in search (rules, length-drop)

-- an item is read of its own words, whatever follows
pub item_extends : Extends first_item
item_extends [] more item rest h = cc
item_extends (head ∷ ws) more item rest h =
    let at = item_at head ws item rest h in
    let fits = at.fits in
    let long = length-append ws more in
    item_is head (ws ++ more) item (omega (arith, fits, long)) (ap (item_of (head % 256)) (take-append-le (head / 256) ws more fits) ∙ at.item_is)
    ∙ ap (λ (rest : List ℕ). Some (item, rest)) (drop-append-le (head / 256) ws more fits ∙ ap (λ (rest : List ℕ). rest ++ more) (sym at.rest_is))

-- the words of an item alone
pub own_words : (words : List ℕ) (item : Item) (rest : List ℕ) → first_item words ≡ Some (item, rest) → (own : List ℕ) × (words ≡ own ++ rest) × (first_item own ≡ Some (item, []))
own_words [] item rest h = cc
own_words (head ∷ ws) item rest h =
    let at = item_at head ws item rest h in
    let n = head / 256 in
    let fits = at.fits in
    let long : length (take n ws) ≡ n = length-take-le n ws fits in (
      head ∷ take n ws,
      ap (λ ws. head ∷ ws) (sym (take-append-drop n ws) ∙ ap (λ rest. take n ws ++ rest) (sym at.rest_is)),
      item_is head (take n ws) item (omega (arith, long)) (ap (item_of (head % 256)) (take-take n n ws (omega arith)) ∙ at.item_is)
          ∙ ap (λ (rest : List ℕ). Some (item, rest)) (drop_of_length-le (take n ws) (omega (arith, long))),
    )

and_false : (b : Bool) → (b && false) ≡ false
and_false true = refl
and_false false = refl

-- words that begin with no header are left as they are
pub without : (ws : List ℕ) → have_header ws ≡ false → after_header ws ≡ ws
without ws h = ap (λ b. cond b (drop (length header) ws) ws) h

-- of words that begin with a header these are the rest, and no more are left of others
pub after_few : (ws : List ℕ) → length (after_header ws) ≤ length ws
after_few ws = go (have_header ws)
  where
    go : (b : Bool) → length (cond b (drop 3 ws) ws) ≤ length ws
    go true = let long = length-drop 3 ws in omega (arith, long)
    go false = omega arith

-- another first word than that of a header
other_first : (a : ℕ) (ws : List ℕ) → (a == 527) ≡ false → have_header (a ∷ ws) ≡ false
other_first a ws e = ap (λ b. b && pointwise nat_eq (take 2 ws) (drop 1 header)) e

-- words that begin as a header does, but are fewer, are no items
split_at_once : (a : ℕ) (ws words : List ℕ) (xs : List Item) → have_header (a ∷ ws) ≡ false → read_all first_item (527 ∷ ws) ≡ None → items_of (a ∷ ws) ≡ Some xs
    → after_header (a ∷ ws ++ words) ≡ after_header (a ∷ ws) ++ words
split_at_once a ws words xs none stuck h = go (a == 527) refl
  where
    go : (b : Bool) → (a == 527) ≡ b → after_header (a ∷ ws ++ words) ≡ after_header (a ∷ ws) ++ words
    go true e =
        let read : read_all first_item (a ∷ ws) ≡ Some xs = ap (read_all first_item) (sym (without (a ∷ ws) none)) ∙ h in
        let no : None ≡ Some xs = sym stuck ∙ ap (λ a. read_all first_item (a ∷ ws)) (sym (eqb-true a 527 e)) ∙ read in cc
    go false e = without (a ∷ ws ++ words) (other_first a (ws ++ words) e) ∙ ap (λ ws. ws ++ words) (sym (without (a ∷ ws) none))

-- what follows words that are items stands after their header, unless they are none and what follows has one
pub header_split : (front words : List ℕ) (xs : List Item) → items_of front ≡ Some xs → (front ≡ [] → have_header words ≡ false) → after_header (front ++ words) ≡ after_header front ++ words
header_split [] words xs h whole = without words (whole refl)
header_split (a ∷ []) words xs h whole = split_at_once a [] words xs (and_false (a == 527)) refl h
header_split (a ∷ b ∷ []) words xs h whole =
    split_at_once a (b ∷ []) words xs (ap (λ c. (a == 527) && c) (and_false (b == 0x5747_414e)) ∙ and_false (a == 527)) refl h
header_split (a ∷ b ∷ c ∷ rest) words xs h whole = go (have_header (a ∷ b ∷ c ∷ rest))
  where
    go : (t : Bool) → cond t (rest ++ words) (a ∷ b ∷ c ∷ rest ++ words) ≡ cond t rest (a ∷ b ∷ c ∷ rest) ++ words
    go true = refl
    go false = refl

-- the items of words that follow items come after these
pub items_then : (front words : List ℕ) (xs : List Item) → items_of front ≡ Some xs → (front ≡ [] → have_header words ≡ false) → items_of (front ++ words) ≡ then xs (read_all first_item words)
items_then front words xs h whole =
    ap (read_all first_item) (header_split front words xs h whole) ∙ all_append first_item item_shortens item_extends (after_header front) words xs h

-- items are no more than their words
pub words_few : (words : List ℕ) (items : List Item) → items_of words ≡ Some items → length items ≤ length words
words_few words items h = let few = all_few first_item (after_header words) items h in let left = after_few words in omega (arith, few, left)

-- a list without a length is empty
pub empty_list : (words : List ℕ) → length words ≡ 0 → words ≡ []
empty_list [] e = refl
empty_list (word ∷ words) e = absurd (omega (arith, e))

-- words that begin with an item do not begin with a header
pub item_is_no_header : (ws : List ℕ) (item : Item) (rest : List ℕ) → first_item ws ≡ Some (item, rest) → have_header ws ≡ false
item_is_no_header [] item rest h = refl
item_is_no_header (a ∷ []) item rest h = and_false (a == 527)
item_is_no_header (a ∷ b ∷ []) item rest h = ap (λ c. (a == 527) && c) (and_false (b == 0x5747_414e)) ∙ and_false (a == 527)
item_is_no_header (a ∷ b ∷ c ∷ ws) item rest h = go (a == 527) refl
  where
    go : (t : Bool) → (a == 527) ≡ t → have_header (a ∷ b ∷ c ∷ ws) ≡ false
    go false e = other_first a (b ∷ c ∷ ws) e
    go true e =
        let stuck : first_item (527 ∷ b ∷ c ∷ ws) ≡ None = rw (le-leb (527 / 256) (length (b ∷ c ∷ ws)) (omega arith)) refl in
        absurd (none-some (item, rest) (sym stuck ∙ ap (λ a. first_item (a ∷ b ∷ c ∷ ws)) (sym (eqb-true a 527 e)) ∙ h))

-- the words of one item after those of others are the words of all
pub one_then : (front own : List ℕ) (items : List Item) (item : Item) → items_of front ≡ Some items → first_item own ≡ Some (item, []) → items_of (front ++ own) ≡ Some (items ++ item ∷ [])
one_then front own items item are one =
    items_then front own items are (λ _. item_is_no_header own item [] one) ∙ ap (then items) (all_step first_item item_shortens own item [] one)

-- what stands before the words after the header, if there is one: no items
pub after_front : (words : List ℕ) → (front : List ℕ) × (words ≡ front ++ after_header words) × (items_of front ≡ Some []) × (front ≡ [] → have_header words ≡ false)
after_front words = go (have_header words) refl
  where
    go : (b : Bool) → have_header words ≡ b → (front : List ℕ) × (words ≡ front ++ after_header words) × (items_of front ≡ Some []) × (front ≡ [] → have_header words ≡ false)
    go false e = ([], sym (without words e), refl, λ _. e)
    go true e =
        let is : take 3 words ≡ header = (bytes_eq-Decides (take 3 words) header).0 e in (
          header,
          sym (take-append-drop 3 words) ∙ ap (λ front. front ++ drop 3 words) is ∙ ap (λ ws. header ++ ws) (sym (ap (λ b. cond b (drop 3 words) words) e)),
          refl,
          λ none. cc,
        )

-- each word has four bytes
pub bytes_length : (ws : List ℕ) → length (bytes_in ws) ≡ 4 * length ws
bytes_length [] = refl
bytes_length (w ∷ ws) = let rest = bytes_length ws in length-append (to_le_bytes w32 w) (bytes_in ws) ∙ omega (arith, rest)

-- as many words as a text needs have its bytes
pub enough_bytes : (count : ℕ) (front : List ℕ) → length front ≡ word_count count → count ≤ length (bytes_in front)
enough_bytes count front h = let bytes = bytes_length front in omega (arith, bytes, h)

-- the text of so many bytes, if they are UTF-8
pub in_text : (count : ℕ) (bytes : List ℕ) → list_all (λ b. b == 0) (drop count bytes) ≡ true → IsUtf8 (take count bytes) → text_in count bytes ≡ Some (take count bytes)
in_text count bytes zero utf8 = rw (zero, is_utf8-from_IsUtf8 (take count bytes) utf8) refl

pub not_text : (count : ℕ) (bytes : List ℕ) → list_all (λ b. b == 0) (drop count bytes) ≡ true → ¬ (IsUtf8 (take count bytes)) → text_in count bytes ≡ None
not_text count bytes zero broken = rw (zero, false_from_ne_true (is_utf8 (take count bytes)) (λ e. broken (IsUtf8-from_is_utf8 (take count bytes) e))) refl

-- fewer words are left after a text, a name and a member of a struct
text_shortens : Shortens text_of
text_shortens ws read h = search (rules, length-drop)

name_shortens : Shortens name_of
name_shortens ws read h = search (rules, length-drop)

pub member_shortens : Shortens first_member
member_shortens ws read h =
    option_and_then_some _ (name_of ws) read h λ name is h.
    option_and_then_some _ (member_of name.0 (take 5 name.1)) read h λ member _ h.
    let few = name_shortens ws name is in
    let same = ap length (ap (λ (p : StructMember × List ℕ). p.1) (same_Some _ _ h)) in
    let long = length-drop 5 name.1 in
    omega (arith, few, same, long)
