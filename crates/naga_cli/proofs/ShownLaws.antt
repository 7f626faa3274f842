-- Rows that show the leaves to which a cursor came.
use Rattle.std.proofs.Common.{◌≡◌, ◌+◌, ◌<◌, ◌≤◌, ℕ, Bool, true, false, List, [], ◌∷◌, ◌++◌, Option, None, Some, ap, arith, if◌then◌else◌, length, length-append, map, nat_lt, refl, sym, ◌∙◌}
use Rattle.std.proofs.lemmas.List.{append-nil}
use Rattle.std.specs.List.{cons_option}
use Rattle.naga_cli.specs.Rows.{ShowLeaves, leaf_in, leaves_in, most_leaves, padding}
use Rattle.naga_cli.specs.declared.rows.LeafRow.{LeafRow}
use Rattle.naga_cli.specs.declared.rows.Row.{Row}
use Rattle.naga_ir.specs.ItemReferences.{GlobalLists}
use Rattle.naga_leaves.proofs.FoundLaws.{IsUpTo, Remains, cursor_end, cursor_first, cursor_more, cursor_start, found_at}
use Rattle.naga_leaves.specs.Cursor.{IsAtEnd, IsCursor, IsNext, YieldsAll, path_of}
use Rattle.naga_leaves.specs.Found.{Found, IsLeafOf}
use Rattle.naga_leaves.specs.declared.cursor.Leaves.{Leaves}
use Rattle.naga_typing.specs.Leaves.{LeafBytes, elements}

-- the bytes of a leaf that was found
abbrev bytes_found : Found → LeafBytes
bytes_found f = f.leaf

-- the row of a leaf
abbrev pub row_of : LeafBytes → LeafRow → Row
row_of leaf shown = record { offset = leaf.first; size = leaf.size; leaf = Some shown }

-- what may stand before a list
cons_append : (o : Option LeafBytes) (xs ys : List LeafBytes) → cons_option o (xs ++ ys) ≡ cons_option o xs ++ ys
cons_append None xs ys = refl
cons_append (Some leaf) xs ys = refl

-- the leaves of rows one after another
leaves_append : (xs ys : List Row) → leaves_in (xs ++ ys) ≡ leaves_in xs ++ leaves_in ys
leaves_append [] ys = refl
leaves_append (row ∷ xs) ys = ap (cons_option (leaf_in row)) (leaves_append xs ys) ∙ cons_append (leaf_in row) (leaves_in xs) (leaves_in ys)

-- one row of padding or none
no_leaf : (b : Bool) (offset size : ℕ) → leaves_in (if b then record { offset = offset; size = size; leaf = None } ∷ [] else []) ≡ []
no_leaf true offset size = refl
no_leaf false offset size = refl

-- padding has no leaf
padding_none : (end offset : ℕ) → leaves_in (padding end offset) ≡ []
padding_none end offset = no_leaf (nat_lt end offset) _ _

-- what `finish` adds has no leaf
ending_none : (is_cut : Bool) (end size : ℕ) → leaves_in (if is_cut then [] else padding end size) ≡ []
ending_none true end size = refl
ending_none false end size = padding_none end size

-- the bytes of one leaf more
bytes_more : (found : List Found) (f : Found) → map bytes_found (found ++ f ∷ []) ≡ map bytes_found found ++ f.leaf ∷ []
bytes_more [] f = refl
bytes_more (g ∷ found) f = ap (λ (leaves : List LeafBytes). g.leaf ∷ leaves) (bytes_more found f)

-- the bytes of a row that shows a leaf
leaf_in_row : (leaf : LeafBytes) (shown : LeafRow) → shown.alignment ≡ leaf.alignment → leaf_in (row_of leaf shown) ≡ Some leaf
leaf_in_row leaf shown same = ap (λ (alignment : ℕ). let o : Option LeafBytes = Some (record { first = leaf.first; size = leaf.size; alignment = alignment }) in o) same

-- rows behind which padding and a leaf follow
leaves_more : (rows : List Row) (end offset : ℕ) (leaf : LeafBytes) (shown : LeafRow) → shown.alignment ≡ leaf.alignment
    → leaves_in (rows ++ (padding end offset ++ row_of leaf shown ∷ [])) ≡ leaves_in rows ++ leaf ∷ []
leaves_more rows end offset leaf shown same =
    leaves_append rows (padding end offset ++ row_of leaf shown ∷ [])
    ∙ ap (λ (leaves : List LeafBytes). leaves_in rows ++ leaves)
    (leaves_append (padding end offset) (row_of leaf shown ∷ [])
    ∙ (ap (λ (leaves : List LeafBytes). leaves ++ leaves_in (row_of leaf shown ∷ [])) (padding_none end offset)
    ∙ ap (λ (o : Option LeafBytes). cons_option o []) (leaf_in_row leaf shown same)))

module _ (g : GlobalLists) (n ty : ℕ) where
  -- the rows have the first `k` leaves, after which those come to which a cursor has still to come
  pub record IsShowing (cursor : Leaves) (k : ℕ) (rows : List Row) : Type 0 where
    pub is_cursor : IsCursor cursor
    pub found : List Found
    pub up_to : IsUpTo (IsLeafOf g n ty) (Remains cursor) found
    pub as_many : length found ≡ k
    pub few : k ≤ most_leaves
    pub are : leaves_in rows ≡ map bytes_found found

  -- before the first step of a cursor there are no rows
  pub showing_start : (cursor : Leaves) (rows : List Row) → IsCursor cursor → YieldsAll g (elements g n) ty cursor → rows ≡ [] → IsShowing cursor 0 rows
  showing_start cursor rows is yields none = record {
    is_cursor = is;
    found = [];
    up_to = cursor_start g n ty cursor yields;
    as_many = refl;
    few = omega arith;
    are = ap leaves_in none;
  }

  -- the row of the next leaf follows, behind padding
  pub showing_more : (before now : Leaves) (k end : ℕ) (rows : List Row) (leaf : LeafBytes) (shown : LeafRow) → IsShowing before k rows → IsCursor now → IsNext before now leaf → k < most_leaves
      → shown.alignment ≡ leaf.alignment → IsShowing now (k + 1) (rows ++ (padding end leaf.first ++ row_of leaf shown ∷ []))
  showing_more before now k end rows leaf shown s is next few same = record {
    is_cursor = is;
    found = s.found ++ found_at (path_of now) leaf ∷ [];
    up_to = cursor_more g n ty before now s.found leaf s.up_to next;
    as_many = let e : length (s.found ++ found_at (path_of now) leaf ∷ []) ≡ length s.found + 1 = simp length-append in omega (arith, e, s.as_many);
    few = omega (arith, few);
    are = leaves_more rows end leaf.first leaf shown same ∙ (ap (λ (leaves : List LeafBytes). leaves ++ leaf ∷ []) s.are ∙ sym (bytes_more s.found (found_at (path_of now) leaf)));
  }

  -- no leaf is left
  pub showing_done : (before now : Leaves) (k : ℕ) (rows : List Row) → IsShowing before k rows → IsAtEnd before now → ShowLeaves g n ty false rows
  showing_done before now k rows s end = record {
    found = s.found;
    are = s.are;
    whole = λ e. (cursor_end g n ty before now s.found s.up_to end, omega (arith, s.as_many, s.few));
    cut = λ (e : false ≡ true). cc;
  }

  -- as many are shown as may be, and one more is left
  pub showing_cut : (before now : Leaves) (k : ℕ) (rows : List Row) (leaf : LeafBytes) → IsShowing before k rows → IsNext before now leaf → k ≡ most_leaves → ShowLeaves g n ty true rows
  showing_cut before now k rows leaf s next full = record {
    found = s.found;
    are = s.are;
    whole = λ (e : true ≡ false). cc;
    cut = λ e. record { as_many = s.as_many ∙ full; next = found_at (path_of now) leaf; first = cursor_first g n ty before now s.found leaf s.up_to next };
  }

  -- padding behind them changes nothing
  pub shown_finished : (is_cut : Bool) (rows : List Row) (end size : ℕ) → ShowLeaves g n ty is_cut rows → ShowLeaves g n ty is_cut (rows ++ (if is_cut then [] else padding end size))
  shown_finished is_cut rows end size s = record {
    found = s.found;
    are = leaves_append rows (if is_cut then [] else padding end size) ∙ (ap (λ (leaves : List LeafBytes). leaves_in rows ++ leaves) (ending_none is_cut end size) ∙ (append-nil (leaves_in rows) ∙ s.are));
    whole = s.whole;
    cut = s.cut;
  }
