-- Leaves that a cursor comes to, one after another.
use Rattle.std.proofs.Common.{◌≡◌, ◌≢◌, ◌⊎◌, ℕ, suc, Bool, true, false, List, [], ◌∷◌, ◌++◌, ap, arith, inl, inr, refl, subst, sym, ◌∙◌}
use Rattle.std.specs.Bool.{Decides}
use Rattle.std.specs.List.{All, AllPairs, Contains}
use Rattle.std.proofs.lemmas.List.Elements.{All-push, All-nil, Contains-append_left, Contains-append_right}
use Rattle.std.proofs.lemmas.List.Kept.{AllPairs-cons}
use Rattle.std.proofs.lemmas.Option.{same_Some}
use Rattle.std.proofs.lemmas.Slice.Eq.{bytes_eq-Decides}
use mathlib.Core.Logic.{⊎_elim}
use Rattle.naga_ir.specs.ItemReferences.{GlobalLists}
use Rattle.naga_leaves.specs.Cursor.{IsAtEnd, IsNext, IsOverSame, IsRemaining, YieldsAll, elements_for, lists_under, path_of, start_of}
use Rattle.naga_leaves.specs.Found.{AreAll, AreFirst, ComesAfter, Found, IsLeafOf}
use Rattle.naga_leaves.specs.LeavesFrom.{HasLeafFrom}
use Rattle.naga_leaves.specs.Order.{IsAtOrAfter}
use Rattle.naga_leaves.specs.declared.cursor.Leaves.{Leaves}
use Rattle.naga_typing.specs.Leaves.{LeafBytes, elements, leaf_at}

-- a test that decides says which
decided : {P : Type 0} (b : Bool) → Decides b P → P ⊎ ¬ P
decided true d = inl (d.0 refl)
decided false d = inr (λ p. let e : false ≡ true = d.1 p in cc)

-- two paths are the same, or not
same_or_not : (p q : List ℕ) → (p ≡ q) ⊎ (p ≢ q)
same_or_not p q = decided _ (bytes_eq-Decides p q)

-- pairs of a list and of one more
pairs_push : {X : Type 0} (R : X → X → Type 0) (xs : List X) (x : X) → AllPairs R xs → All (λ y. R y x) xs → AllPairs R (xs ++ x ∷ [])
pairs_push R [] x h a = λ i j d lt within. absurd (omega arith)
pairs_push R (y ∷ xs) x h a =
    AllPairs-cons R y (xs ++ x ∷ []) (All-push (R y) xs x (λ k d lt. h 0 (suc k) d (omega arith) (omega arith)) (a 0 y (omega arith)))
    (pairs_push R xs x (λ i j d lt within. h (suc i) (suc j) d (omega arith) (omega arith)) (λ k d lt. a (suc k) d (omega arith)))

module _ (IsLeaf : Found → Type 0) where
  -- leaves were found up to a place: those of which `Remains` holds are left, and come after all that were found
  pub record IsUpTo (Remains : Found → Type 0) (found : List Found) : Type 0 where
    pub leaves : All IsLeaf found
    pub in_order : AllPairs ComesAfter found
    pub left : (other : Found) → IsLeaf other → Contains found other ⊎ Remains other
    pub later : (other : Found) → Remains other → IsLeaf other × All (λ f. ComesAfter f other) found

  -- before the first all are left
  pub from_start : (Remains : Found → Type 0) → ((f : Found) → IsLeaf f → Remains f) → ((f : Found) → Remains f → IsLeaf f) → IsUpTo Remains []
  from_start Remains all only = record {
    leaves = All-nil IsLeaf;
    in_order = λ i j d lt within. absurd (omega arith);
    left = λ f h. inr (all f h);
    later = λ f r. (only f r, All-nil (λ g. ComesAfter g f));
  }

  -- what was found so far is first
  pub are_first : (Remains : Found → Type 0) (found : List Found) → IsUpTo Remains found → AreFirst IsLeaf found
  are_first Remains found u = record {
    leaves = u.leaves;
    in_order = u.in_order;
    first = λ f h. ⊎_elim (λ (c : Contains found f). inl c) (λ (r : Remains f). inr (u.later f r).1) (u.left f h);
  }

  -- if none is left, all were found
  pub are_all : (Remains : Found → Type 0) (found : List Found) → IsUpTo Remains found → ((f : Found) → Remains f → ⊥) → AreAll IsLeaf found
  are_all Remains found u none = record {
    first = are_first Remains found u;
    all = λ f h. ⊎_elim (λ (c : Contains found f). c) (λ (r : Remains f). absurd (none f r)) (u.left f h);
  }

  -- the first of those that are left is found, and those after it are left then
  pub one_more : (Remains Later : Found → Type 0) (found : List Found) (next : Found) → IsUpTo Remains found → Remains next
      → ((f : Found) → Remains f → IsAtOrAfter next.path f.path) → ((f : Found) → Remains f → f.path ≢ next.path → Later f) → ((f : Found) → Later f → Remains f × (f.path ≢ next.path))
      → ((f : Found) → IsLeaf f → f.path ≡ next.path → next ≡ f) → IsUpTo Later (found ++ next ∷ [])
  one_more Remains Later found next u there first others no_more same =
      let is_next = u.later next there in
      record {
        leaves = All-push IsLeaf found next u.leaves is_next.0;
        in_order = pairs_push ComesAfter found next u.in_order is_next.1;
        left = λ f h. ⊎_elim (λ (c : Contains found f). inl (Contains-append_left found (next ∷ []) f c))
            (λ (r : Remains f). ⊎_elim (λ (e : f.path ≡ next.path). inl (Contains-append_right found (next ∷ []) f (0, omega arith, same f h e))) (λ (ne : f.path ≢ next.path). inr (others f r ne)) (same_or_not f.path next.path))
            (u.left f h);
        later = λ f l.
            let r = no_more f l in
            let is = u.later f r.0 in
            (is.0, All-push (λ g. ComesAfter g f) found next is.1 (first f r.0, λ e. r.1 (sym e)));
      }

-- a cursor has still to come to a leaf
abbrev pub Remains : Leaves → Found → Type 0
Remains cursor f = IsRemaining cursor f.path f.leaf

-- a leaf at a path
abbrev pub found_at : List ℕ → LeafBytes → Found
found_at path leaf = record { path = path; leaf = leaf }

module _ (before now : Leaves) (over : IsOverSame before now) (start path : List ℕ) (leaf : LeafBytes) where
  -- what is a leaf for a cursor is one for a cursor that goes over the same
  same_then : HasLeafFrom (lists_under before) (elements_for before) before.place.ty start path leaf → HasLeafFrom (lists_under now) (elements_for now) now.place.ty start path leaf
  same_then h =
      subst (λ (t : ℕ). HasLeafFrom (lists_under now) (elements_for now) t start path leaf) (sym over.ty)
      (subst (λ (n : ℕ). HasLeafFrom (lists_under now) (elements (lists_under now) n) before.place.ty start path leaf) (sym over.length)
      (subst (λ (g : GlobalLists). HasLeafFrom g (elements g before.length) before.place.ty start path leaf) (sym over.lists) h))

  -- and the other way round
  same_before : HasLeafFrom (lists_under now) (elements_for now) now.place.ty start path leaf → HasLeafFrom (lists_under before) (elements_for before) before.place.ty start path leaf
  same_before h =
      subst (λ (g : GlobalLists). HasLeafFrom g (elements g before.length) before.place.ty start path leaf) over.lists
      (subst (λ (n : ℕ). HasLeafFrom (lists_under now) (elements (lists_under now) n) before.place.ty start path leaf) over.length
      (subst (λ (t : ℕ). HasLeafFrom (lists_under now) (elements_for now) t start path leaf) over.ty h))

module _ (g : GlobalLists) (n t : ℕ) where
  -- before its first step a cursor found none
  pub cursor_start : (cursor : Leaves) → YieldsAll g (elements g n) t cursor → IsUpTo (IsLeafOf g n t) (Remains cursor) []
  cursor_start cursor yields = from_start (IsLeafOf g n t) (Remains cursor) (λ f h. yields.all f.path f.leaf h) (λ f r. yields.only f.path f.leaf r)

  -- a cursor came to one leaf more
  pub cursor_more : (before now : Leaves) (found : List Found) (leaf : LeafBytes) → IsUpTo (IsLeafOf g n t) (Remains before) found → IsNext before now leaf
      → IsUpTo (IsLeafOf g n t) (Remains now) (found ++ found_at (path_of now) leaf ∷ [])
  cursor_more before now found leaf u next =
      one_more (IsLeafOf g n t) (Remains before) (Remains now) found (found_at (path_of now) leaf) u next.first.has
      (λ f r. next.first.first f.path f.leaf r)
      (λ f r ne. same_then before now next.over (start_of now) f.path f.leaf (next.first.others f.path f.leaf r ne))
      (λ f l. next.first.no_more f.path f.leaf (same_before before now next.over (start_of now) f.path f.leaf l))
      (λ f h e.
      let here = (u.later (found_at (path_of now) leaf) next.first.has).0 in
      let same : leaf ≡ f.leaf = same_Some leaf f.leaf (sym here.there ∙ (ap (λ (p : List ℕ). leaf_at g (elements g n) t p) (sym e) ∙ h.there)) in
      ap (λ (p : List ℕ). found_at p leaf) (sym e) ∙ ap (λ (l : LeafBytes). found_at f.path l) same)

  -- a cursor that has no leaf left found all
  pub cursor_end : (before now : Leaves) (found : List Found) → IsUpTo (IsLeafOf g n t) (Remains before) found → IsAtEnd before now → AreAll (IsLeafOf g n t) found
  cursor_end before now found u end = are_all (IsLeafOf g n t) (Remains before) found u (λ f r. end.none f.path f.leaf r)

  -- what a cursor found so far is first, with the next leaf too
  pub cursor_first : (before now : Leaves) (found : List Found) (leaf : LeafBytes) → IsUpTo (IsLeafOf g n t) (Remains before) found → IsNext before now leaf
      → AreFirst (IsLeafOf g n t) (found ++ found_at (path_of now) leaf ∷ [])
  cursor_first before now found leaf u next = are_first (IsLeafOf g n t) (Remains now) (found ++ found_at (path_of now) leaf ∷ []) (cursor_more before now found leaf u next)
