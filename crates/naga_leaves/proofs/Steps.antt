-- Steps from place to place.
use Rattle.std.proofs.Common.{◌≡◌, ◌+◌, ◌<◌, ◌≤◌, ⊎_elim, ℕ, suc, List, [], ◌∷◌, ◌++◌, Option, Some, None, IfSome, All, get_or, length, take, refl, sym, subst, ap, ◌∙◌, arith}
use Rattle.std.specs.Option.{option_map}
use Rattle.std.proofs.Math.Seq.{take-length}
use Rattle.std.proofs.lemmas.Bool.{cases_lt}
use Rattle.std.proofs.lemmas.List.{append-nil, append_assoc, take_more}
use Rattle.std.proofs.lemmas.List.Elements.{All-contains, Contains-append_right}
use Rattle.std.proofs.lemmas.Option.{none-some}
use Rattle.naga_arena.specs.Numbers.{largest_u32, largest_u64}
use Rattle.naga_ir.specs.Handles.{GlobalReferencesOk}
use Rattle.naga_ir.specs.ItemReferences.{GlobalLists}
use Rattle.naga_leaves.proofs.Order.{Extends, Past, extends_or_past, from_below, from_extension, from_itself, from_lesser, from_own, past_from, past_next, to_extension}
use Rattle.naga_leaves.proofs.Path.{moved_begins, moved_twice}
use Rattle.naga_leaves.proofs.Places.{are_indexes, around_of, as_many, back, leaf_at_none, leaf_at_part, leaf_in_place, no_end, none_of_type_after, part_precedes, part_there, same_ends}
use Rattle.naga_leaves.proofs.Weights.{outer_more, entering, later, leaving, passing}
use Rattle.naga_leaves.specs.HasLeaves.{HasNoLeaf}
use Rattle.naga_leaves.specs.LeavesFrom.{HasLeafFrom, HasNoneFrom, HasSameFrom, IsFirstLeaf}
use Rattle.naga_leaves.specs.Order.{IsAtOrAfter}
use Rattle.naga_leaves.specs.declared.cursor.Place.{Place}
use Rattle.naga_leaves.specs.declared.cursor.Step.{Step}
use Rattle.naga_leaves.specs.declared.cursor.Step.TheVariants.{Leaf, Other, End}
use Rattle.naga_leaves.specs.steps.Steps.{HasNoLeafBefore, HasNoLeafFrom, IsFollowing, IsIndexAfter, IsTurned, Leaves, Skips, Steps}
use Rattle.naga_leaves.specs.declared.leaf.Part.{Part}
use Rattle.naga_leaves.specs.Places.{IsEntered, IsLeft, IsPlace, IsUnmoved, LeadsTo, outer_left, further, part_left, part_of_type, place_left, place_start}
use Rattle.naga_typing.specs.Leaves as spec
use Rattle.naga_typing.specs.Leaves.{Elements, LeafBytes, leaf_at, moved}

-- an index within a path
index_within : (P : ℕ → Type 0) (path : List ℕ) (i : ℕ) (rest : List ℕ) → All P (path ++ i ∷ rest) → P i
index_within P path i rest all = All-contains P (path ++ i ∷ rest) i all (Contains-append_right path (i ∷ rest) i (0, omega arith, refl))

module _ (g : GlobalLists) (elements_of : Elements) (t : ℕ) where
  abbrev LeafAt : List ℕ → Option LeafBytes
  LeafAt = leaf_at g elements_of t

  -- if there is no leaf at a path, the leaves from it on are the leaves from its extensions on
  pub past_none : (b : List ℕ) → leaf_at g elements_of t b ≡ None → HasSameFrom g elements_of t b (b ++ 0 ∷ [])
  past_none b none = record {
    into = λ q l h. record { has = h.has; after = to_extension b q h.after (λ e. none-some l (sym (ap (leaf_at g elements_of t) e ∙ none) ∙ h.has.there)) };
    back = λ q l h. record { has = h.has; after = (from_extension b q h.after).0 };
  }

  -- if there is one, it is the first
  pub first_is : (b : List ℕ) (l : LeafBytes) → leaf_at g elements_of t b ≡ Some l → l.first ≤ largest_u64 → All (λ i. i ≤ largest_u32) b → IsFirstLeaf g elements_of t b b (b ++ 0 ∷ []) l
  first_is b l there begins indexes = record {
    has = record { has = record { there = there; begins = begins; indexes = indexes }; after = from_itself b };
    first = λ q k h. h.after;
    others = λ q k h other. record { has = h.has; after = to_extension b q h.after other };
    no_more = λ q k h. let w = from_extension b q h.after in (record { has = h.has; after = w.0 }, w.1);
  }

  -- parts whose leaves all begin past all numbers may be passed
  pub past_far : (p : List ℕ) (n m : ℕ) → n ≤ m → ((k : ℕ) (rest : List ℕ) → n ≤ k → k < m → IfSome (leaf_at g elements_of t (p ++ k ∷ rest)) (λ leaf. largest_u64 < leaf.first))
      → HasSameFrom g elements_of t (p ++ n ∷ []) (p ++ m ∷ [])
  past_far p n m le far = record {
    into = λ q l h. record { has = h.has; after = ⊎_elim (λ (e : Extends p q n). extended q l h e) (λ (a : Past p q). past_from p q m a) (extends_or_past p q n h.after) };
    back = λ q l h. record { has = h.has; after = from_lesser p q n m le h.after };
  }
    where
      too_far : (q : List ℕ) (l : LeafBytes) → HasLeafFrom g elements_of t (p ++ n ∷ []) q l → (e : Extends p q n) → e.index < m → ⊥
      too_far q l h e below =
          let there : leaf_at g elements_of t (p ++ e.index ∷ e.rest) ≡ Some l = ap (leaf_at g elements_of t) (sym e.is) ∙ h.has.there in
          let past : largest_u64 < l.first = subst (λ (o : Option LeafBytes). IfSome o (λ leaf. largest_u64 < leaf.first)) there (far e.index e.rest e.from below) in
          let begins : l.first ≤ largest_u64 = h.has.begins in omega arith

      extended : (q : List ℕ) (l : LeafBytes) → HasLeafFrom g elements_of t (p ++ n ∷ []) q l → Extends p q n → IsAtOrAfter (p ++ m ∷ []) q
      extended q l h e =
          ⊎_elim (λ (below : e.index < m). absurd (too_far q l h e below))
          (λ (from : m ≤ e.index). subst (IsAtOrAfter (p ++ m ∷ [])) (sym e.is) (from_lesser p (p ++ e.index ∷ e.rest) m e.index from (from_own p e.index e.rest)))
          (cases_lt e.index m)

  -- the leaves at an index, moved, begin past all numbers
  abbrev pub IsFar : ℕ → ℕ → Type 0
  IsFar by i = (rest : List ℕ) → IfSome (option_map (moved by) (leaf_at g elements_of t (i ∷ rest))) (λ leaf. largest_u64 < leaf.first)

  -- a part that begins past all numbers is far, and a part without leaves is
  pub far_part : (by i : ℕ) (child : spec.Part) → part_of_type g elements_of t i ≡ Some child → largest_u64 < by + child.first → IsFar by i
  far_part by i child at far rest =
      subst (λ (o : Option LeafBytes). IfSome o (λ leaf. largest_u64 < leaf.first))
      (sym (ap (option_map (moved by)) (leaf_at_part g elements_of t i rest child at) ∙ moved_twice by child.first (leaf_at g elements_of child.ty rest)))
      (moved_begins (by + child.first) (leaf_at g elements_of child.ty rest) far)

  -- parts that are like a far part, and come after it, are far
  pub far_alike : (by i next : ℕ) → IsIndexAfter g elements_of t i next → IsFar by i → (k : ℕ) → i ≤ k → k < next → IsFar by k
  far_alike by i next after is k from below rest = at (part_of_type g elements_of t k) refl
    where
      later : (a b : ℕ) (o : Option LeafBytes) → a ≤ b → IfSome (option_map (moved by) (option_map (moved a) o)) (λ leaf. largest_u64 < leaf.first)
          → IfSome (option_map (moved by) (option_map (moved b) o)) (λ leaf. largest_u64 < leaf.first)
      later a b None le h = tt
      later a b (Some leaf) le h = omega arith

      at : (o : Option spec.Part) → part_of_type g elements_of t k ≡ o → IfSome (option_map (moved by) (leaf_at g elements_of t (k ∷ rest))) (λ leaf. largest_u64 < leaf.first)
      at None none = subst (λ (o : Option LeafBytes). IfSome (option_map (moved by) o) (λ leaf. largest_u64 < leaf.first)) (sym (leaf_at_none g elements_of t k rest none)) tt
      at (Some part) there =
          let w = after.alike k part from below there in
          let first : IfSome (option_map (moved by) (option_map (moved w.0.first) (leaf_at g elements_of w.0.ty rest))) (λ leaf. largest_u64 < leaf.first) =
          subst (λ (o : Option LeafBytes). IfSome (option_map (moved by) o) (λ leaf. largest_u64 < leaf.first)) (leaf_at_part g elements_of t i rest w.0 w.1) (is rest) in
          let same : IfSome (option_map (moved by) (option_map (moved w.0.first) (leaf_at g elements_of part.ty rest))) (λ leaf. largest_u64 < leaf.first) =
          subst (λ (ty : ℕ). IfSome (option_map (moved by) (option_map (moved w.0.first) (leaf_at g elements_of ty rest))) (λ leaf. largest_u64 < leaf.first)) w.2 first in
          subst (λ (o : Option LeafBytes). IfSome (option_map (moved by) o) (λ leaf. largest_u64 < leaf.first)) (sym (leaf_at_part g elements_of t k rest part there))
          (later w.0.first part.first (leaf_at g elements_of part.ty rest) w.3 same)

  module _ (p : List ℕ) (n : ℕ) (none : (m : ℕ) (rest : List ℕ) → n ≤ m → m ≤ largest_u32 → leaf_at g elements_of t (p ++ m ∷ rest) ≡ None) where
    not_extended : (q : List ℕ) (l : LeafBytes) → HasLeafFrom g elements_of t (p ++ n ∷ []) q l → Extends p q n → ⊥
    not_extended q l h e =
        let fits : e.index ≤ largest_u32 = index_within (λ i. i ≤ largest_u32) p e.index e.rest (subst (All (λ i. i ≤ largest_u32)) e.is h.has.indexes) in
        none-some l (sym (ap (leaf_at g elements_of t) e.is ∙ none e.index e.rest e.from fits) ∙ h.has.there)

    is_past : (q : List ℕ) (l : LeafBytes) → HasLeafFrom g elements_of t (p ++ n ∷ []) q l → Past p q
    is_past q l h = ⊎_elim (λ (e : Extends p q n). absurd (not_extended q l h e)) (λ (a : Past p q). a) (extends_or_past p q n h.after)

    -- a part that has no more leaves may be left
    pub past_part : (r : List ℕ) (i : ℕ) → p ≡ r ++ i ∷ [] → HasSameFrom g elements_of t (p ++ n ∷ []) (r ++ (i + 1) ∷ [])
    past_part r i e = record {
      into = λ q l h. record { has = h.has; after = past_next r q i (subst (λ p. Past p q) e (is_past q l h)) };
      back = λ q l h. record { has = h.has; after = subst (λ p. IsAtOrAfter (p ++ n ∷ []) q) (sym e) (from_below r q i n h.after) };
    }

    -- the same leaves are left from any later index of a part that has no more leaves
    pub past_rest : (m : ℕ) → n ≤ m → HasSameFrom g elements_of t (p ++ n ∷ []) (p ++ m ∷ [])
    past_rest m le = record {
      into = λ q l h. record { has = h.has; after = past_from p q m (is_past q l h) };
      back = λ q l h. record { has = h.has; after = from_lesser p q n m le h.after };
    }

    -- nothing is left at the whole
    pub none_left : p ≡ [] → HasNoneFrom g elements_of t (p ++ n ∷ [])
    none_left e q l h = subst (λ p. Past p q) e (is_past q l h)

-- the same leaves are left after one step and the next as after both
pub then_same : (g : GlobalLists) (elements_of : Elements) (t : ℕ) (a b : List ℕ) → HasSameFrom g elements_of t a b
    → (c : List ℕ) → HasSameFrom g elements_of t b c → HasSameFrom g elements_of t a c
then_same g elements_of t a b same c next = record {
  into = λ q l h. next.into q l (same.into q l h);
  back = λ q l h. same.back q l (next.back q l h);
}

-- where no leaf is passed, the same are left
pub no_leaf_passed : (g : GlobalLists) (elements_of : Elements) (t : ℕ) (a : List ℕ) → HasSameFrom g elements_of t a a
no_leaf_passed g elements_of t a = record { into = λ q l h. h; back = λ q l h. h }

-- a step led to a part, of which nothing is visited, and past no leaf
pub record Arrives (g : GlobalLists) (elements_of : Elements) (before now : Place) : Type 0 where
  pub ty : now.ty ≡ before.ty
  pub place : IsPlace g elements_of now
  pub same : HasSameFrom g elements_of before.ty (place_start before) now.path.items
  pub next : now.next ≡ 0
  pub fewer : place_left now < place_left before

-- a list is its last and those before it
last_apart : {A : Type 0} (xs : List A) (n : ℕ) (x : A) → length xs ≡ n + 1 → x ≡ get_or xs n x → xs ≡ take n xs ++ x ∷ []
last_apart xs n x many is =
    sym (take-length xs) ∙ ap (λ k. take k xs) many ∙ take_more xs n x (omega arith) ∙ ap (λ y. take n xs ++ y ∷ []) (sym is)

-- what is last in a list is the end of it
pub end_is : {A : Type 0} (xs ys : List A) (n : ℕ) (x y : A) → length xs ≡ n + 1 → x ≡ get_or xs n x → xs ≡ ys ++ y ∷ [] → x ≡ y
end_is xs ys n x y many is e = (same_ends (take n xs) ys x y (sym (last_apart xs n x many is) ∙ e)).1

-- two paths of equal parts are equal
pub same_start : (p q : List ℕ) (m n : ℕ) → p ≡ q → m ≡ n → p ++ m ∷ [] ≡ q ++ n ∷ []
same_start p q m n e f = ap (λ p. p ++ m ∷ []) e ∙ ap (λ m. q ++ m ∷ []) f

module _ (g : GlobalLists) (elements_of : Elements) (place : Place) (t : ℕ) (outer : List Part) (path : List ℕ) (part : Part) (next : ℕ)
    (ty_is : place.ty ≡ t) (outer_is : place.outer.items ≡ outer) (path_is : place.path.items ≡ path) (part_is : place.part ≡ part) (next_is : place.next ≡ next) where
  -- a place by its parts
  pub place_by : t < length g.types → LeadsTo g elements_of t outer path part → next ≤ suc largest_u32 → IsPlace g elements_of place
  place_by there leads within = record {
    exists = subst (λ t. t < length g.types) (sym ty_is) there;
    leads =
        subst (λ t. LeadsTo g elements_of t place.outer.items place.path.items place.part) (sym ty_is)
        (subst (λ a. LeadsTo g elements_of t a place.path.items place.part) (sym outer_is)
        (subst (λ p. LeadsTo g elements_of t outer p place.part) (sym path_is)
        (subst (λ q. LeadsTo g elements_of t outer path q) (sym part_is) leads)));
    next = subst (λ n. n ≤ suc largest_u32) (sym next_is) within;
  }

  pub start_by : place_start place ≡ path ++ next ∷ []
  start_by = same_start place.path.items path place.next next path_is next_is

  pub left_by : place_left place ≡ outer_left outer path + part_left part.ty next
  left_by =
      ap (λ a. outer_left a place.path.items + part_left place.part.ty place.next) outer_is
      ∙ ap (λ p. outer_left outer p + part_left place.part.ty place.next) path_is
      ∙ ap (λ (q : Part). outer_left outer path + part_left q.ty place.next) part_is
      ∙ ap (λ n. outer_left outer path + part_left part.ty n) next_is

module _ (g : GlobalLists) (ok : GlobalReferencesOk g) (elements_of : Elements) (before : Place) (is : IsPlace g elements_of before) where
  -- the type of the part exists
  pub type_there : before.part.ty < length g.types
  type_there = part_there g elements_of before.ty ok is.exists before.outer.items before.path.items before.part is.leads

  pub same_lengths : length before.outer.items ≡ length before.path.items
  same_lengths = as_many g elements_of before.ty before.outer.items before.path.items before.part is.leads

  -- the leaf at the place is its part, if that is one
  pub leaf_here : leaf_at g elements_of before.ty before.path.items ≡ option_map (moved before.part.first) (leaf_at g elements_of before.part.ty [])
  leaf_here =
      ap (leaf_at g elements_of before.ty) (sym (append-nil before.path.items))
      ∙ leaf_in_place g elements_of before.ty before.outer.items before.path.items before.part is.leads []

  pub indexes_here : All (λ i. i ≤ largest_u32) before.path.items
  indexes_here = are_indexes g elements_of before.ty before.outer.items before.path.items before.part is.leads

  -- the last index of the path leads from the last part around
  module _ (n : ℕ) (around : Part) (last : ℕ) (many : length before.path.items ≡ n + 1) (around_is : around ≡ get_or before.outer.items n around) (last_is : last ≡ get_or before.path.items n last) where
    outer_split : before.outer.items ≡ take n before.outer.items ++ around ∷ []
    outer_split = last_apart before.outer.items n around (same_lengths ∙ many) around_is

    path_split : before.path.items ≡ take n before.path.items ++ last ∷ []
    path_split = last_apart before.path.items n last many last_is

    pub around_there : around.ty < length g.types
    around_there =
        part_there g elements_of before.ty ok is.exists (take n before.outer.items) (take n before.path.items) around
        (back g elements_of before.ty before.outer.items before.path.items before.part is.leads (take n before.outer.items) (take n before.path.items) around last outer_split path_split).0

    pub follows_it : (index : ℕ) (part : Part) (child : spec.Part) → index ≡ last + 1 → index ≤ largest_u32 → part_of_type g elements_of around.ty index ≡ Some child
        → part ≡ record { ty = child.ty; first = around.first + child.first } → part.first ≤ largest_u64 → IsFollowing g elements_of before index part
    follows_it index part child index_is within there part_is begins = record {
      outer = take n before.outer.items;
      path = take n before.path.items;
      around = around;
      last = last;
      child = child;
      outer_is = outer_split;
      path_is = path_split;
      index_is = index_is;
      within = within;
      there = there;
      part_is = part_is;
      begins = begins;
    }

    last_around : LeadsTo g elements_of before.ty (take n before.outer.items) (take n before.path.items) around × (last ≤ largest_u32)
    last_around =
        back g elements_of before.ty before.outer.items before.path.items before.part is.leads (take n before.outer.items) (take n before.path.items) around last outer_split path_split

    -- the leaves of the parts around it, at an index and a path
    in_around : (m : ℕ) (rest : List ℕ) → leaf_at g elements_of before.ty (take n before.path.items ++ m ∷ rest) ≡ option_map (moved around.first) (leaf_at g elements_of around.ty (m ∷ rest))
    in_around m rest = leaf_in_place g elements_of before.ty (take n before.outer.items) (take n before.path.items) around last_around.0 (m ∷ rest)

    has_no_leaf_before : (next : ℕ) → last + 1 ≤ next → next ≤ suc largest_u32
        → HasSameFrom g elements_of before.ty (take n before.path.items ++ (last + 1) ∷ []) (take n before.path.items ++ next ∷ []) → HasNoLeafBefore g elements_of before next
    has_no_leaf_before next from within same path i e =
        let ends = same_ends (take n before.path.items) path last i (sym path_split ∙ e) in (
          subst (λ i. i + 1 ≤ next) ends.1 from,
          within,
          subst (λ i. HasSameFrom g elements_of before.ty (path ++ (i + 1) ∷ []) (path ++ next ∷ [])) ends.1
              (subst (λ p. HasSameFrom g elements_of before.ty (p ++ (last + 1) ∷ []) (p ++ next ∷ [])) ends.0 same),
        )

    -- no leaf follows if no index of 32 bits does
    pub no_index_follows : largest_u32 ≤ last → HasNoLeafBefore g elements_of before (suc largest_u32)
    no_index_follows most =
        let within : last ≤ largest_u32 = last_around.1 in
        let same : last + 1 ≡ suc largest_u32 = omega arith in
        has_no_leaf_before (suc largest_u32) (omega arith) (omega arith)
        (subst (λ k. HasSameFrom g elements_of before.ty (take n before.path.items ++ (last + 1) ∷ []) (take n before.path.items ++ k ∷ [])) same
        (no_leaf_passed g elements_of before.ty (take n before.path.items ++ (last + 1) ∷ [])))

    module _ (index : ℕ) (index_is : index ≡ last + 1) where
      skips_to : (next : ℕ) → index ≤ next → next ≤ suc largest_u32
          → HasSameFrom g elements_of before.ty (take n before.path.items ++ index ∷ []) (take n before.path.items ++ next ∷ []) → HasNoLeafBefore g elements_of before next
      skips_to next from within same =
          has_no_leaf_before next (omega arith) within (subst (λ k. HasSameFrom g elements_of before.ty (take n before.path.items ++ k ∷ []) (take n before.path.items ++ next ∷ [])) index_is same)

      -- no leaf follows if no part does
      pub no_part_follows : part_of_type g elements_of around.ty index ≡ None → HasNoLeafBefore g elements_of before (suc largest_u32)
      no_part_follows none =
          let within : last ≤ largest_u32 = last_around.1 in
          skips_to (suc largest_u32) (omega arith) (omega arith)
          (past_rest g elements_of before.ty (take n before.path.items) index
          (λ m rest from below. in_around m rest ∙ ap (option_map (moved around.first)) (leaf_at_none g elements_of around.ty m rest (none_of_type_after g elements_of around.ty index m none from)))
          (suc largest_u32) (omega arith))

      -- no leaf is in a part that begins past all numbers of 64 bits, nor in those after it that are alike
      pub far_part_follows : (child : spec.Part) (next : ℕ) → part_of_type g elements_of around.ty index ≡ Some child → largest_u64 < around.first + child.first
          → IsIndexAfter g elements_of around.ty index next → HasNoLeafBefore g elements_of before next
      far_part_follows child next at far after =
          let above : index < next = after.above in
          skips_to next (omega arith) after.within
          (past_far g elements_of before.ty (take n before.path.items) index next (omega arith)
          (λ k rest from below. subst (λ (o : Option LeafBytes). IfSome o (λ leaf. largest_u64 < leaf.first)) (sym (in_around k rest))
          (far_alike g elements_of around.ty around.first index next after (far_part g elements_of around.ty around.first index child at far) k from below rest)))

  -- no leaf is in a part without leaves, nor in those after it that are alike
  pub no_leaf_skipped : HasNoLeaf g elements_of before.part.ty → (next : ℕ)
      → ((outer : List Part) (around : Part) (path : List ℕ) (last : ℕ) → before.outer.items ≡ outer ++ around ∷ [] → before.path.items ≡ path ++ last ∷ [] → IsIndexAfter g elements_of around.ty last next)
      → HasNoLeafBefore g elements_of before next
  no_leaf_skipped none next after path last path_is =
      let a = around_of g elements_of before.ty before.outer.items before.path.items before.part is.leads path last path_is in
      let around_leads = back g elements_of before.ty before.outer.items before.path.items before.part is.leads a.0 path a.1 last a.2 path_is in
      let follows : IsIndexAfter g elements_of a.1.ty last next = after a.0 a.1 path last a.2 path_is in
      let above : last < next = follows.above in
      let around_leaf = leaf_in_place g elements_of before.ty a.0 path a.1 around_leads.0 in
      let far : IsFar g elements_of a.1.ty a.1.first last =
      λ rest. subst (λ (o : Option LeafBytes). IfSome o (λ leaf. largest_u64 < leaf.first)) (sym (sym (around_leaf (last ∷ rest)) ∙ no_leaf_here path last path_is rest)) tt in (
        omega arith,
        follows.within,
        past_far g elements_of before.ty path (last + 1) next (omega arith)
            (λ k rest from below. subst (λ (o : Option LeafBytes). IfSome o (λ leaf. largest_u64 < leaf.first)) (sym (around_leaf (k ∷ rest)))
            (far_alike g elements_of a.1.ty a.1.first last next follows far k (omega arith) below rest)),
      )
    where
      no_leaf_here : (path : List ℕ) (last : ℕ) → before.path.items ≡ path ++ last ∷ [] → (rest : List ℕ) → leaf_at g elements_of before.ty (path ++ last ∷ rest) ≡ None
      no_leaf_here path last path_is rest =
          ap (leaf_at g elements_of before.ty) (sym (append_assoc path (last ∷ []) rest))
          ∙ ap (λ p. leaf_at g elements_of before.ty (p ++ rest)) (sym path_is)
          ∙ leaf_in_place g elements_of before.ty before.outer.items before.path.items before.part is.leads rest
          ∙ ap (option_map (moved before.part.first)) (none rest)

  -- nothing is around the whole
  pub nothing_around : (next : ℕ) → before.path.items ≡ [] → HasNoLeafBefore g elements_of before next
  nothing_around next empty path i e = absurd (no_end path i (sym empty ∙ e))

  module _ (none : HasNoLeafFrom g elements_of before.part.ty before.next) where
    no_leaf : (m : ℕ) (rest : List ℕ) → before.next ≤ m → m ≤ largest_u32 → leaf_at g elements_of before.ty (before.path.items ++ m ∷ rest) ≡ None
    no_leaf m rest from within =
        leaf_in_place g elements_of before.ty before.outer.items before.path.items before.part is.leads (m ∷ rest)
        ∙ ap (option_map (moved before.part.first)) (none m rest from within)

    pub rest_same : (m : ℕ) → before.next ≤ m → HasSameFrom g elements_of before.ty (place_start before) (before.path.items ++ m ∷ [])
    rest_same m le = past_rest g elements_of before.ty before.path.items before.next no_leaf m le

    pub at_end : before.path.items ≡ [] → HasNoneFrom g elements_of before.ty (place_start before)
    at_end e = none_left g elements_of before.ty before.path.items before.next no_leaf e

    module _ (now : Place) (i next : ℕ) (left : IsLeft before now i next) (skips : HasNoLeafBefore g elements_of before next) where
      pub left_same : HasSameFrom g elements_of before.ty (place_start before) (place_start now)
      left_same =
          subst (HasSameFrom g elements_of before.ty (place_start before)) (sym (same_start now.path.items now.path.items now.next next refl left.next_is))
          (then_same g elements_of before.ty (place_start before) (now.path.items ++ (i + 1) ∷ [])
          (past_part g elements_of before.ty before.path.items before.next no_leaf now.path.items i left.path)
          (now.path.items ++ next ∷ []) (skips now.path.items i left.path).2)

      before_outer : LeadsTo g elements_of before.ty now.outer.items now.path.items now.part × (i ≤ largest_u32)
      before_outer = back g elements_of before.ty before.outer.items before.path.items before.part is.leads now.outer.items now.path.items now.part i left.outer left.path

      pub left_place : IsPlace g elements_of now
      left_place =
          place_by g elements_of now before.ty now.outer.items now.path.items now.part next left.ty refl refl refl left.next_is is.exists before_outer.0
          (skips now.path.items i left.path).1

      pub left_fewer : place_left now < place_left before
      left_fewer =
          let many : length now.outer.items ≡ length now.path.items = as_many g elements_of before.ty now.outer.items now.path.items now.part before_outer.0 in
          let more : outer_left (now.outer.items ++ now.part ∷ []) (now.path.items ++ i ∷ []) ≡ outer_left now.outer.items now.path.items + part_left now.part.ty (i + 1) = outer_more now.outer.items now.path.items now.part i many in
          let old : place_left before ≡ outer_left (now.outer.items ++ now.part ∷ []) (now.path.items ++ i ∷ []) + part_left before.part.ty before.next =
          left_by g elements_of before before.ty (now.outer.items ++ now.part ∷ []) (now.path.items ++ i ∷ []) before.part before.next refl left.outer left.path refl refl in
          let new : place_left now ≡ outer_left now.outer.items now.path.items + part_left now.part.ty next =
          left_by g elements_of now before.ty now.outer.items now.path.items now.part next left.ty refl refl refl left.next_is in
          let less : part_left now.part.ty next ≤ part_left now.part.ty (i + 1) = later now.part.ty (i + 1) next (skips now.path.items i left.path).0 in
          sums (place_left before) (place_left now) _ _ _ _ _ old new more less (leaving before.part.ty before.next is.next)
        where
          sums : (old new outer around a b inner : ℕ) → old ≡ outer + inner → new ≡ around + a → outer ≡ around + b → a ≤ b → 0 < inner → new < old
          sums old new outer around a b inner e f h i k = omega arith

    -- the part that follows takes its place
    module _ (now : Place) (index : ℕ) (part : Part) (follows : IsFollowing g elements_of before index part) (turned : IsTurned before now index part) where
      around_leads : LeadsTo g elements_of before.ty follows.outer follows.path follows.around × (follows.last ≤ largest_u32)
      around_leads = back g elements_of before.ty before.outer.items before.path.items before.part is.leads follows.outer follows.path follows.around follows.last follows.outer_is follows.path_is

      path_now : now.path.items ≡ follows.path ++ index ∷ []
      path_now = turned.path follows.path follows.last follows.path_is

      turned_place : IsPlace g elements_of now
      turned_place =
          place_by g elements_of now before.ty (follows.outer ++ follows.around ∷ []) (follows.path ++ index ∷ []) (record { ty = follows.child.ty; first = follows.around.first + follows.child.first }) 0
          turned.ty (turned.outer ∙ follows.outer_is) path_now (turned.part_is ∙ follows.part_is) turned.next is.exists
          (further follows.outer follows.path follows.around index follows.child around_leads.0 follows.there follows.within) (omega arith)

      turned_same : HasSameFrom g elements_of before.ty (place_start before) now.path.items
      turned_same =
          subst (HasSameFrom g elements_of before.ty (place_start before)) (ap (λ (i : ℕ). follows.path ++ i ∷ []) (sym follows.index_is) ∙ sym path_now)
          (past_part g elements_of before.ty before.path.items before.next no_leaf follows.path follows.last follows.path_is)

      turned_fewer : place_left now < place_left before
      turned_fewer =
          let many : length follows.outer ≡ length follows.path = as_many g elements_of before.ty follows.outer follows.path follows.around around_leads.0 in
          let old : place_left before ≡ outer_left (follows.outer ++ follows.around ∷ []) (follows.path ++ follows.last ∷ []) + part_left before.part.ty before.next =
          left_by g elements_of before before.ty (follows.outer ++ follows.around ∷ []) (follows.path ++ follows.last ∷ []) before.part before.next refl follows.outer_is follows.path_is refl refl in
          let new : place_left now ≡ outer_left (follows.outer ++ follows.around ∷ []) (follows.path ++ index ∷ []) + part_left follows.child.ty 0 =
          left_by g elements_of now before.ty (follows.outer ++ follows.around ∷ []) (follows.path ++ index ∷ []) (record { ty = follows.child.ty; first = follows.around.first + follows.child.first }) 0
          turned.ty (turned.outer ∙ follows.outer_is) path_now (turned.part_is ∙ follows.part_is) turned.next in
          let less : part_left follows.child.ty 0 + part_left follows.around.ty (index + 1) < part_left follows.around.ty index =
          entering follows.around.ty index follows.within follows.child.ty (part_precedes g elements_of ok follows.around.ty index follows.child follows.there).0 in
          sums (place_left before) (place_left now) _ _ _ _ _ _ _ _ old (outer_more follows.outer follows.path follows.around follows.last many) new (outer_more follows.outer follows.path follows.around index many)
          (ap (λ k. part_left follows.around.ty k) follows.index_is) less
        where
          sums : (old new more most outer a b c inner part : ℕ) → old ≡ more + inner → more ≡ outer + a → new ≡ most + part → most ≡ outer + b → c ≡ a → part + b < c → new < old
          sums old new more most outer a b c inner part e f h i k l = omega arith

      pub turned_arrives : Arrives g elements_of before now
      turned_arrives = record { ty = turned.ty; place = turned_place; same = turned_same; next = turned.next; fewer = turned_fewer }

  module _ (n : ℕ) (child : spec.Part) (next_is : n ≡ before.next) (within : n ≤ largest_u32) (at : part_of_type g elements_of before.part.ty n ≡ Some child) where
    abbrev leaf_of_child : List ℕ → Option LeafBytes
    leaf_of_child rest = option_map (moved (before.part.first + child.first)) (leaf_at g elements_of child.ty rest)

    in_child : (rest : List ℕ) → leaf_at g elements_of before.ty (before.path.items ++ n ∷ rest) ≡ leaf_of_child rest
    in_child rest =
        leaf_in_place g elements_of before.ty before.outer.items before.path.items before.part is.leads (n ∷ rest)
        ∙ ap (option_map (moved before.part.first)) (leaf_at_part g elements_of before.part.ty n rest child at)
        ∙ moved_twice before.part.first child.first (leaf_at g elements_of child.ty rest)

    -- a part that begins past all numbers is passed, and those after it that are alike
    module _ (now : Place) (next : ℕ) (after : IsIndexAfter g elements_of before.part.ty n next) (path_is : now.path.items ≡ before.path.items) (new_is : now.next ≡ next) where
      pub passed_same : largest_u64 < before.part.first + child.first → HasSameFrom g elements_of before.ty (place_start before) (place_start now)
      passed_same far =
          let above : n < next = after.above in
          subst (λ b. HasSameFrom g elements_of before.ty b (place_start now)) (same_start before.path.items before.path.items n before.next refl next_is)
          (subst (HasSameFrom g elements_of before.ty (before.path.items ++ n ∷ [])) (sym (same_start now.path.items before.path.items now.next next path_is new_is))
          (past_far g elements_of before.ty before.path.items n next (omega arith)
          (λ k rest from below. subst (λ (o : Option LeafBytes). IfSome o (λ leaf. largest_u64 < leaf.first))
          (sym (leaf_in_place g elements_of before.ty before.outer.items before.path.items before.part is.leads (k ∷ rest)))
          (far_alike g elements_of before.part.ty before.part.first n next after (far_part g elements_of before.part.ty before.part.first n child at far) k from below rest))))

      module _ (ty_is : now.ty ≡ before.ty) (outer_is : now.outer.items ≡ before.outer.items) (part_is : now.part ≡ before.part) where
        pub passed_place : IsPlace g elements_of now
        passed_place =
            place_by g elements_of now before.ty before.outer.items before.path.items before.part next ty_is outer_is path_is part_is new_is is.exists is.leads after.within

        pub passed_fewer : place_left now < place_left before
        passed_fewer =
            let new : place_left now ≡ outer_left before.outer.items before.path.items + part_left before.part.ty next =
            left_by g elements_of now before.ty before.outer.items before.path.items before.part next ty_is outer_is path_is part_is new_is in
            let above : before.next < next = omega (arith, after.above) in
            sums (place_left now) _ _ _ (part_left before.part.ty before.next) new (later before.part.ty (before.next + 1) next (omega arith)) (passing before.part.ty before.next (omega arith))
          where
            sums : (new outer a b c : ℕ) → new ≡ outer + a → a ≤ b → b < c → new < outer + c
            sums new outer a b c e f h = omega arith

    module _ (now : Place) (part : Part) (entered : IsEntered before now n part) (part_is : part ≡ record { ty = child.ty; first = before.part.first + child.first }) where
      leads_on : LeadsTo g elements_of before.ty (before.outer.items ++ before.part ∷ []) (before.path.items ++ n ∷ []) (record { ty = child.ty; first = before.part.first + child.first })
      leads_on = further before.outer.items before.path.items before.part n child is.leads at within

      entered_place : IsPlace g elements_of now
      entered_place =
          place_by g elements_of now before.ty (before.outer.items ++ before.part ∷ []) (before.path.items ++ n ∷ []) (record { ty = child.ty; first = before.part.first + child.first }) 0
          entered.ty entered.outer entered.path (entered.part_is ∙ part_is) entered.next is.exists leads_on (omega arith)

      entered_fewer : place_left now < place_left before
      entered_fewer =
          let new : place_left now ≡ outer_left (before.outer.items ++ before.part ∷ []) (before.path.items ++ n ∷ []) + part_left child.ty 0 =
          left_by g elements_of now before.ty (before.outer.items ++ before.part ∷ []) (before.path.items ++ n ∷ []) (record { ty = child.ty; first = before.part.first + child.first }) 0
          entered.ty entered.outer entered.path (entered.part_is ∙ part_is) entered.next in
          let more : outer_left (before.outer.items ++ before.part ∷ []) (before.path.items ++ n ∷ []) ≡ outer_left before.outer.items before.path.items + part_left before.part.ty (n + 1) =
          outer_more before.outer.items before.path.items before.part n same_lengths in
          let less : part_left child.ty 0 + part_left before.part.ty (n + 1) < part_left before.part.ty n = entering before.part.ty n within child.ty (part_precedes g elements_of ok before.part.ty n child at).0 in
          sums (place_left now) _ _ _ _ _ _ new more less (ap (λ k. part_left before.part.ty k) next_is)
        where
          sums : (new larger outer inner a b c : ℕ) → new ≡ larger + inner → larger ≡ outer + a → inner + a < b → b ≡ c → new < outer + c
          sums new larger outer inner a b c e f h k = omega arith

      starts_before : place_start before ≡ now.path.items
      starts_before = same_start before.path.items before.path.items before.next n refl (sym next_is) ∙ sym entered.path

      pub entered_arrives : Arrives g elements_of before now
      entered_arrives = record {
        ty = entered.ty;
        place = entered_place;
        same = subst (HasSameFrom g elements_of before.ty (place_start before)) starts_before (no_leaf_passed g elements_of before.ty (place_start before));
        next = entered.next;
        fewer = entered_fewer;
      }

module _ (g : GlobalLists) (elements_of : Elements) (before now : Place) (same : IsUnmoved before now) where
  -- a place that did not move is one still
  pub unmoved_place : IsPlace g elements_of before → IsPlace g elements_of now
  unmoved_place is =
      place_by g elements_of now before.ty before.outer.items before.path.items before.part before.next same.ty same.outer same.path same.part same.next is.exists is.leads is.next

  pub unmoved_start : place_start now ≡ place_start before
  unmoved_start = same_start now.path.items before.path.items now.next before.next same.path same.next

module _ (g : GlobalLists) (ok : GlobalReferencesOk g) (elements_of : Elements) (before now : Place) (is : IsPlace g elements_of before)
    (none : HasNoLeafFrom g elements_of before.part.ty before.next) where
  module _ (next : ℕ) (skips : HasNoLeafBefore g elements_of before next) where
    -- to leave a part without more parts is a step
    pub left_is_place : (s : Step) → Leaves before now next s → IsPlace g elements_of now
    left_is_place (Leaf leaf) h = absurd h
    left_is_place Other h = left_place g ok elements_of before is none now h.0 next h.1 skips
    left_is_place End h = unmoved_place g elements_of before now h.1 is

    pub left_steps : (s : Step) → Leaves before now next s → Steps g elements_of before now s
    left_steps (Leaf leaf) h = absurd h
    left_steps Other h = (left_same g ok elements_of before is none now h.0 next h.1 skips, left_fewer g ok elements_of before is none now h.0 next h.1 skips)
    left_steps End h = (at_end g ok elements_of before is none h.0, h.1)

module _ (g : GlobalLists) (ok : GlobalReferencesOk g) (elements_of : Elements) (before now : Place) (is : IsPlace g elements_of before)
    (none : HasNoLeaf g elements_of before.part.ty) (s : Step) (skips : Skips g before now s) where
  none_from : HasNoLeafFrom g elements_of before.part.ty before.next
  none_from m rest from within = none (m ∷ rest)

  no_leaf_before : HasNoLeafBefore g elements_of before skips.next
  no_leaf_before = no_leaf_skipped g ok elements_of before is none skips.next (skips.after elements_of)

  -- to skip a part without leaves is a step
  pub skipped_place : IsPlace g elements_of now
  skipped_place = left_is_place g ok elements_of before now is none_from skips.next no_leaf_before s skips.leaves

  pub skipped_steps : Steps g elements_of before now s
  skipped_steps = left_steps g ok elements_of before now is none_from skips.next no_leaf_before s skips.leaves

  pub skipped_ty : (s : Step) → Leaves before now skips.next s → now.ty ≡ before.ty
  skipped_ty (Leaf leaf) h = absurd h
  skipped_ty Other h = h.1.ty
  skipped_ty End h = h.1.ty
