-- Going on from leaf to leaf.
use Rattle.std.proofs.Common.{◌≡◌, ◌<◌, ◌≤◌, ℕ, suc, true, false, Bool, List, [], ◌∷◌, ◌++◌, Option, Some, None, IfSome, MatchOption, if◌then◌else◌, refl, sym, subst, ap, ◌∙◌, arith}
use Rattle.std.specs.Option.{option_map}
use Rattle.std.proofs.lemmas.List.Elements.{All-nil}
use Rattle.naga_arena.specs.Numbers.{largest_u32}
use Rattle.naga_arena.specs.WithRoom.{WithRoom}
use Rattle.naga_ir.specs.ItemReferences.{GlobalLists}
use Rattle.naga_leaves.proofs.Places.{no_end}
use Rattle.naga_leaves.proofs.Steps.{first_is, leaf_here, no_leaf_passed, past_none, same_start, then_same, unmoved_start}
use Rattle.naga_leaves.specs.LeavesFrom.{HasNoneFrom, HasSameFrom, IsFirstLeaf}
use Rattle.naga_leaves.specs.Cursor.{YieldsSame, IsAtEnd, IsCursor, IsNext, IsOverSame, elements_for, fuel, lists_under, start_of}
use Rattle.naga_leaves.specs.Leaf.{bytes_of}
use Rattle.naga_leaves.specs.declared.cursor.Leaves.{Leaves}
use Rattle.naga_leaves.specs.declared.cursor.Place.{Place}
use Rattle.naga_leaves.specs.declared.leaf.Leaf.{Leaf}
use Rattle.naga_leaves.specs.declared.leaf.Part.{Part}
use Rattle.naga_leaves.specs.steps.NextLeaf.{ComesOn}
use Rattle.naga_leaves.specs.Places.{IsUnmoved, LeadsTo, further, itself, place_left, place_start}
use Rattle.naga_typing.specs.Leaves.{Elements, LeafBytes, elements, leaf_at, moved}

module _ (g : GlobalLists) (elements_of : Elements) (t : ℕ) (a b : List ℕ) (same : HasSameFrom g elements_of t a b) where
  pub then_first : (path rest : List ℕ) (l : LeafBytes) → IsFirstLeaf g elements_of t b path rest l → IsFirstLeaf g elements_of t a path rest l
  then_first path rest l next = record {
    has = same.back path l next.has;
    first = λ q k h. next.first q k (same.into q k h);
    others = λ q k h other. next.others q k (same.into q k h) other;
    no_more = λ q k h. let w = next.no_more q k h in (same.back q k w.0, w.1);
  }

  then_none : HasNoneFrom g elements_of t b → HasNoneFrom g elements_of t a
  then_none none q l h = none q l (same.into q l h)

over_itself : (a : Leaves) → IsOverSame a a
over_itself a = record { lists = refl; length = refl; ty = refl }

-- a cursor that does nothing comes to the same
pub stays : (a : Leaves) → YieldsSame a a
stays a = record { over = over_itself a; same = no_leaf_passed (lists_under a) (elements_for a) a.place.ty (start_of a) }

start_begun : (a : Leaves) → a.is_begun ≡ true → start_of a ≡ place_start a.place
start_begun a e = ap (λ (b : Bool). if b then place_start a.place else []) e

left_begun : (a : Leaves) → a.is_begun ≡ true → fuel a ≡ place_left a.place
left_begun a e = ap (λ (b : Bool). if b then place_left a.place else suc (place_left a.place)) e

-- what holds of the type of one cursor holds of the type of another that goes over the same
over : (P : GlobalLists → ℕ → ℕ → Type 0) (a b : Leaves) → IsOverSame a b → P (lists_under b) b.length b.place.ty → P (lists_under a) a.length a.place.ty
over P a b same h =
    subst (λ g. P g a.length a.place.ty) same.lists
    (subst (λ n. P (lists_under b) n a.place.ty) same.length
    (subst (λ t. P (lists_under b) b.length t) same.ty h))

then_over : (a b : Leaves) (place : Place) (known : WithRoom Bool) → IsOverSame a b → place.ty ≡ b.place.ty → IsOverSame a (record b { place = place; has_leaves = known })
then_over a b place known same e = record { lists = same.lists; length = same.length; ty = e ∙ same.ty }

module _ (a b : Leaves) (come : YieldsSame a b) (begun : b.is_begun ≡ true) (place : Place) (known : WithRoom Bool) (ty : place.ty ≡ b.place.ty) where
  abbrev Now : Leaves
  Now = record b { place = place; has_leaves = known }

  -- after leaves that were passed comes the next one
  pub comes_to_next : (l : LeafBytes) → fuel b ≤ fuel a
      → IsFirstLeaf (lists_under b) (elements_for b) b.place.ty (place_start b.place) place.path.items (place_start place) l → place_left place < place_left b.place
      → IsNext a Now l
  comes_to_next l fewer first less =
      let from_start : IsFirstLeaf (lists_under b) (elements_for b) b.place.ty (start_of b) place.path.items (start_of Now) l =
      subst (λ s. IsFirstLeaf (lists_under b) (elements_for b) b.place.ty s place.path.items (start_of Now) l) (sym (start_begun b begun))
      (subst (λ r. IsFirstLeaf (lists_under b) (elements_for b) b.place.ty (place_start b.place) place.path.items r l) (sym (start_begun Now begun)) first) in
      record {
        over = then_over a b place known come.over ty;
        first =
            then_first (lists_under a) (elements_for a) a.place.ty (start_of a) (start_of b) come.same place.path.items (start_of Now) l
            (over (λ g n t. IsFirstLeaf g (elements g n) t (start_of b) place.path.items (start_of Now) l) a b come.over from_start);
        fewer = sums _ _ _ _ _ (left_begun b begun) (left_begun Now begun) fewer less;
      }
    where
      sums : (la lb ln pb pn : ℕ) → lb ≡ pb → ln ≡ pn → lb ≤ la → pn < pb → ln < la
      sums la lb ln pb pn e f h k = omega arith

  -- after a step that passed no leaf the same come
  pub comes_on : HasSameFrom (lists_under b) (elements_for b) b.place.ty (place_start b.place) (place_start place) → YieldsSame a Now
  comes_on next =
      let from_start : HasSameFrom (lists_under b) (elements_for b) b.place.ty (start_of b) (start_of Now) =
      subst (λ s. HasSameFrom (lists_under b) (elements_for b) b.place.ty s (start_of Now)) (sym (start_begun b begun))
      (subst (HasSameFrom (lists_under b) (elements_for b) b.place.ty (place_start b.place)) (sym (start_begun Now begun)) next) in
      record {
        over = then_over a b place known come.over ty;
        same =
            then_same (lists_under a) (elements_for a) a.place.ty (start_of a) (start_of b) come.same (start_of Now)
            (over (λ g n t. HasSameFrom g (elements g n) t (start_of b) (start_of Now)) a b come.over from_start);
      }

  pub fewer_left : fuel b ≤ fuel a → place_left place < place_left b.place → fuel Now ≤ fuel a
  fewer_left fewer less = sums _ _ _ _ _ (left_begun b begun) (left_begun Now begun) fewer less
    where
      sums : (la lb ln pb pn : ℕ) → lb ≡ pb → ln ≡ pn → lb ≤ la → pn < pb → ln ≤ la
      sums la lb ln pb pn e f h k = omega arith

  -- a place that did not move leaves the same
  pub comes_nowhere : IsUnmoved b.place place → YieldsSame a Now
  comes_nowhere same =
      comes_on (subst (HasSameFrom (lists_under b) (elements_for b) b.place.ty (place_start b.place)) (sym (unmoved_start (lists_under b) (elements_for b) b.place place same))
      (no_leaf_passed (lists_under b) (elements_for b) b.place.ty (place_start b.place)))

  -- if a place that did not move had no leaf to come to, the cursor is at the end
  pub comes_to_end : HasNoneFrom (lists_under b) (elements_for b) b.place.ty (place_start b.place) → IsUnmoved b.place place → IsAtEnd a Now
  comes_to_end none same =
      let from_start : HasNoneFrom (lists_under b) (elements_for b) b.place.ty (start_of b) =
      subst (HasNoneFrom (lists_under b) (elements_for b) b.place.ty) (sym (start_begun b begun)) none in
      record {
        same = comes_nowhere same;
        none =
            then_none (lists_under a) (elements_for a) a.place.ty (start_of a) (start_of b) come.same
            (over (λ g n t. HasNoneFrom g (elements g n) t (start_of b)) a b come.over from_start);
      }

-- the part of an empty path is the whole
whole_begins : (g : GlobalLists) (elements_of : Elements) (t : ℕ) (outer : List Part) (path : List ℕ) (part : Part) → LeadsTo g elements_of t outer path part → path ≡ [] → part.first ≡ 0
whole_begins g elements_of t _ _ _ itself e = refl
whole_begins g elements_of t _ _ _ (further outer path part i child h at within) e = absurd (no_end path i (sym e))

module _ (a : Leaves) (is : IsCursor a) (fresh : a.is_begun ≡ false) where
  abbrev Begun : Leaves
  Begun = record a { is_begun = true }

  at_nothing : a.place.path.items ≡ []
  at_nothing = (is.whole fresh).0

  start_fresh : start_of a ≡ []
  start_fresh = ap (λ (b : Bool). if b then place_start a.place else []) fresh

  left_fresh : fuel a ≡ suc (place_left a.place)
  left_fresh = ap (λ (b : Bool). if b then place_left a.place else suc (place_left a.place)) fresh

  start_now : place_start a.place ≡ [] ++ 0 ∷ []
  start_now = same_start a.place.path.items [] a.place.next 0 at_nothing (is.whole fresh).1

  abbrev whole_part : Option LeafBytes
  whole_part = option_map (moved a.place.part.first) (leaf_at (lists_under a) (elements_for a) a.place.part.ty [])

  leaf_of_whole : leaf_at (lists_under a) (elements_for a) a.place.ty [] ≡ whole_part
  leaf_of_whole = ap (leaf_at (lists_under a) (elements_for a) a.place.ty) (sym at_nothing) ∙ leaf_here (lists_under a) is.references (elements_for a) a.place is.place

  -- a whole that is a leaf is the first
  begins_with : (leaf : Leaf) → Some (bytes_of leaf) ≡ whole_part → leaf.first ≡ a.place.part.first → IsNext a Begun (bytes_of leaf)
  begins_with leaf there begins =
      let none : a.place.part.first ≡ 0 = whole_begins (lists_under a) (elements_for a) a.place.ty a.place.outer.items a.place.path.items a.place.part is.place.leads at_nothing in
      let first : IsFirstLeaf (lists_under a) (elements_for a) a.place.ty [] [] ([] ++ 0 ∷ []) (bytes_of leaf) =
      first_is (lists_under a) (elements_for a) a.place.ty [] (bytes_of leaf) (leaf_of_whole ∙ sym there) (omega (arith, none, begins)) (All-nil (λ i. i ≤ largest_u32)) in
      record {
        over = record { lists = refl; length = refl; ty = refl };
        first =
            subst (λ s. IsFirstLeaf (lists_under a) (elements_for a) a.place.ty s a.place.path.items (place_start a.place) (bytes_of leaf)) (sym start_fresh)
            (subst (λ p. IsFirstLeaf (lists_under a) (elements_for a) a.place.ty [] p (place_start a.place) (bytes_of leaf)) (sym at_nothing)
            (subst (λ r. IsFirstLeaf (lists_under a) (elements_for a) a.place.ty [] [] r (bytes_of leaf)) (sym start_now) first));
        fewer = let l : fuel a ≡ suc (place_left a.place) = left_fresh in omega arith;
      }

  -- a whole that is not a leaf is passed
  begins_without : None ≡ whole_part → ComesOn a Begun
  begins_without none = record {
    same = record {
      over = record { lists = refl; length = refl; ty = refl };
      same =
          subst (λ s. HasSameFrom (lists_under a) (elements_for a) a.place.ty s (place_start a.place)) (sym start_fresh)
          (subst (HasSameFrom (lists_under a) (elements_for a) a.place.ty []) (sym start_now) (past_none (lists_under a) (elements_for a) a.place.ty [] (leaf_of_whole ∙ sym none)));
    };
    fewer = let l : fuel a ≡ suc (place_left a.place) = left_fresh in omega arith;
  }

  -- to begin is to come to the whole, or to pass it
  pub begins : (r : Option Leaf) → option_map bytes_of r ≡ whole_part → IfSome r (λ leaf. leaf.first ≡ a.place.part.first) → MatchOption r (ComesOn a Begun) (λ leaf. IsNext a Begun (bytes_of leaf))
  begins None is at = begins_without is
  begins (Some leaf) is at = begins_with leaf is at
