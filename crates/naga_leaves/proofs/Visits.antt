-- What a visit of a part comes to.
use Rattle.std.proofs.Common.{◌≡◌, ◌+◌, ◌<◌, ◌≤◌, ℕ, suc, List, [], ◌∷◌, ◌++◌, Option, Some, None, refl, sym, subst, ◌∙◌, arith}
use Rattle.std.specs.Option.{option_and_then, option_map}
use Rattle.std.proofs.lemmas.Option.{none-some}
use Rattle.naga_arena.specs.Numbers.{largest_u32, largest_u64}
use Rattle.naga_ir.specs.Handles.{GlobalReferencesOk}
use Rattle.naga_ir.specs.ItemReferences.{GlobalLists}
use Rattle.naga_ir.specs.declared.types.TypeInner.{TypeInner}
use Rattle.naga_ir.specs.declared.types.TypeInner.TheVariants.{Array, Struct}
use Rattle.naga_leaves.proofs.NextLeaves.{then_first}
use Rattle.naga_leaves.proofs.Places.{leaf_at_none}
use Rattle.naga_leaves.proofs.Steps.{Arrives, first_is, indexes_here, leaf_here, left_by, past_none, place_by, rest_same, same_start, then_same}
use Rattle.naga_leaves.proofs.Weights.{later}
use Rattle.naga_leaves.specs.Leaf.{bytes_of}
use Rattle.naga_leaves.specs.LeavesFrom.{HasSameFrom, IsFirstLeaf}
use Rattle.naga_leaves.specs.Places.{IsPlace, outer_left, part_left, place_left, place_start}
use Rattle.naga_leaves.specs.declared.cursor.Place.{Place}
use Rattle.naga_leaves.specs.declared.cursor.Step.{Step}
use Rattle.naga_leaves.specs.declared.cursor.Step.TheVariants.{Leaf, Other, End}
use Rattle.naga_leaves.specs.declared.leaf.Leaf as leaf
use Rattle.naga_leaves.specs.steps.Steps.{HasNoLeafFrom, IsVisited, Steps, leaf_of_part}
use Rattle.naga_typing.specs.Leaves as spec
use Rattle.naga_typing.specs.Leaves.{Elements, LeafBytes, inner_at, leaf_at, moved, whole_leaf}

-- a leaf has no parts, and so no leaf in them
leaf_has_no_part : (g : GlobalLists) (elements_of : Elements) (t k : ℕ) (l : LeafBytes) → option_map (moved k) (leaf_at g elements_of t []) ≡ Some l → HasNoLeafFrom g elements_of t 0
unfolding leaf_at
leaf_has_no_part g elements_of t k l h m rest from within = leaf_at_none g elements_of t m rest (by (inner_at g t) h)
  where
    of : (inner : TypeInner) → option_map (moved k) (whole_leaf g inner) ≡ Some l → spec.part_at elements_of inner m ≡ None
    of (Array base size stride) h = absurd (none-some l h)
    of (Struct members span) h = absurd (none-some l h)
    of _ h = refl

    by : (o : Option TypeInner) → option_map (moved k) (option_and_then (whole_leaf g) o) ≡ Some l → option_and_then (λ inner. spec.part_at elements_of inner m) o ≡ None
    by None h = refl
    by (Some inner) h = of inner h

-- a first leaf is so whichever path those after it come from
first_before : (g : GlobalLists) (elements_of : Elements) (t : ℕ) (start path a b : List ℕ) (l : LeafBytes) → HasSameFrom g elements_of t a b
    → IsFirstLeaf g elements_of t start path a l → IsFirstLeaf g elements_of t start path b l
first_before g elements_of t start path a b l same is = record {
  has = is.has;
  first = is.first;
  others = λ q k h other. same.into q k (is.others q k h other);
  no_more = λ q k h. is.no_more q k (same.back q k h);
}

module _ (g : GlobalLists) (ok : GlobalReferencesOk g) (elements_of : Elements) (before at now : Place) (arrives : Arrives g elements_of before at) (begins : at.part.first ≤ largest_u64) where
  starts_at : place_start at ≡ at.path.items ++ 0 ∷ []
  starts_at = same_start at.path.items at.path.items at.next 0 refl arrives.next

  -- to visit a leaf is to come to the next
  visits_leaf : (leaf : leaf.Leaf) → leaf_of_part g elements_of at ≡ Some (bytes_of leaf) → leaf.first ≡ at.part.first → place_start now ≡ at.path.items ++ suc largest_u32 ∷ []
      → IsFirstLeaf g elements_of before.ty (place_start before) at.path.items (place_start now) (bytes_of leaf)
  visits_leaf leaf is same_first start =
      let there : leaf_at g elements_of at.ty at.path.items ≡ Some (bytes_of leaf) = leaf_here g ok elements_of at arrives.place ∙ is in
      let none : HasNoLeafFrom g elements_of at.part.ty at.next =
      λ (m : ℕ) (rest : List ℕ) (from : at.next ≤ m) (within : m ≤ largest_u32). leaf_has_no_part g elements_of at.part.ty at.part.first (bytes_of leaf) is m rest (omega arith) within in
      let rest : HasSameFrom g elements_of at.ty (at.path.items ++ 0 ∷ []) (place_start now) =
      subst (λ a. HasSameFrom g elements_of at.ty a (place_start now)) starts_at
      (subst (HasSameFrom g elements_of at.ty (place_start at)) (sym start)
      (rest_same g ok elements_of at arrives.place none (suc largest_u32) arrives.place.next)) in
      let first : IsFirstLeaf g elements_of at.ty at.path.items at.path.items (place_start now) (bytes_of leaf) =
      first_before g elements_of at.ty at.path.items at.path.items (at.path.items ++ 0 ∷ []) (place_start now) (bytes_of leaf) rest
      (first_is g elements_of at.ty at.path.items (bytes_of leaf) there (omega (arith, same_first, begins)) (indexes_here g ok elements_of at arrives.place)) in
      then_first g elements_of before.ty (place_start before) at.path.items arrives.same at.path.items (place_start now) (bytes_of leaf)
      (subst (λ t. IsFirstLeaf g elements_of t at.path.items at.path.items (place_start now) (bytes_of leaf)) arrives.ty first)

  -- to visit a part that is not a leaf is to pass no leaf
  visits_other : leaf_of_part g elements_of at ≡ None → place_start now ≡ place_start at → HasSameFrom g elements_of before.ty (place_start before) (place_start now)
  visits_other is start =
      let none : leaf_at g elements_of at.ty at.path.items ≡ None = leaf_here g ok elements_of at arrives.place ∙ is in
      then_same g elements_of before.ty (place_start before) at.path.items arrives.same (place_start now)
      (subst (λ t. HasSameFrom g elements_of t at.path.items (place_start now)) arrives.ty
      (subst (HasSameFrom g elements_of at.ty at.path.items) (sym starts_at ∙ sym start) (past_none g elements_of at.ty at.path.items none)))

  fewer_left : now.outer.items ≡ at.outer.items → now.path.items ≡ at.path.items → now.part ≡ at.part → at.next ≤ now.next → place_left now < place_left before
  fewer_left outer path part le =
      sums (place_left now) (outer_left at.outer.items at.path.items) (part_left at.part.ty now.next) (part_left at.part.ty at.next) (place_left before)
      (left_by g elements_of now now.ty at.outer.items at.path.items at.part now.next refl outer path part refl) (later at.part.ty at.next now.next le) arrives.fewer
    where
      sums : (new outer a b old : ℕ) → new ≡ outer + a → a ≤ b → outer + b < old → new < old
      sums new outer a b old e le less = omega arith

  module _ (s : Step) (visited : IsVisited g elements_of at now s) where
    start_by : (n : ℕ) → now.next ≡ n → place_start now ≡ at.path.items ++ n ∷ []
    start_by n e = same_start now.path.items at.path.items now.next n visited.path e

    place_at : (n : ℕ) → now.next ≡ n → n ≤ suc largest_u32 → IsPlace g elements_of now
    place_at n e within =
        place_by g elements_of now at.ty at.outer.items at.path.items at.part n visited.ty visited.outer visited.path visited.part e arrives.place.exists arrives.place.leads within

  -- to visit a part to which a step led is to make the step
  pub visited_place : (s : Step) → IsVisited g elements_of at now s → IsPlace g elements_of now
  visited_place (Leaf leaf) visited = place_at (Leaf leaf) visited (suc largest_u32) visited.visits.2 (omega arith)
  visited_place Other visited = place_at Other visited at.next visited.visits.1 arrives.place.next
  visited_place End visited = absurd visited.visits

  pub visited_steps : (s : Step) → IsVisited g elements_of at now s → Steps g elements_of before now s
  visited_steps (Leaf leaf) visited =
      let first : IsFirstLeaf g elements_of before.ty (place_start before) at.path.items (place_start now) (bytes_of leaf) =
      visits_leaf leaf visited.visits.0 visited.visits.1 (start_by (Leaf leaf) visited (suc largest_u32) visited.visits.2) in
      let next : now.next ≡ suc largest_u32 = visited.visits.2 in
      let within : at.next ≤ suc largest_u32 = arrives.place.next in (
        subst (λ p. IsFirstLeaf g elements_of before.ty (place_start before) p (place_start now) (bytes_of leaf)) (sym visited.path) first,
        fewer_left visited.outer visited.path visited.part (omega arith),
      )
  visited_steps Other visited =
      let next : now.next ≡ at.next = visited.visits.1 in (
        visits_other visited.visits.0 (start_by Other visited at.next visited.visits.1),
        fewer_left visited.outer visited.path visited.part (omega arith),
      )
  visited_steps End visited = absurd visited.visits
