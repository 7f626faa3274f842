-- What a step of a cursor does.
use Rattle.std.specs.Prelude.{◌≡◌, ◌+◌, ◌<◌, ◌≤◌, ℕ, suc, List, [], ◌∷◌, ◌++◌, Option, Some, None, option_map}
use Rattle.naga_arena.specs.Numbers.{largest_u32, largest_u64}
use Rattle.naga_ir.specs.ItemReferences.{GlobalLists}
use Rattle.naga_leaves.specs.Leaf.{bytes_of}
use Rattle.naga_leaves.specs.declared.cursor.Following.{Following}
use Rattle.naga_leaves.specs.declared.cursor.Following.TheVariants as following
use Rattle.naga_leaves.specs.declared.cursor.Place.{Place}
use Rattle.naga_leaves.specs.declared.cursor.Step.{Step}
use Rattle.naga_leaves.specs.declared.cursor.Step.TheVariants.{Leaf, Other, End}
use Rattle.naga_leaves.specs.declared.leaf.Part.{Part}
use Rattle.naga_leaves.specs.Places.{IsLeft, IsUnmoved, part_of_type, place_left, place_start}
use Rattle.naga_leaves.specs.LeavesFrom.{HasNoneFrom, HasSameFrom, IsFirstLeaf}
use Rattle.naga_typing.specs.Leaves as spec
use Rattle.naga_typing.specs.Leaves.{Elements, LeafBytes, leaf_at, moved}

-- the type of index `t` has no leaf in its parts from the index `next` on
abbrev pub HasNoLeafFrom : GlobalLists → Elements → ℕ → ℕ → Type 0
HasNoLeafFrom g elements_of t next =
    (m : ℕ) (rest : List ℕ) → next ≤ m → m ≤ largest_u32 → leaf_at g elements_of t (m ∷ rest) ≡ None

-- all parts of the type of index `t` from the index `i` to before `next` have the type of the part at `i`, and none
-- begins before it
pub record IsIndexAfter (g : GlobalLists) (elements_of : Elements) (t i next : ℕ) : Type 0 where
  pub above : i < next
  pub within : next ≤ suc largest_u32
  pub alike : (k : ℕ) (part : spec.Part) → i ≤ k → k < next → part_of_type g elements_of t k ≡ Some part
      → (first : spec.Part) × (part_of_type g elements_of t i ≡ Some first) × (first.ty ≡ part.ty)
      × (first.first ≤ part.first)

-- a place went on to `part`, another part of the part around its part, at `index`
pub record IsTurned (before now : Place) (index : ℕ) (part : Part) : Type 0 where
  pub ty : now.ty ≡ before.ty
  pub part_is : now.part ≡ part
  pub next : now.next ≡ 0
  pub outer : now.outer.items ≡ before.outer.items
  pub path : (rest : List ℕ) (i : ℕ) → before.path.items ≡ rest ++ i ∷ [] → now.path.items ≡ rest ++ index ∷ []

-- `part`, at `index`, follows the part of `place` in the part around it
pub record IsFollowing (g : GlobalLists) (elements_of : Elements) (place : Place) (index : ℕ) (part : Part) : Type 0 where
  pub outer : List Part
  pub path : List ℕ
  pub around : Part
  pub last : ℕ
  pub child : spec.Part
  pub outer_is : place.outer.items ≡ outer ++ around ∷ []
  pub path_is : place.path.items ≡ path ++ last ∷ []
  pub index_is : index ≡ last + 1
  pub within : index ≤ largest_u32
  pub there : part_of_type g elements_of around.ty index ≡ Some child
  pub part_is : part ≡ record { ty = child.ty; first = around.first + child.first }
  pub begins : part.first ≤ largest_u64

-- in the part around the part of `place`, there is no leaf between the part of `place` and the part at the index `next`
abbrev pub HasNoLeafBefore : GlobalLists → Elements → Place → ℕ → Type 0
HasNoLeafBefore g elements_of place next = (path : List ℕ) (last : ℕ) → place.path.items ≡ path ++ last ∷ []
    → (last + 1 ≤ next) × (next ≤ suc largest_u32)
    × HasSameFrom g elements_of place.ty (path ++ (last + 1) ∷ []) (path ++ next ∷ [])

-- what follows the part of `place` is a part, or no leaf is before an index
abbrev pub Follows : GlobalLists → Elements → Place → Following → Type 0
Follows g elements_of place (following.Part index part) = IsFollowing g elements_of place index part
Follows g elements_of place (following.Index next) = HasNoLeafBefore g elements_of place next

-- the leaf that the part of a place is
abbrev pub leaf_of_part : GlobalLists → Elements → Place → Option LeafBytes
leaf_of_part g elements_of place = option_map (moved place.part.first) (leaf_at g elements_of place.part.ty [])

-- what a visit of a part comes to: the part as a leaf, which has no parts, or no leaf
abbrev pub Visits : GlobalLists → Elements → Place → Place → Step → Type 0
Visits g elements_of before now (Leaf leaf) =
    (leaf_of_part g elements_of before ≡ Some (bytes_of leaf)) × (leaf.first ≡ before.part.first)
    × (now.next ≡ suc largest_u32)
Visits g elements_of before now Other = (leaf_of_part g elements_of before ≡ None) × (now.next ≡ before.next)
Visits g elements_of before now End = ⊥

-- the part of a place was visited
pub record IsVisited (g : GlobalLists) (elements_of : Elements) (before now : Place) (step : Step) : Type 0 where
  pub ty : now.ty ≡ before.ty
  pub part : now.part ≡ before.part
  pub outer : now.outer.items ≡ before.outer.items
  pub path : now.path.items ≡ before.path.items
  pub visits : Visits g elements_of before now step

-- a part was left for the index `next` of the part around it, or the whole has ended
abbrev pub Leaves : Place → Place → ℕ → Step → Type 0
Leaves before now next (Leaf leaf) = ⊥
Leaves before now next Other = (index : ℕ) × IsLeft before now index next
Leaves before now next End = (before.path.items ≡ []) × IsUnmoved before now

-- a part was left for the index after it and all parts of its type that follow it, or the whole has ended
pub record Skips (g : GlobalLists) (before now : Place) (step : Step) : Type 0 where
  pub next : ℕ
  pub after : (elements_of : Elements) (outer : List Part) (around : Part) (path : List ℕ) (last : ℕ)
      → before.outer.items ≡ outer ++ around ∷ []
      → before.path.items ≡ path ++ last ∷ [] → IsIndexAfter g elements_of around.ty last next
  pub leaves : Leaves before now next step

-- a step came to the next leaf, or past no leaf, or there is no leaf any more
abbrev pub Steps : GlobalLists → Elements → Place → Place → Step → Type 0
Steps g elements_of before now (Leaf leaf) =
    IsFirstLeaf g elements_of before.ty (place_start before) now.path.items (place_start now) (bytes_of leaf)
    × (place_left now < place_left before)
Steps g elements_of before now Other =
    HasSameFrom g elements_of before.ty (place_start before) (place_start now) × (place_left now < place_left before)
Steps g elements_of before now End = HasNoneFrom g elements_of before.ty (place_start before) × IsUnmoved before now
