-- Leaves that were found one after another.
use Rattle.std.specs.Prelude.{◌≢◌, ◌⊎◌, ℕ, List}
use Rattle.std.specs.List.{All, AllPairs, Contains}
use Rattle.naga_ir.specs.ItemReferences.{GlobalLists}
use Rattle.naga_leaves.specs.LeavesFrom.{HasLeaf}
use Rattle.naga_leaves.specs.Order.{IsAtOrAfter}
use Rattle.naga_typing.specs.Leaves.{LeafBytes, elements}

-- a leaf that was found: the indexes that lead to it, and its bytes
pub record Found : Type 0 where
  pub path : List ℕ
  pub leaf : LeafBytes

-- the second of two that were found comes after the first, in the order of paths
abbrev pub ComesAfter : Found → Found → Type 0
ComesAfter a b = IsAtOrAfter a.path b.path × (a.path ≢ b.path)

-- `found` are the first of all of which `IsLeaf` holds, in the order of paths
pub record AreFirst (IsLeaf : Found → Type 0) (found : List Found) : Type 0 where
  pub leaves : All IsLeaf found
  pub in_order : AllPairs ComesAfter found
  pub first : (other : Found) → IsLeaf other → Contains found other ⊎ All (λ f. ComesAfter f other) found

-- `found` are all of which `IsLeaf` holds, in the order of paths
pub record AreAll (IsLeaf : Found → Type 0) (found : List Found) : Type 0 where
  pub first : AreFirst IsLeaf found
  pub all : (other : Found) → IsLeaf other → Contains found other

-- `found` is a leaf of the type of index `t`, if a runtime-sized array has `n` elements
abbrev pub IsLeafOf : GlobalLists → ℕ → ℕ → Found → Type 0
IsLeafOf g n t found = HasLeaf g (elements g n) t found.path found.leaf
