-- Which types have a leaf.
use Rattle.std.specs.Prelude.{◌≡◌, ◌↔◌, ℕ, Bool, IsTrue, List, Some, None, slice_get}
use Rattle.naga_ir.specs.ItemReferences.{GlobalLists}
use Rattle.naga_typing.specs.Leaves.{Elements, LeafBytes, leaf_at}

-- the type of index `t` has a leaf, wherever it begins
pub record HasLeaves (g : GlobalLists) (elements_of : Elements) (t : ℕ) : Type 0 where
  pub path : List ℕ
  pub leaf : LeafBytes
  pub there : leaf_at g elements_of t path ≡ Some leaf

-- the type of index `t` has no leaf
abbrev pub HasNoLeaf : GlobalLists → Elements → ℕ → Type 0
HasNoLeaf g elements_of t = (path : List ℕ) → leaf_at g elements_of t path ≡ None

-- `known` says of each of the first types whether it has a leaf
pub record AreLeavesKnown (g : GlobalLists) (elements_of : Elements) (known : List Bool) : Type 0 where
  pub each : (t : ℕ) (has : Bool) → slice_get known t ≡ Some has → IsTrue has ↔ HasLeaves g elements_of t
