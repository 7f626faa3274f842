-- The leaves of a type from a path on.
use Rattle.std.specs.Prelude.{◌≡◌, ◌≢◌, ◌≤◌, ℕ, List, Some, All}
use Rattle.naga_arena.specs.Numbers.{largest_u32, largest_u64}
use Rattle.naga_ir.specs.ItemReferences.{GlobalLists}
use Rattle.naga_leaves.specs.Order.{IsAtOrAfter}
use Rattle.naga_typing.specs.Leaves.{Elements, LeafBytes, leaf_at}

-- the type of index `t` has `leaf` at `path`, whose indexes are of 32 bits, and it begins at a byte of 64 bits
pub record HasLeaf (g : GlobalLists) (elements_of : Elements) (t : ℕ) (path : List ℕ) (leaf : LeafBytes) : Type 0 where
  pub there : leaf_at g elements_of t path ≡ Some leaf
  pub begins : leaf.first ≤ largest_u64
  pub indexes : All (λ i. i ≤ largest_u32) path

-- the type of index `t` has `leaf` at `path`, which comes at `start` or after it
pub record HasLeafFrom (g : GlobalLists) (elements_of : Elements) (t : ℕ) (start path : List ℕ) (leaf : LeafBytes) : Type 0 where
  pub has : HasLeaf g elements_of t path leaf
  pub after : IsAtOrAfter start path

-- the type of index `t` has no leaf from the path `start` on
abbrev pub HasNoneFrom : GlobalLists → Elements → ℕ → List ℕ → Type 0
HasNoneFrom g elements_of t start = (path : List ℕ) (leaf : LeafBytes) → HasLeafFrom g elements_of t start path leaf → ⊥

-- the type of index `t` has the same leaves from the path `a` on as from the path `b` on
pub record HasSameFrom (g : GlobalLists) (elements_of : Elements) (t : ℕ) (a b : List ℕ) : Type 0 where
  pub into : (path : List ℕ) (leaf : LeafBytes) → HasLeafFrom g elements_of t a path leaf
      → HasLeafFrom g elements_of t b path leaf
  pub back : (path : List ℕ) (leaf : LeafBytes) → HasLeafFrom g elements_of t b path leaf
      → HasLeafFrom g elements_of t a path leaf

-- `leaf`, at `path`, is the first of the leaves from `start` on, and all others are the leaves from `rest` on
pub record IsFirstLeaf (g : GlobalLists) (elements_of : Elements) (t : ℕ) (start path rest : List ℕ) (leaf : LeafBytes) : Type 0 where
  pub has : HasLeafFrom g elements_of t start path leaf
  pub first : (other : List ℕ) (l : LeafBytes) → HasLeafFrom g elements_of t start other l → IsAtOrAfter path other
  pub others : (other : List ℕ) (l : LeafBytes) → HasLeafFrom g elements_of t start other l → other ≢ path
      → HasLeafFrom g elements_of t rest other l
  pub no_more : (other : List ℕ) (l : LeafBytes) → HasLeafFrom g elements_of t rest other l
      → HasLeafFrom g elements_of t start other l × (other ≢ path)
