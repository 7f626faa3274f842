-- Which leaves a cursor has still to come to.
use Rattle.std.specs.Prelude.{◌≡◌, ◌<◌, ℕ, suc, false, List, [], if◌then◌else◌}
use Rattle.naga_ir.specs.Handles.{GlobalReferencesOk}
use Rattle.naga_ir.specs.ItemReferences.{GlobalLists}
use Rattle.naga_leaves.specs.HasLeaves.{AreLeavesKnown}
use Rattle.naga_leaves.specs.LeavesFrom.{HasLeaf, HasLeafFrom, HasNoneFrom, HasSameFrom, IsFirstLeaf}
use Rattle.naga_leaves.specs.declared.cursor.Leaves.{Leaves}
use Rattle.naga_leaves.specs.Places.{IsPlace, place_left, place_start}
use Rattle.naga_typing.specs.Context.{lists_of}
use Rattle.naga_typing.specs.Leaves.{Elements, LeafBytes, elements}

-- the lists of the module that a cursor goes over
abbrev pub lists_under : Leaves → GlobalLists
lists_under leaves = lists_of leaves.gctx

-- how many elements arrays have for a cursor
abbrev pub elements_for : Leaves → Elements
elements_for leaves = elements (lists_under leaves) leaves.length

-- the path to which a cursor has come
abbrev pub path_of : Leaves → List ℕ
path_of leaves = leaves.place.path.items

-- the first path to which a cursor has still to come
abbrev pub start_of : Leaves → List ℕ
start_of leaves = if leaves.is_begun then place_start leaves.place else []

-- more than the calls that still return a leaf
abbrev pub fuel : Leaves → ℕ
fuel leaves = if leaves.is_begun then place_left leaves.place else suc (place_left leaves.place)

-- a cursor has still to come to `leaf`, which is at `path`
abbrev pub IsRemaining : Leaves → List ℕ → LeafBytes → Type 0
IsRemaining leaves path leaf =
    HasLeafFrom (lists_under leaves) (elements_for leaves) leaves.place.ty (start_of leaves) path leaf

-- a cursor is at a part of a value, before its first step at the whole, and what it knows of leaves of types is right
pub record IsCursor (leaves : Leaves) : Type 0 where
  pub references : GlobalReferencesOk (lists_under leaves)
  pub place : IsPlace (lists_under leaves) (elements_for leaves) leaves.place
  pub known : AreLeavesKnown (lists_under leaves) (elements_for leaves) leaves.has_leaves.items
  pub whole : leaves.is_begun ≡ false → (leaves.place.path.items ≡ []) × (leaves.place.next ≡ 0)

-- a cursor has still to come to all leaves of the type of index `t`, and to no others
pub record YieldsAll (g : GlobalLists) (elements_of : Elements) (t : ℕ) (leaves : Leaves) : Type 0 where
  pub all : (path : List ℕ) (leaf : LeafBytes) → HasLeaf g elements_of t path leaf → IsRemaining leaves path leaf
  pub only : (path : List ℕ) (leaf : LeafBytes) → IsRemaining leaves path leaf → HasLeaf g elements_of t path leaf

-- the cursor `now` goes over the same type as `before`
pub record IsOverSame (before now : Leaves) : Type 0 where
  pub lists : lists_under now ≡ lists_under before
  pub length : now.length ≡ before.length
  pub ty : now.place.ty ≡ before.place.ty

-- a cursor came to `leaf`, the first leaf to which it had still to come, and has now still to come to all others
pub record IsNext (before now : Leaves) (leaf : LeafBytes) : Type 0 where
  pub over : IsOverSame before now
  pub first : IsFirstLeaf (lists_under before) (elements_for before) before.place.ty (start_of before) (path_of now)
      (start_of now) leaf
  pub fewer : fuel now < fuel before

-- the cursor `now` has still to come to the leaves to which `before` had still to come
pub record YieldsSame (before now : Leaves) : Type 0 where
  pub over : IsOverSame before now
  pub same : HasSameFrom (lists_under before) (elements_for before) before.place.ty (start_of before) (start_of now)

-- a cursor had no leaf to come to, and has none
pub record IsAtEnd (before now : Leaves) : Type 0 where
  pub same : YieldsSame before now
  pub none : HasNoneFrom (lists_under before) (elements_for before) before.place.ty (start_of before)
