-- The slots of a type by its leaves, for types without arrays.
use Rattle.std.specs.Prelude.{◌≡◌, ◌+◌, ◌≤◌, ◌↔◌, ℕ, List, Some}
use Rattle.naga_immediates.specs.Slots.{IsSetOf, HasSlot, SharesByte, byte_count}
use Rattle.naga_immediates.specs.declared.immediates.ImmediateSlots.{ImmediateSlots}
use Rattle.naga_ir.specs.ItemReferences.{GlobalLists}
use Rattle.naga_ir.specs.declared.types.ArraySize.{ArraySize}
use Rattle.naga_ir.specs.declared.types.TypeInner.TheVariants.{Array}
use Rattle.naga_typing.specs.Leaves.{IsInside, LeafBytes, elements, end_of, inner_at, leaf_at}

-- no array is inside the type of index `t`
abbrev pub HasNoArray : GlobalLists → ℕ → Type 0
HasNoArray g t =
    (u base : ℕ) (size : ArraySize) (stride : ℕ) → IsInside g t u → ¬ (inner_at g u ≡ Some (Array base size stride))

-- a leaf of a value of the type of index `t` that begins at byte `at` shares a byte with slot `k`
pub record SharesLeaf (g : GlobalLists) (n t at k : ℕ) : Type 0 where
  pub path : List ℕ
  pub leaf : LeafBytes
  pub is_its : leaf_at g (elements g n) t path ≡ Some leaf
  pub shares : SharesByte (at + leaf.first) leaf.size k

-- all bytes of the leaves of a value of the type of index `t` that begins at byte `at` are bytes of slots
abbrev pub LeavesHaveSlots : GlobalLists → (n t at : ℕ) → Type 0
LeavesHaveSlots g n t at =
    (path : List ℕ) (leaf : LeafBytes) → leaf_at g (elements g n) t path ≡ Some leaf → at + end_of leaf ≤ byte_count

-- of the slots that there are, `slots` are exactly those that share a byte with a leaf of a value of the type of index
-- `t` that begins at byte `at`; if all bytes of its leaves are bytes of slots, no leaf shares a byte with another slot
pub record HasSlotsOfLeaves (g : GlobalLists) (n t at : ℕ) (slots : ImmediateSlots) : Type 0 where
  pub exactly : IsSetOf (SharesLeaf g n t at) slots
  pub all : LeavesHaveSlots g n t at → (k : ℕ) → HasSlot slots k ↔ SharesLeaf g n t at k
