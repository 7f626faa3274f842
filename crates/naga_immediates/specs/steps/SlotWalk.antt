-- What the steps of `from_type` promise.
use Rattle.std.specs.Prelude.{◌≡◌, ◌+◌, ◌*◌, ◌%◌, ◌<◌, ◌⊎◌, ℕ, Option, Some, None, ltb, slice_get, if◌then◌else◌}
use Rattle.naga_immediates.specs.Slots.{HasSlot, UsesSlot, byte_count, slot_count}
use Rattle.naga_immediates.specs.declared.immediates.ImmediateSlots.{ImmediateSlots}
use Rattle.naga_immediates.specs.declared.immediates.SlotWalk.{SlotWalk}
use Rattle.naga_ir.specs.ItemReferences.{GlobalLists}
use Rattle.naga_ir.specs.declared.types.TypeInner.{TypeInner}
use Rattle.naga_typing.specs.Leaves.{inner_at}

-- a byte that a slot has, if there is one of this number
abbrev pub byte_of : ℕ → Option ℕ
byte_of n = if ltb n byte_count then Some n else None

-- how many struct types a walk notes for each byte
abbrev pub notes_a_byte : ℕ
notes_a_byte = 8

-- how many struct types a walk notes for all bytes
abbrev pub note_count : ℕ
note_count = 2048

-- where a walk notes that it has walked through a struct type from a byte
abbrev pub place_of : (t byte : ℕ) → ℕ
place_of t byte = notes_a_byte * byte + t % notes_a_byte

-- a value of the type of index `t` that begins at byte `at` uses slot `k`
pub record TypeUses (g : GlobalLists) (t at k : ℕ) : Type 0 where
  pub inner : TypeInner
  pub is_its : inner_at g t ≡ Some inner
  pub uses : UsesSlot g inner at k

-- `new` has besides the slots of `old` exactly the slots that the type of index `t` uses from byte `at` on
pub record AddsSlotsOf (g : GlobalLists) (t at : ℕ) (old new : ImmediateSlots) : Type 0 where
  pub kept : (k : ℕ) → HasSlot old k → HasSlot new k
  pub gained : (k : ℕ) → k < slot_count → TypeUses g t at k → HasSlot new k
  pub only : (k : ℕ) → HasSlot new k → HasSlot old k ⊎ ((k < slot_count) × TypeUses g t at k)

-- a walk has found all slots of the types that it has noted
abbrev pub KnowsNoted : GlobalLists → SlotWalk → Type 0
KnowsNoted g walk =
    (byte t k : ℕ) → slice_get walk.noted (place_of t byte) ≡ Some (Some t) → k < slot_count → TypeUses g t byte k
    → HasSlot walk.slots k
