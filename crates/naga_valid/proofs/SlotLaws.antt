-- In accepted modules the slots of types without arrays are the slots of their leaves.
use Rattle.std.proofs.Common.{◌≡◌, ℕ, List, Option, Some, None, IfSome, slice_get}
use Rattle.naga_immediates.proofs.SlotLeaves.{slots_of_leaves}
use Rattle.naga_immediates.specs.LeafSlots.{HasNoArray, HasSlotsOfLeaves}
use Rattle.naga_immediates.specs.Slots.{IsSetOf, UsesSlot}
use Rattle.naga_immediates.specs.declared.immediates.ImmediateSlots.{ImmediateSlots}
use Rattle.naga_ir.specs.ItemReferences.{global_lists}
use Rattle.naga_ir.specs.declared.ir.Module.{Module}
use Rattle.naga_ir.specs.declared.types.TypeInner.{TypeInner}
use Rattle.naga_types.specs.HostLayouts.{HasStorageByLeaves, HaveLeafAlignments, IsForHosts}
use Rattle.naga_types.specs.declared.info.TypeInfo.{TypeInfo}
use Rattle.naga_typing.specs.Leaves.{inner_at}
use Rattle.naga_valid.proofs.ModuleLaws.{storage_by_leaves}
use Rattle.naga_valid.specs.Accepted.{AreValidTypes}
use Rattle.naga_valid.specs.State.{Settings}

-- what follows from what holds of an info holds of it too
followed : (P Q : TypeInfo → Type 0) (o : Option TypeInfo) → ((info : TypeInfo) → P info → Q info) → IfSome o P → IfSome o Q
followed P Q None f h = tt
followed P Q (Some info) f h = f info h

module _ (m : Module) (settings : Settings) (infos : List TypeInfo) (valid : AreValidTypes m settings infos) (t n at : ℕ) (slots : ImmediateSlots) where
  -- a set has the slots of the leaves if it has those that the type uses
  abbrev UsesLeaves : Type 0
  UsesLeaves = HasNoArray (global_lists m) t → (inner : TypeInner) → inner_at (global_lists m) t ≡ Some inner → IsSetOf (UsesSlot (global_lists m) inner at) slots → HasSlotsOfLeaves (global_lists m) n t at slots

  pub same_as_leaves : IfSome (slice_get infos t) (λ info. IsForHosts info → UsesLeaves)
  same_as_leaves =
      followed (λ info. IsForHosts info → HaveLeafAlignments (global_lists m) t × HasStorageByLeaves (global_lists m) t info) (λ info. IsForHosts info → UsesLeaves) (slice_get infos t)
      (λ info h for_hosts no_array inner is exactly. slots_of_leaves (global_lists m) t (h for_hosts).0 no_array n at inner slots is exactly)
      (storage_by_leaves m settings infos valid t)
