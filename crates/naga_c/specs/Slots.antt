-- What a call on slots of immediate data writes.
use Rattle.std.specs.Prelude.{◌≡◌, ◌<◌, ◌≤◌, ℕ, IsTrue, List, Some, length, slice_get}
use Rattle.naga_flags.specs.Bits.{HOST_SHAREABLE}
use Rattle.naga_flags.specs.Flags.{has}
use Rattle.naga_immediates.specs.Slots.{IsSetOf, UsesSlot}
use Rattle.naga_immediates.specs.declared.immediates.ImmediateSlots.{ImmediateSlots}
use Rattle.naga_info.specs.ModuleInfo.{ModuleInfoLists}
use Rattle.naga_ir.specs.ItemReferences.{global_lists}
use Rattle.naga_ir.specs.declared.ir.Module.{Module}
use Rattle.naga_ir.specs.declared.types.«Type».{«Type»}
use Rattle.naga_types.specs.declared.info.TypeInfo.{TypeInfo}
use Rattle.naga_typing.specs.FullTyping.{full_resolves}
use Rattle.naga_valid.specs.Accepted.{Accepts}
use Rattle.naga_c.specs.declared.subject.Subject.{Subject}
use Rattle.naga_c.specs.Calls.{IsNotAccepted}
use Rattle.naga_c.specs.Verdicts.{counts_of, settings_in}
use Rattle.naga_c.specs.declared.results.Outcome.{Outcome}
use Rattle.naga_c.specs.declared.status.Status.{Status}
use Rattle.naga_c.specs.declared.status.Status.TheVariants.{Done, NoType, NotShareable}

-- one of these infos has the index `ty`, and by it hosts may share values of its type
abbrev pub IsShareable : List TypeInfo → ℕ → Type 0
IsShareable infos ty = (info : TypeInfo) × (slice_get infos ty ≡ Some info) × IsTrue (has info.flags.0 HOST_SHAREABLE)

-- `slots` are the slots that a value of the type of index `ty` of the module `m` uses if it begins at the byte `offset`
pub record AreSlotsOf (m : Module) (ty offset : ℕ) (slots : ImmediateSlots) : Type 0 where
  pub whole : «Type»
  pub there : slice_get m.types ty ≡ Some whole
  pub exactly : IsSetOf (UsesSlot (global_lists m) whole.inner offset) slots

-- with these infos there are no slots of the type of index `ty`, as `status` says: there is no such type, or hosts may
-- not share its values
pub data HasNoSlots (infos : List TypeInfo) (ty : ℕ) (status : Status) : Type 0 where
  no_type : length infos ≤ ty → status ≡ NoType → HasNoSlots infos ty status
  not_shareable : ty < length infos → ¬ (IsShareable infos ty) → status ≡ NotShareable → HasNoSlots infos ty status

-- a call on a module wrote `slots` and `outcome` and ended with `status`: the slots that a value of the type of index
-- `ty` uses from the byte `offset` on, if the module is accepted and hosts may share such values, else 0
pub data ChecksSlots (subject : Subject) (ty offset slots : ℕ) (outcome : Outcome) (status : Status) : Type 0 where
  written : (infos : List TypeInfo) (lists : ModuleInfoLists)
      → Accepts full_resolves subject.«module» (settings_in subject) infos lists → IsShareable infos ty
      → AreSlotsOf subject.«module» ty offset (record { 0 = slots }) → outcome ≡ counts_of subject.«module»
      → status ≡ Done → ChecksSlots subject ty offset slots outcome status
  none : (infos : List TypeInfo) (lists : ModuleInfoLists)
      → Accepts full_resolves subject.«module» (settings_in subject) infos lists → HasNoSlots infos ty status
      → slots ≡ 0 → outcome ≡ counts_of subject.«module» → ChecksSlots subject ty offset slots outcome status
  not_accepted : IsNotAccepted subject.«module» (settings_in subject)
      (λ refused. (slots ≡ 0) × (outcome ≡ refused)) status
      → ChecksSlots subject ty offset slots outcome status
