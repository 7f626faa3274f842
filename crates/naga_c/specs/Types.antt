-- What a call on a module writes of its types.
use Rattle.std.specs.Prelude.{◌≡◌, ◌<◌, ◌≤◌, ℕ, List, [], ◌∷◌, Result, Ok, Err, length, if◌then◌else◌}
use Rattle.std.specs.Result.{is_ok}
use Rattle.naga_info.specs.ModuleInfo.{ModuleInfoLists}
use Rattle.naga_ir.specs.ItemReferences.{global_lists}
use Rattle.naga_ir.specs.declared.ir.Module.{Module}
use Rattle.naga_types.specs.declared.error.Disalignment.{Disalignment}
use Rattle.naga_types.specs.declared.info.TypeInfo.{TypeInfo}
use Rattle.naga_typing.specs.FullTyping.{full_resolves}
use Rattle.naga_typing.specs.Layout.{AreLayouts}
use Rattle.naga_typing.specs.declared.layouter.TypeLayout.{TypeLayout}
use Rattle.naga_valid.specs.Accepted.{Accepts}
use Rattle.naga_c.specs.declared.subject.Subject.{Subject}
use Rattle.naga_c.specs.Buffers.{BeginsWith}
use Rattle.naga_c.specs.Calls.{IsNotAccepted, LeavesBuffer}
use Rattle.naga_c.specs.Codes.{disalignment_code}
use Rattle.naga_c.specs.Verdicts.{counts_of, no_outcome, settings_in}
use Rattle.naga_c.specs.declared.results.Outcome.{Outcome}
use Rattle.naga_c.specs.declared.results.TypeRow.{TypeRow}
use Rattle.naga_c.specs.declared.status.Status.{Status}
use Rattle.naga_c.specs.declared.status.Status.TheVariants.{Done, OutOfMemory, Room}

-- the alignment of a layout, or 0 if there is none
abbrev pub alignment_of : Result ℕ (ℕ × Disalignment) → ℕ
alignment_of (Ok alignment) = alignment
alignment_of (Err e) = 0

-- why there is no layout, or 0 if there is one
abbrev pub error_of : Result ℕ (ℕ × Disalignment) → ℕ
error_of (Ok alignment) = 0
error_of (Err e) = disalignment_code e.1

-- the row of a type with an info and a layout
abbrev pub type_row : TypeInfo → TypeLayout → TypeRow
type_row info layout = record {
  flags = info.flags.0;
  size = layout.size;
  alignment = layout.alignment;
  uniform_alignment = alignment_of info.uniform_layout;
  uniform_error = error_of info.uniform_layout;
  storage_alignment = alignment_of info.storage_layout;
  storage_error = error_of info.storage_layout;
  immediates = if is_ok info.immediates_compatibility then 1 else 0;
}

-- the rows of types with infos and layouts, in their order
abbrev pub rows_of : List TypeInfo → List TypeLayout → List TypeRow
rows_of [] layouts = []
rows_of (info ∷ infos) [] = []
rows_of (info ∷ infos) (layout ∷ layouts) = type_row info layout ∷ rows_of infos layouts

-- a call on an accepted module `m`, whose types have `infos`, found the buffer `old` and left `new`, an outcome and a
-- status: the rows of all types if the buffer has room for them; if it has no element they are not wanted
pub data ReportsTypes (m : Module) (infos : List TypeInfo) (old new : List TypeRow) (outcome : Outcome) (status : Status) : Type 0 where
  unwanted : old ≡ [] → LeavesBuffer old new outcome (counts_of m) → status ≡ Done
      → ReportsTypes m infos old new outcome status
  short : 0 < length old → length old < length m.types → LeavesBuffer old new outcome (counts_of m) → status ≡ Room
      → ReportsTypes m infos old new outcome status
  written : length m.types ≤ length old → (layouts : List TypeLayout) → AreLayouts (global_lists m) layouts
      → BeginsWith (rows_of infos layouts) old new
      → outcome ≡ record (counts_of m) { written = length m.types } → status ≡ Done
      → ReportsTypes m infos old new outcome status
  no_memory : LeavesBuffer old new outcome no_outcome → status ≡ OutOfMemory
      → ReportsTypes m infos old new outcome status

-- a call on a module found the buffer `old` and left `new`, an outcome and a status: the rows of the types of the
-- module if it is accepted, else its refusal
pub data ChecksTypes (subject : Subject) (old new : List TypeRow) (outcome : Outcome) (status : Status) : Type 0 where
  accepted : (infos : List TypeInfo) (lists : ModuleInfoLists)
      → Accepts full_resolves subject.«module» (settings_in subject) infos lists
      → ReportsTypes subject.«module» infos old new outcome status → ChecksTypes subject old new outcome status
  not_accepted : IsNotAccepted subject.«module» (settings_in subject) (LeavesBuffer old new outcome) status
      → ChecksTypes subject old new outcome status
