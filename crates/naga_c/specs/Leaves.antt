-- What a call on the leaves of types writes.
use Rattle.std.specs.Prelude.{◌≡◌, ◌+◌, ◌<◌, ◌≤◌, ℕ, List, [], ◌∷◌, ◌++◌, Some, length, map, slice_get, take}
use Rattle.std.specs.List.{All, AllZip, flat_map}
use Rattle.naga_arena.specs.Numbers.{largest_u32}
use Rattle.naga_info.specs.ModuleInfo.{ModuleInfoLists}
use Rattle.naga_ir.specs.ItemReferences.{global_lists}
use Rattle.naga_ir.specs.declared.ir.Module.{Module}
use Rattle.naga_leaves.specs.Found.{AreAll, AreFirst, Found, IsLeafOf}
use Rattle.naga_types.specs.declared.info.TypeInfo.{TypeInfo}
use Rattle.naga_typing.specs.FullTyping.{full_resolves}
use Rattle.naga_valid.specs.Accepted.{Accepts}
use Rattle.naga_c.specs.declared.subject.Subject.{Subject}
use Rattle.naga_c.specs.Buffers.{BeginsWith}
use Rattle.naga_c.specs.Calls.{IsNotAccepted}
use Rattle.naga_c.specs.Verdicts.{counts_of, settings_in}
use Rattle.naga_c.specs.declared.results.Counts.{Counts}
use Rattle.naga_c.specs.declared.results.LeafRow.{LeafRow}
use Rattle.naga_c.specs.declared.results.Outcome.{Outcome}
use Rattle.naga_c.specs.declared.status.Status.{Status}
use Rattle.naga_c.specs.declared.status.Status.TheVariants.{Done, OutOfMemory, NoType, Room, Limit}

-- a leaf of the type that was asked about at the place `query`
pub record Answer : Type 0 where
  pub query : ℕ
  pub found : Found

-- a leaf that was found, as one of the type that was asked about at the place `query`
abbrev pub answer_to : ℕ → Found → Answer
answer_to query found = record { query = query; found = found }

-- the leaves that were found of each type that was asked about, from the place `query` on
abbrev pub answers_from : ℕ → List (List Found) → List Answer
answers_from query [] = []
answers_from query (found ∷ others) = map (answer_to query) found ++ answers_from (query + 1) others

-- the row of an answer whose path begins at the place `at` of the buffer of paths
abbrev pub row_of : ℕ → Answer → LeafRow
row_of at a = record {
  first = a.found.leaf.first;
  path_at = at;
  path_length = length a.found.path;
  size = a.found.leaf.size;
  alignment = a.found.leaf.alignment;
  query = a.query;
}

-- the rows of answers whose paths follow one another from the place `at` on
abbrev pub rows_from : ℕ → List Answer → List LeafRow
rows_from at [] = []
rows_from at (a ∷ answers) = row_of at a ∷ rows_from (at + length a.found.path) answers

-- the paths of answers, one after another
abbrev pub paths_of : List Answer → List ℕ
paths_of answers = flat_map (λ (a : Answer). a.found.path) answers

-- two buffers, and how much of them is written
pub record Buffers : Type 0 where
  pub leaves : List LeafRow
  pub paths : List ℕ
  pub counts : Counts

-- these two buffers, of which so much is written
abbrev pub buffers : List LeafRow → List ℕ → Counts → Buffers
buffers leaves paths counts = record { leaves = leaves; paths = paths; counts = counts }

-- the buffers `old` became `new`, which begin with the rows and the paths of `answers`, as many as the counts say
pub record AreWritten (answers : List Answer) (old new : Buffers) : Type 0 where
  pub leaves : BeginsWith (rows_from 0 answers) old.leaves new.leaves
  pub paths : BeginsWith (paths_of answers) old.paths new.paths
  pub as_many : new.counts ≡ record { leaves = length answers; paths = length (paths_of answers) }

-- there is no room for a leaf with this path: one of the buffers is full, or the path is longer than a row can say
pub data HasNoRoom (buffers : Buffers) (path : List ℕ) : Type 0 where
  no_row : length buffers.leaves ≤ buffers.counts.leaves → HasNoRoom buffers path
  no_path : length buffers.paths < buffers.counts.paths + length path → HasNoRoom buffers path
  too_long : largest_u32 < length path → HasNoRoom buffers path

-- not all leaves of which `IsLeaf` holds were written: `found` were, and with the next one there are more than
-- `most`, or the buffers have no room for it, or memory was refused
pub data StopsAfter (most : ℕ) (IsLeaf : Found → Type 0) (found : List Found) (buffers : Buffers) (status : Status) : Type 0 where
  over : (next : Found) → AreFirst IsLeaf (found ++ next ∷ []) → most ≤ buffers.counts.leaves → status ≡ Limit
      → StopsAfter most IsLeaf found buffers status
  full : (next : Found) → AreFirst IsLeaf (found ++ next ∷ []) → buffers.counts.leaves < most
      → HasNoRoom buffers next.path → status ≡ Room → StopsAfter most IsLeaf found buffers status
  no_memory : AreFirst IsLeaf found → status ≡ OutOfMemory → StopsAfter most IsLeaf found buffers status

-- all types of these indexes are in the module `m`
abbrev pub HasTypes : Module → List ℕ → Type 0
HasTypes m types = All (λ ty. ty < length m.types) types

-- of each of `types` of the module `m` all leaves were found
abbrev pub AreLeavesOfEach : Module → ℕ → List ℕ → List (List Found) → Type 0
AreLeavesOfEach m n types found = AllZip (λ ty f. AreAll (IsLeafOf (global_lists m) n ty) f) types found

-- a call on an accepted module `m` wrote `answers`, and left `buffers` and a status: all leaves of `types`, in their
-- order, where a runtime-sized array has `n` elements; or those of the first types and the first ones of the next, as
-- there is no room for more, or more than `most` leaves
pub data ReportsLeaves (m : Module) (types : List ℕ) (n most : ℕ) (answers : List Answer) (buffers : Buffers) (status : Status) : Type 0 where
  no_type : ¬ (HasTypes m types) → answers ≡ [] → status ≡ NoType → ReportsLeaves m types n most answers buffers status
  all : HasTypes m types → (found : List (List Found)) → AreLeavesOfEach m n types found
      → answers ≡ answers_from 0 found → status ≡ Done → ReportsLeaves m types n most answers buffers status
  some : HasTypes m types → (found : List (List Found)) (ty : ℕ) (last : List Found)
      → AreLeavesOfEach m n (take (length found) types) found → slice_get types (length found) ≡ Some ty
      → answers ≡ answers_from 0 (found ++ last ∷ [])
      → StopsAfter most (IsLeafOf (global_lists m) n ty) last buffers status
      → ReportsLeaves m types n most answers buffers status
  too_many : HasTypes m types → (found : List (List Found)) → AreLeavesOfEach m n (take (length found) types) found
      → largest_u32 < length found → length found < length types
      → answers ≡ answers_from 0 found → status ≡ Room → ReportsLeaves m types n most answers buffers status

-- nothing is written
abbrev pub no_counts : Counts
no_counts = record { leaves = 0; paths = 0 }

-- a call left the buffers `old` as they were
abbrev pub LeavesBuffers : (old new : Buffers) → Type 0
LeavesBuffers old new = new ≡ record old { counts = no_counts }

-- a call on a module found the buffers `old` and left `new`, which begin with what it found of the leaves of
-- `types`, if the module is accepted, and else are as they were; and it left an outcome and a status
pub data ChecksLeaves (subject : Subject) (types : List ℕ) (n most : ℕ) (old new : Buffers) (outcome : Outcome) (status : Status) : Type 0 where
  accepted : (infos : List TypeInfo) (lists : ModuleInfoLists)
      → Accepts full_resolves subject.«module» (settings_in subject) infos lists
      → (answers : List Answer) → AreWritten answers old new
      → ReportsLeaves subject.«module» types n most answers new status → outcome ≡ counts_of subject.«module»
      → ChecksLeaves subject types n most old new outcome status
  not_accepted : IsNotAccepted subject.«module» (settings_in subject)
      (λ refused. LeavesBuffers old new × (outcome ≡ refused)) status
      → ChecksLeaves subject types n most old new outcome status
