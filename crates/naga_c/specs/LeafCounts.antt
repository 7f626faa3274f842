-- What a call that counts the leaves of types writes.
use Rattle.std.specs.Prelude.{◌≡◌, ◌⊎◌, ◌+◌, ◌<◌, ◌≤◌, ℕ, List, [], ◌∷◌, ◌++◌, Result, Ok, Err, Some, length, slice_get, take}
use Rattle.naga_arena.specs.Numbers.{largest_u64}
use Rattle.naga_info.specs.ModuleInfo.{ModuleInfoLists}
use Rattle.naga_ir.specs.ItemReferences.{global_lists}
use Rattle.naga_ir.specs.declared.ir.Module.{Module}
use Rattle.naga_leaves.specs.Found.{AreFirst, Found, IsLeafOf}
use Rattle.naga_types.specs.declared.info.TypeInfo.{TypeInfo}
use Rattle.naga_typing.specs.FullTyping.{full_resolves}
use Rattle.naga_valid.specs.Accepted.{Accepts}
use Rattle.naga_c.specs.Calls.{IsNotAccepted}
use Rattle.naga_c.specs.Leaves.{AreLeavesOfEach, HasTypes, no_counts}
use Rattle.naga_c.specs.Verdicts.{counts_of, settings_in}
use Rattle.naga_c.specs.declared.results.Counts.{Counts}
use Rattle.naga_c.specs.declared.results.Outcome.{Outcome}
use Rattle.naga_c.specs.declared.status.Status.{Status}
use Rattle.naga_c.specs.declared.status.Status.TheVariants.{Done, OutOfMemory, NoType, Limit}
use Rattle.naga_c.specs.declared.subject.Subject.{Subject}

-- how many indexes the paths of leaves have together
abbrev pub path_total : List Found → ℕ
path_total [] = 0
path_total (f ∷ found) = length f.path + path_total found

-- these counts, and those of leaves that were found
abbrev pub with_found : Counts → List Found → Counts
with_found before found = record { leaves = before.leaves + length found; paths = before.paths + path_total found }

-- these counts, and those of the leaves that were found of each of some types
abbrev pub with_each : Counts → List (List Found) → Counts
with_each before [] = before
with_each before (found ∷ others) = with_each (with_found before found) others

-- with a leaf whose path has so many indexes there are more than `most`, or more indexes than 64 bits can say
abbrev pub IsTooMuch : ℕ → Counts → ℕ → Type 0
IsTooMuch most counts indexes = (most ≤ counts.leaves) ⊎ (largest_u64 < counts.paths + indexes)

-- why the leaves of a type can't be counted after `before`: with the next one there are too many, or memory was refused
pub data CannotCountType (m : Module) (n ty most : ℕ) (before : Counts) (status : Status) : Type 0 where
  over : (found : List Found) (next : Found) → AreFirst (IsLeafOf (global_lists m) n ty) (found ++ next ∷ [])
      → IsTooMuch most (with_found before found) (length next.path) → status ≡ Limit
      → CannotCountType m n ty most before status
  no_memory : status ≡ OutOfMemory → CannotCountType m n ty most before status

-- why the leaves of types of the module `m` can't be counted: it lacks one of them, or those of one can't after those
-- of the types before it
pub data CannotCount (m : Module) (types : List ℕ) (n most : ℕ) (status : Status) : Type 0 where
  no_type : ¬ (HasTypes m types) → status ≡ NoType → CannotCount m types n most status
  at_type : HasTypes m types → (found : List (List Found)) (ty : ℕ)
      → AreLeavesOfEach m n (take (length found) types) found → slice_get types (length found) ≡ Some ty
      → CannotCountType m n ty most (with_each no_counts found) status → CannotCount m types n most status

-- what counting the leaves of types of the module `m` comes to
abbrev pub CountsAll : Module → List ℕ → (n most : ℕ) → Result Counts Status → Type 0
CountsAll m types n most (Ok counts) =
    (found : List (List Found)) × AreLeavesOfEach m n types found × (counts ≡ with_each no_counts found)
CountsAll m types n most (Err status) = CannotCount m types n most status

-- what a call writes and ends with that counted: the counts, or nothing
abbrev pub Writes : Result Counts Status → Counts → Status → Type 0
Writes (Ok counted) counts status = (counts ≡ counted) × (status ≡ Done)
Writes (Err why) counts status = (counts ≡ no_counts) × (status ≡ why)

-- a call on a module wrote `counts` and an outcome and ended with `status`: how many leaves `types` have and how many
-- indexes their paths, if the module is accepted and there are at most `most`, and else nothing
pub data ChecksCounts (subject : Subject) (types : List ℕ) (n most : ℕ) (counts : Counts) (outcome : Outcome) (status : Status) : Type 0 where
  accepted : (infos : List TypeInfo) (lists : ModuleInfoLists)
      → Accepts full_resolves subject.«module» (settings_in subject) infos lists
      → (result : Result Counts Status) → CountsAll subject.«module» types n most result → Writes result counts status
      → outcome ≡ counts_of subject.«module»
      → ChecksCounts subject types n most counts outcome status
  not_accepted : IsNotAccepted subject.«module» (settings_in subject) (λ o. (counts ≡ no_counts) × (outcome ≡ o)) status
      → ChecksCounts subject types n most counts outcome status
