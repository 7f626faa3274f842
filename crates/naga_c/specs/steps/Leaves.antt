-- Leaves that are found and written one after another.
use Rattle.std.specs.Prelude.{◌≡◌, ℕ, List, ◌++◌, map}
use Rattle.naga_ir.specs.ItemReferences.{global_lists}
use Rattle.naga_ir.specs.declared.ir.Module.{Module}
use Rattle.naga_leaves.specs.Found.{AreAll, Found, IsLeafOf}
use Rattle.naga_typing.specs.Leaves.{LeafBytes}
use Rattle.naga_c.specs.Leaves.{Answer, AreWritten, Buffers, ReportsLeaves, StopsAfter, answer_to}
use Rattle.naga_c.specs.declared.status.Status.{Status}
use Rattle.naga_c.specs.declared.status.Status.TheVariants.{Done}

-- the leaf at a path, as an answer to the question at the place `query`
abbrev pub answer : ℕ → List ℕ → LeafBytes → Answer
answer query path leaf = answer_to query (record { path = path; leaf = leaf })

-- `added` were written to the buffers `old`, which are `new` then, after all that was written to them before
abbrev pub AddsAnswers : List Answer → (old new : Buffers) → Type 0
AddsAnswers added old new =
    (answers : List Answer) (first : Buffers) → AreWritten answers first old → AreWritten (answers ++ added) first new

-- the leaves of which `IsLeaf` holds were found up to a place, and all of them if the status says so
pub data EndsAfter (most : ℕ) (IsLeaf : Found → Type 0) (found : List Found) (buffers : Buffers) (status : Status) : Type 0 where
  done : AreAll IsLeaf found → status ≡ Done → EndsAfter most IsLeaf found buffers status
  stopped : StopsAfter most IsLeaf found buffers status → EndsAfter most IsLeaf found buffers status

-- a call wrote the leaves of the type of index `ty` of the module `m`, as answers to the question at the place `query`,
-- where a runtime-sized array has `n` elements, and `most` leaves may be written in all
pub record WritesType (m : Module) (n ty most query : ℕ) (old new : Buffers) (status : Status) : Type 0 where
  pub found : List Found
  pub added : AddsAnswers (map (answer_to query) found) old new
  pub ends : EndsAfter most (IsLeafOf (global_lists m) n ty) found new status

-- a call on an accepted module found the buffers `old` and left `new`: the answers that it wrote
pub record WritesAll (m : Module) (types : List ℕ) (n most : ℕ) (old new : Buffers) (status : Status) : Type 0 where
  pub answers : List Answer
  pub added : AddsAnswers answers old new
  pub reported : ReportsLeaves m types n most answers new status
