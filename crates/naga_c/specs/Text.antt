-- What the call for a report leaves with its caller.
use Rattle.std.specs.Prelude.{◌≡◌, ℕ, ◌<◌, List, length}
use Rattle.naga_c.specs.Buffers.{BeginsWith}
use Rattle.naga_c.specs.Statuses.{status_of}
use Rattle.naga_c.specs.declared.status.Status.{Status}
use Rattle.naga_c.specs.declared.status.Status.TheVariants.{OutOfMemory, Room}
use Rattle.naga_report.specs.Report.{IsReport, refused_memory_text}
use Rattle.naga_report.specs.declared.report.Outcome.{Outcome}

-- a call for the report on the text `input` found the buffer `old` and the length `old_count`, and left `new`,
-- `count` and a status: it wrote the report and its length, or the length alone, or memory was refused, and it wrote
-- nothing
pub data IsReported (input old new : List ℕ) (old_count count : ℕ) (status : Status) : Type 0 where
  written : (text : List ℕ) (outcome : Outcome) → IsReport input text outcome → ¬ (text ≡ refused_memory_text)
      → status ≡ status_of outcome → count ≡ length text → BeginsWith text old new
      → IsReported input old new old_count count status
  short : (text : List ℕ) (outcome : Outcome) → IsReport input text outcome → ¬ (text ≡ refused_memory_text)
      → status ≡ Room → count ≡ length text → length old < length text → new ≡ old
      → IsReported input old new old_count count status
  no_memory : status ≡ OutOfMemory → new ≡ old → count ≡ old_count → IsReported input old new old_count count status
