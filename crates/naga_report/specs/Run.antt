-- What a run leaves with its writer.
use Rattle.std.specs.Prelude.{ℕ, List, codes, take, Option, Result, Ok, Err}
use Rattle.std.specs.Io.KnownBytes.{Appends}
use Rattle.naga_report.specs.Report.{IsReport}
use Rattle.naga_report.specs.declared.report.Outcome.{Outcome}
use Rattle.naga_report.specs.declared.report.Outcome.TheVariants.{Accepted, Refused, Unreadable}
use Rattle.naga_report.specs.declared.run.RunFault.{RunFault}
use Rattle.naga_report.specs.declared.run.RunFault.TheVariants as fault

-- the bytes of a writer grew from `old` to `new` by a report on `input`, of the kind `outcome`
abbrev pub Reports : List ℕ → Outcome → Option (List ℕ) → Option (List ℕ) → Type 0
Reports input outcome old new = (text : List ℕ) × IsReport input text outcome × Appends old new text

-- the bytes of a writer grew from `old` to `new` by a beginning of `text`
abbrev pub AppendsFront : List ℕ → Option (List ℕ) → Option (List ℕ) → Type 0
AppendsFront text old new = (n : ℕ) × Appends old new (take n text)

-- the bytes of a writer grew from `old` to `new` by a beginning of a report on `input`
abbrev pub BeginsReport : List ℕ → Option (List ℕ) → Option (List ℕ) → Type 0
BeginsReport input old new = (text : List ℕ) × (outcome : Outcome) × IsReport input text outcome × AppendsFront text old new

-- the message of a fault
abbrev pub fault_text : RunFault → List ℕ
fault_text fault.Read = codes "reading failed"
fault_text fault.Write = codes "writing failed"
fault_text fault.OutOfMemory = codes "out of memory"

-- the exit status of a run
abbrev pub status_of : Result Outcome RunFault → ℕ
status_of (Ok Accepted) = 0
status_of (Ok Refused) = 1
status_of (Ok Unreadable) = 2
status_of (Err _) = 3
