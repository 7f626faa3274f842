-- The numbers of what calls return.
use Rattle.std.specs.Prelude.{◌≡◌, ℕ}
use Rattle.naga_c.specs.declared.status.Status.{Status}
use Rattle.naga_c.specs.declared.status.Status.TheVariants.{Done, Refused, Unreadable, OutOfMemory, Room, NoType, Limit, Options, Settings, NotShareable, NotOpen}
use Rattle.naga_c.specs.declared.subject.NoSubject.{NoSubject}
use Rattle.naga_c.specs.declared.subject.NoSubject.TheVariants as none
use Rattle.naga_report.specs.declared.report.Outcome.{Outcome}
use Rattle.naga_report.specs.declared.report.Outcome.TheVariants as report

-- the number of a status
abbrev pub code : Status → ℕ
code Done = 0
code Refused = 1
code Unreadable = 2
code OutOfMemory = 3
code Room = 4
code NoType = 5
code Limit = 6
code Options = 7
code Settings = 8
code NotShareable = 9
code NotOpen = 10

-- a call returned the number of a status of which this holds
abbrev pub Returns : ℕ → (Status → Type 0) → Type 0
Returns number Holds = (status : Status) × (number ≡ code status) × Holds status

-- the status of a kind of report, whose number is the exit status of the program
abbrev pub status_of : Outcome → Status
status_of report.Accepted = Done
status_of report.Refused = Refused
status_of report.Unreadable = Unreadable

-- the status of a call that has no module to validate
abbrev pub status_without : NoSubject → Status
status_without none.Options = Options
status_without none.Limit = Limit
status_without (none.Unreadable _) = Unreadable
status_without none.Settings = Settings
status_without none.OutOfMemory = OutOfMemory
