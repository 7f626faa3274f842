-- What a call on words or on a text ends with, whatever it is asked.
use Rattle.std.specs.Prelude.{◌≡◌, ℕ, List, Result, Ok, Err}
use Rattle.naga_ir.specs.declared.ir.Module.{Module}
use Rattle.naga_typing.specs.FullTyping.{full_resolves}
use Rattle.naga_valid.specs.Accepted.{Refuses}
use Rattle.naga_valid.specs.State.{Settings}
use Rattle.naga_valid.specs.declared.error.ValidationError.{ValidationError}
use Rattle.naga_c.specs.Statuses.{status_without}
use Rattle.naga_c.specs.Subjects.{IsSubjectOfText, IsSubjectOfWords}
use Rattle.naga_c.specs.Verdicts.{no_outcome, outcome_without, refused_by}
use Rattle.naga_c.specs.declared.options.Options.{Options}
use Rattle.naga_c.specs.declared.results.Outcome.{Outcome}
use Rattle.naga_c.specs.declared.status.Status.{Status}
use Rattle.naga_c.specs.declared.status.Status.TheVariants.{Refused, OutOfMemory}
use Rattle.naga_c.specs.declared.subject.NoSubject.{NoSubject}
use Rattle.naga_c.specs.declared.subject.Subject.{Subject}

-- a call that had this to validate, or nothing, ended with `status`: `Checks` holds of that and of the status; or
-- `Leaves` holds of an outcome that says why there was nothing
abbrev pub EndsWith : Result Subject NoSubject → (Checks : Subject → Status → Type 0) → (Leaves : Outcome → Type 0)
    → Status → Type 0
EndsWith (Ok subject) Checks Leaves status = Checks subject status
EndsWith (Err why) Checks Leaves status = Leaves (outcome_without why) × (status ≡ status_without why)

-- a call on `words` with `options` ended with `status`, as `Checks` says of what was read, or `Leaves` of why
-- nothing was
abbrev pub OfWords : (options : Options) → (words : List ℕ) → (Checks : Subject → Status → Type 0)
    → (Leaves : Outcome → Type 0) → Status → Type 0
OfWords options words Checks Leaves status =
    (result : Result Subject NoSubject) × IsSubjectOfWords options words result × EndsWith result Checks Leaves status

-- a call on a text with `options` ended with `status`, as `Checks` says of what was read, or `Leaves` of why nothing
-- was
abbrev pub OfText : (options : Options) → (text : List ℕ) → (Checks : Subject → Status → Type 0)
    → (Leaves : Outcome → Type 0) → Status → Type 0
OfText options text Checks Leaves status =
    (result : Result Subject NoSubject) × IsSubjectOfText options text result × EndsWith result Checks Leaves status

-- a call that validated the module `m` by these settings ended with `status`, as the module is not accepted: it is
-- refused, and `Leaves` holds of the outcome of its error; or memory was refused, and it holds of one with nothing
pub data IsNotAccepted (m : Module) (settings : Settings) (Leaves : Outcome → Type 0) (status : Status) : Type 0 where
  refused : (e : ValidationError) → Refuses full_resolves m settings e → Leaves (refused_by m e) → status ≡ Refused
      → IsNotAccepted m settings Leaves status
  undecided : Leaves no_outcome → status ≡ OutOfMemory → IsNotAccepted m settings Leaves status

-- a call left the buffer `old` as it was, and wrote the outcome `new_outcome`, which is `outcome`
abbrev pub LeavesBuffer : {A : Type 0} → (old new : List A) → (new_outcome outcome : Outcome) → Type 0
LeavesBuffer old new new_outcome outcome = (new ≡ old) × (new_outcome ≡ outcome)
