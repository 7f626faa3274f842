-- Modules that are validated, and then read or kept.
use Rattle.std.specs.Prelude.{◌≡◌, ℕ, Result, Ok, Err}
use Rattle.naga_c.specs.Accepted.{IsAccepted}
use Rattle.naga_c.specs.Calls.{IsNotAccepted}
use Rattle.naga_c.specs.Statuses.{status_without}
use Rattle.naga_c.specs.Verdicts.{outcome_without, settings_in}
use Rattle.naga_c.specs.declared.accepted.AcceptedModule.{AcceptedModule}
use Rattle.naga_c.specs.declared.accepted.NotAccepted.{NotAccepted}
use Rattle.naga_c.specs.declared.subject.NoSubject.{NoSubject}
use Rattle.naga_c.specs.declared.subject.Subject.{Subject}

-- a call that was given this has no accepted module, and leaves `not`: there is nothing to validate, or it is not
-- accepted
abbrev pub HasNone : Result Subject NoSubject → NotAccepted → Type 0
HasNone (Ok subject) not =
    IsNotAccepted subject.«module» (settings_in subject) (λ outcome. not.outcome ≡ outcome) not.status
HasNone (Err why) not = (not.outcome ≡ outcome_without why) × (not.status ≡ status_without why)

-- validating what a call was given, of which `IsGiven` holds and at most `most` leaves are wanted, comes to this
abbrev pub Accepting : (IsGiven : Result Subject NoSubject → Type 0) → (most : ℕ) → Result AcceptedModule NotAccepted
    → Type 0
Accepting IsGiven most (Ok m) = IsGiven (Ok m.subject) × (m.most_leaves ≡ most) × IsAccepted m
Accepting IsGiven most (Err not) = (given : Result Subject NoSubject) × IsGiven given × HasNone given not
