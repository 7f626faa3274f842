-- What follows of modules that are accepted, and of those that aren't.
use Rattle.std.proofs.Common.{◌≡◌, ℕ, Result, Ok, Err, subst}
use Rattle.naga_ir.specs.declared.ir.Module.{Module}
use Rattle.naga_valid.specs.State.{Settings}
use Rattle.naga_c.specs.steps.Accepting.{Accepting, HasNone}
use Rattle.naga_c.specs.Calls.{EndsWith, IsNotAccepted, refused, undecided}
use Rattle.naga_c.specs.Verdicts.{settings_in}
use Rattle.naga_c.specs.declared.accepted.AcceptedModule.{AcceptedModule}
use Rattle.naga_c.specs.declared.accepted.NotAccepted.{NotAccepted}
use Rattle.naga_c.specs.declared.results.Outcome.{Outcome}
use Rattle.naga_c.specs.declared.status.Status.{Status}
use Rattle.naga_c.specs.declared.subject.NoSubject.{NoSubject}
use Rattle.naga_c.specs.declared.subject.Subject.{Subject}

-- what holds of the outcome of a module that is not accepted holds of it in other words
pub not_accepted_as : (m : Module) (settings : Settings) (L K : Outcome → Type 0) (status : Status) → ((o : Outcome) → L o → K o) → IsNotAccepted m settings L status → IsNotAccepted m settings K status
not_accepted_as m settings L K status f (refused e r left is) = refused e r (f _ left) is
not_accepted_as m settings L K status f (undecided left is) = undecided (f _ left) is

-- what a call was given is described in other words
pub given_as : (Is As : Result Subject NoSubject → Type 0) (most : ℕ) (result : Result AcceptedModule NotAccepted)
    → ((given : Result Subject NoSubject) → Is given → As given) → Accepting Is most result → Accepting As most result
given_as Is As most (Ok m) f h = (f (Ok m.subject) h.0, h.1, h.2)
given_as Is As most (Err not) f h = (h.0, f h.0 h.1, h.2)

-- a call ends without an accepted module, as `Checks` says of one that is not accepted, or `Leaves` of an outcome
pub ends_without : (given : Result Subject NoSubject) (not : NotAccepted) (Checks : Subject → Status → Type 0) (Leaves : Outcome → Type 0)
    → HasNone given not
    → ((subject : Subject) → IsNotAccepted subject.«module» (settings_in subject) Leaves not.status → Checks subject not.status)
    → Leaves not.outcome → EndsWith given Checks Leaves not.status
ends_without (Ok subject) not Checks Leaves h checked left =
    checked subject (not_accepted_as subject.«module» (settings_in subject) (λ (o : Outcome). not.outcome ≡ o) Leaves not.status (λ o e. subst Leaves e left) h)
ends_without (Err why) not Checks Leaves h checked left = (subst Leaves h.0 left, h.1)
