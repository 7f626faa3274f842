-- What calls on open modules end with.
use Rattle.std.proofs.Common.{◌≡◌, Option, None, Some, refl, subst, sym}
use Rattle.naga_c.specs.OpenModules.{OfOpenModule}
use Rattle.naga_c.specs.Verdicts.{no_outcome}
use Rattle.naga_c.specs.declared.accepted.AcceptedModule.{AcceptedModule}
use Rattle.naga_c.specs.declared.results.Outcome.{Outcome}
use Rattle.naga_c.specs.declared.status.Status.{Status}
use Rattle.naga_c.specs.declared.status.Status.TheVariants.{NotOpen}

-- a call on an open module ends as `Checks` says of what it holds
pub of_open : (held : Option AcceptedModule) (accepted : AcceptedModule) (Checks : AcceptedModule → Status → Type 0) (Leaves : Outcome → Type 0) (status : Status)
    → held ≡ Some accepted → Checks accepted status → OfOpenModule held Checks Leaves status
of_open held accepted Checks Leaves status is checked = subst (λ (h : Option AcceptedModule). OfOpenModule h Checks Leaves status) (sym is) checked

-- a call on a closed module says that it isn't open
pub of_closed : (held : Option AcceptedModule) (Checks : AcceptedModule → Status → Type 0) (Leaves : Outcome → Type 0)
    → held ≡ None → Leaves no_outcome → OfOpenModule held Checks Leaves NotOpen
of_closed held Checks Leaves is left = subst (λ (h : Option AcceptedModule). OfOpenModule h Checks Leaves NotOpen) (sym is) (left, refl)
