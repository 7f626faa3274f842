-- What a host holds of a module that it opened, and what calls on it end with.
use Rattle.std.specs.Prelude.{◌≡◌, ℕ, IfSome}
use Rattle.std.specs.Box.Ownership.{box_owns}
use Rattle.std.specs.Coded.{Coded, coded_option}
use Rattle.std.specs.contracts.impls.GlobalAllocator.TheImpl.{ghosts}
use Rattle.std.specs.declared.alloc.Global.{Global}
use Rattle.std.specs.declared.option.Option.{Option}
use Rattle.std.specs.declared.option.Option.TheVariants.{None, Some}
use Rattle.naga_c.specs.Accepted.{IsAccepted}
use Rattle.naga_c.specs.Calls.{IsNotAccepted}
use Rattle.naga_c.specs.Verdicts.{counts_of, no_outcome, settings_in}
use Rattle.naga_c.specs.contracts.accepted.AcceptedModule.{the_row}
use Rattle.naga_c.specs.declared.accepted.AcceptedModule.{AcceptedModule}
use Rattle.naga_c.specs.declared.results.Outcome.{Outcome}
use Rattle.naga_c.specs.declared.status.Status.{Status}
use Rattle.naga_c.specs.declared.status.Status.TheVariants.{Done, NotOpen}
use Rattle.naga_c.specs.declared.subject.Subject.{Subject}
use base.Fml.{Fml, fex, ftrue}
use denote.RawPtr.{Ptr, null_ptr}

-- how the logic stores what an open module holds
abbrev pub held_coded : Coded (Option AcceptedModule)
held_coded = coded_option the_row.coded

-- an open module with the allocator `alloc` and the address `at` owns the box of the module there, or is null and owns
-- nothing
abbrev pub open_module_owns : (alloc : Global) → (at : Ptr) → (held : Option AcceptedModule) → Fml
open_module_owns alloc at None = fex (at ≡ null_ptr) (λ _. ftrue)
open_module_owns alloc at (Some accepted) = box_owns (ghosts.dealloc_token alloc) the_row at accepted

-- an open module that holds `held` is as a call left it: closed, or what it holds is accepted
abbrev pub IsOpenModule : (held : Option AcceptedModule) → Type 0
IsOpenModule held = IfSome held IsAccepted

-- a call opened the module of `subject`, of which at most `most` leaves are wanted, left `held` and `outcome` and ended
-- with `status`: the module is held, or nothing is, as it is not accepted or as memory was refused
pub data Opens (subject : Subject) (most : ℕ) (held : Option AcceptedModule) (outcome : Outcome) (status : Status) : Type 0 where
  opened : (accepted : AcceptedModule) → held ≡ Some accepted → accepted.subject ≡ subject → accepted.most_leaves ≡ most
      → IsAccepted accepted
      → outcome ≡ counts_of subject.«module» → status ≡ Done → Opens subject most held outcome status
  not_opened : held ≡ None → IsNotAccepted subject.«module» (settings_in subject) (λ found. outcome ≡ found) status
      → Opens subject most held outcome status

-- a call on an open module that holds `held` ended with `status`: `Checks` holds of what it holds and of the status; or
-- it is closed, and `Leaves` holds of an outcome with nothing
abbrev pub OfOpenModule : (held : Option AcceptedModule) → (Checks : AcceptedModule → Status → Type 0)
    → (Leaves : Outcome → Type 0) → Status → Type 0
OfOpenModule None Checks Leaves status = Leaves no_outcome × (status ≡ NotOpen)
OfOpenModule (Some accepted) Checks Leaves status = Checks accepted status
