-- What a call on a module writes of its variables, and of what its functions and entry points declare.
use Rattle.std.specs.Prelude.{◌≡◌, ℕ, Option, None, Some, Ok, Err}
use Rattle.naga_info.specs.ModuleInfo.{ModuleInfoLists}
use Rattle.naga_info.specs.declared.expression_error.ExpressionError.{ExpressionError}
use Rattle.naga_ir.specs.declared.ir.Module.{Module}
use Rattle.naga_typing.specs.FullTyping.{full_resolves}
use Rattle.naga_typing.specs.declared.full_typing.FullTyping.{FullTyping}
use Rattle.naga_valid.specs.Accepted.{Accepts}
use Rattle.naga_valid.specs.Interfaces.{IsDeclarationsResult}
use Rattle.naga_valid.specs.State.{State, settings_of}
use Rattle.naga_valid.specs.declared.function.FunctionError.TheVariants as function_error
use Rattle.naga_valid.specs.declared.function.FunctionsError.{FunctionsError}
use Rattle.naga_valid.specs.declared.interface.DeclarationsError.{DeclarationsError}
use Rattle.naga_valid.specs.declared.interface.DeclarationsError.TheVariants as declarations_error
use Rattle.naga_c.specs.Calls.{IsNotAccepted}
use Rattle.naga_c.specs.DeclarationRefusals.{interfaces_refusal, variables_refusal}
use Rattle.naga_c.specs.Functions.{refused_at, settings_for_functions, validation_of}
use Rattle.naga_c.specs.Verdicts.{counts_of, no_outcome, refused_with}
use Rattle.naga_c.specs.declared.refusal.Refusal.{Refusal}
use Rattle.naga_c.specs.declared.results.Outcome.{Outcome}
use Rattle.naga_c.specs.declared.status.Status.{Status}
use Rattle.naga_c.specs.declared.status.Status.TheVariants.{Done, Refused, OutOfMemory}
use Rattle.naga_c.specs.declared.subject.Subject.{Subject}

-- a call on the module `m` found this refusal, or none as memory was refused, and left an outcome and a status
abbrev pub TellsRefusal : Module → Option Refusal → Outcome → Status → Type 0
TellsRefusal m (Some refusal) outcome status = (outcome ≡ refused_with m refusal) × (status ≡ Refused)
TellsRefusal m None outcome status = (outcome ≡ no_outcome) × (status ≡ OutOfMemory)

-- a call on the module `m`, of which a function or entry point was refused with `error`, left an outcome and a status:
-- the expression that is refused, or nothing as memory was refused
pub data TellsExpression (m : Module) (error : FunctionsError) (outcome : Outcome) (status : Status) : Type 0 where
  told : (expression : ℕ) (e : ExpressionError) → error.source ≡ function_error.Expression expression e
      → outcome ≡ refused_at m error.at expression e → status ≡ Refused → TellsExpression m error outcome status
  untold : error.source ≡ function_error.OutOfMemory → outcome ≡ no_outcome → status ≡ OutOfMemory
      → TellsExpression m error outcome status

-- a call on the module `m`, of whose declarations one is refused with `error`, left an outcome and a status
abbrev pub TellsDeclarations : Module → DeclarationsError → Outcome → Status → Type 0
TellsDeclarations m (declarations_error.Variable error) outcome status =
    TellsRefusal m (variables_refusal error) outcome status
TellsDeclarations m (declarations_error.Function error) outcome status = TellsExpression m error outcome status
TellsDeclarations m (declarations_error.Interface error) outcome status =
    TellsRefusal m (interfaces_refusal error) outcome status

-- a call on the module of `subject`, which a validator in the state `state` accepted with what is `known`, left an
-- outcome and a status: the counts if all that the module declares is accepted, or what is refused first
pub data ReportsDeclarations (subject : Subject) (state : State FullTyping) (known : ModuleInfoLists) (outcome : Outcome) (status : Status) : Type 0 where
  all_accepted : (lists : ModuleInfoLists)
      → IsDeclarationsResult (validation_of subject) state subject.«module» known lists (Ok tt)
      → outcome ≡ counts_of subject.«module» → status ≡ Done → ReportsDeclarations subject state known outcome status
  one_refused : (lists : ModuleInfoLists) (error : DeclarationsError)
      → IsDeclarationsResult (validation_of subject) state subject.«module» known lists (Err error)
      → TellsDeclarations subject.«module» error outcome status → ReportsDeclarations subject state known outcome status

-- a call on a module left an outcome and a status: what it found of the variables and declarations of the module if it
-- is accepted, else its refusal. Of the validator that accepts it only the settings count, and the infos of its types
pub data ChecksDeclarations (subject : Subject) (outcome : Outcome) (status : Status) : Type 0 where
  accepted : (state : State FullTyping) (known : ModuleInfoLists)
      → settings_of state subject.resolved ≡ settings_for_functions subject
      → Accepts full_resolves subject.«module» (settings_for_functions subject) state.infos known
      → ReportsDeclarations subject state known outcome status → ChecksDeclarations subject outcome status
  not_accepted : IsNotAccepted subject.«module» (settings_for_functions subject) (λ found. outcome ≡ found) status
      → ChecksDeclarations subject outcome status
