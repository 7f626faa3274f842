-- What is known of an accepted module, and by which settings a validator validates.
use Rattle.std.proofs.Common.{◌≡◌, ◌∙◌, ◌⊎◌, List, Result, length, ap, inl, inr, subst, sym}
use Rattle.naga_cli.specs.Accepted.{IsLaidOut}
use Rattle.naga_cli.specs.Findings.{IsRefused, SaysModuleError, by_module, settings_in, state_of, validation_by, validation_of}
use Rattle.naga_cli.specs.declared.arguments.Coverage.{Coverage}
use Rattle.naga_info.specs.ModuleInfo.{ModuleInfoLists}
use Rattle.naga_ir.proofs.Handles.{global_references_ok}
use Rattle.naga_ir.specs.declared.ir.Module.{Module}
use Rattle.naga_source.specs.declared.reading.Subject.{Subject}
use Rattle.naga_types.specs.declared.info.TypeInfo.{TypeInfo}
use Rattle.naga_typing.specs.FullTyping.{full_resolves}
use Rattle.naga_typing.specs.Typings.{Resolves}
use Rattle.naga_typing.specs.declared.full_typing.FullTyping.{FullTyping}
use Rattle.naga_valid.specs.Accepted.{Accepts, Refuses}
use Rattle.naga_valid.specs.AllFunctions.{ValidatesFunctions}
use Rattle.naga_valid.specs.Interfaces.{IsDeclarationsResult}
use Rattle.naga_valid.specs.State.{Settings, State, new_state, settings_of}
use Rattle.naga_valid.specs.declared.error.ValidationError.{ValidationError}
use Rattle.naga_valid.specs.declared.error.ValidationError.TheVariants.{OutOfMemory}
use Rattle.naga_valid.specs.declared.function.FunctionsError.{FunctionsError}
use Rattle.naga_valid.specs.declared.interface.DeclarationsError.{DeclarationsError}
use Rattle.naga_verdict.specs.declared.verdict.Refusal.{Refusal}

-- the types of an accepted module have layouts
pub laid_out : (resolves : Resolves) (m : Module) (settings : Settings) (infos : List TypeInfo) (lists : ModuleInfoLists)
    → Accepts resolves m settings infos lists → IsLaidOut m infos
laid_out resolves m settings infos lists h =
    let types = h.accepted.known.types.accepted in
    record {
      references = global_references_ok m types.laid_out.handles;
      as_many = ap length h.infos_are ∙ types.each_type.as_many;
    }

-- a refusal that says an error of a new validator says why the module is refused by the settings in force
pub refused_as : (extent : Coverage) (subject : Subject) (v : State FullTyping) (t : FullTyping) (e x : ValidationError) (refusal : Refusal)
    → v ≡ new_state subject.flags subject.capabilities t → x ≡ e
    → (e ≡ OutOfMemory) ⊎ Refuses full_resolves subject.«module» (settings_of v subject.resolved) e
    → SaysModuleError x refusal → IsRefused extent subject refusal
refused_as extent subject v t e x refusal h is (inl no_memory) says = absurd (subst (λ (y : ValidationError). SaysModuleError y refusal) (is ∙ no_memory) says)
refused_as extent subject v t e x refusal h is (inr why) says =
    by_module x
    (subst (λ (y : ValidationError). Refuses full_resolves subject.«module» (settings_in subject) y) (sym is)
    (subst (λ (w : State FullTyping). Refuses full_resolves subject.«module» (settings_of w subject.resolved) e) h why))
    says

-- a validator that has the settings in force validates functions by these
pub functions_as : (subject : Subject) (v : State FullTyping) (old new : ModuleInfoLists) (result : Result (Unit {0}) FunctionsError)
    → v ≡ state_of subject v.typing v.infos
    → ValidatesFunctions (validation_by v subject.«module» subject.resolved) subject.«module» old new result
    → ValidatesFunctions (validation_of subject) subject.«module» old new result
functions_as subject v old new result h k =
    subst (λ (w : State FullTyping). ValidatesFunctions (validation_by w subject.«module» subject.resolved) subject.«module» old new result) h k

-- a validator that has the settings in force validates what a module declares by these
pub declarations_as : (subject : Subject) (v : State FullTyping) (old new : ModuleInfoLists) (result : Result (Unit {0}) DeclarationsError)
    → v ≡ state_of subject v.typing v.infos
    → IsDeclarationsResult (validation_by v subject.«module» subject.resolved) v subject.«module» old new result
    → IsDeclarationsResult (validation_of subject) (state_of subject v.typing v.infos) subject.«module» old new result
declarations_as subject v old new result h k =
    subst (λ (w : State FullTyping). IsDeclarationsResult (validation_by w subject.«module» subject.resolved) w subject.«module» old new result) h k
