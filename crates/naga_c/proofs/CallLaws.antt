-- How calls end that find no accepted module.
use Rattle.std.proofs.Common.{◌≡◌, ◌⊎◌, ℕ, List, Result, ap, inl, inr, refl, subst, sym, ◌∙◌}
use Rattle.naga_exprs.specs.Math.{math_typing}
use Rattle.naga_flags.specs.declared.flags.Capabilities.{Capabilities}
use Rattle.naga_flags.specs.declared.flags.ShaderStages.{ShaderStages}
use Rattle.naga_flags.specs.declared.flags.ValidationFlags.{ValidationFlags}
use Rattle.naga_info.specs.declared.expression_error.ExpressionError.{ExpressionError}
use Rattle.naga_info.specs.ModuleInfo.{ModuleInfoLists}
use Rattle.naga_ir.specs.declared.ir.Module.{Module}
use Rattle.naga_types.specs.declared.info.TypeInfo.{TypeInfo}
use Rattle.naga_typing.specs.FullTyping.{full_resolves}
use Rattle.naga_typing.specs.Math.{accepts, argument_count}
use Rattle.naga_typing.specs.declared.full_typing.FullTyping.{FullTyping}
use Rattle.naga_valid.specs.Accepted.{Accepts, Refuses}
use Rattle.naga_valid.specs.AllFunctions.{ValidatesFunctions}
use Rattle.naga_valid.specs.Functions.{function_surroundings}
use Rattle.naga_valid.specs.State.{Settings, State, new_state, settings_of, stages_with}
use Rattle.naga_valid.specs.declared.error.ValidationError.{ValidationError}
use Rattle.naga_valid.specs.declared.error.ValidationError.TheVariants.{InvalidHandle, Layouter, Type_, ConstExpression, ArraySizeError, Constant, Override, Corrupted, OutOfMemory}
use Rattle.naga_valid.specs.declared.function.FunctionError.{FunctionError}
use Rattle.naga_valid.specs.declared.function.FunctionError.TheVariants as function_error
use Rattle.naga_valid.specs.declared.function.FunctionsError.{FunctionsError}
use Rattle.naga_c.specs.declared.subject.Subject.{Subject}
use Rattle.naga_c.specs.Calls.{IsNotAccepted, refused, undecided}
use Rattle.naga_c.specs.Functions.{validation_of}
use Rattle.naga_c.specs.Verdicts.{settings_in}
use Rattle.naga_c.specs.steps.Verdicts.{refused_outcome, refused_status}
use Rattle.naga_c.specs.declared.results.Outcome.{Outcome}
use Rattle.naga_c.specs.declared.status.Status.{Status}

module _ (m : Module) (settings : Settings) (Leaves : Outcome → Type 0) where
  -- a module that is refused with an error: the outcome and the status are those of the error
  by_error : (e : ValidationError) (s : Status) → Refuses full_resolves m settings e → Leaves (refused_outcome m e) → s ≡ refused_status e → IsNotAccepted m settings Leaves s
  by_error (InvalidHandle x) s r left is = refused (InvalidHandle x) r left is
  by_error (Layouter x) s r left is = refused (Layouter x) r left is
  by_error (Type_ handle name source) s r left is = refused (Type_ handle name source) r left is
  by_error (ConstExpression handle source) s r left is = refused (ConstExpression handle source) r left is
  by_error (ArraySizeError handle) s r left is = refused (ArraySizeError handle) r left is
  by_error (Constant handle name source) s r left is = refused (Constant handle name source) r left is
  by_error (Override handle name source) s r left is = refused (Override handle name source) r left is
  by_error Corrupted s r left is = refused Corrupted r left is
  by_error OutOfMemory s r left is = undecided left is

  -- the same, or memory was refused
  by_refusal : (e : ValidationError) (s : Status) → (e ≡ OutOfMemory) ⊎ Refuses full_resolves m settings e → Leaves (refused_outcome m e) → s ≡ refused_status e → IsNotAccepted m settings Leaves s
  by_refusal e s (inl h) left is = undecided (subst (λ (x : ValidationError). Leaves (refused_outcome m x)) h left) (is ∙ ap refused_status h)
  by_refusal e s (inr r) left is = by_error e s r left is

-- a module that is not accepted by settings `given`, which are `settings`: `e` is the error `x`
pub ends_refused : (m : Module) (given settings : Settings) (Leaves : Outcome → Type 0) (e x : ValidationError) (s : Status)
    → given ≡ settings → (e ≡ OutOfMemory) ⊎ Refuses full_resolves m given e → x ≡ e → Leaves (refused_outcome m x) → s ≡ refused_status x → IsNotAccepted m settings Leaves s
ends_refused m given settings Leaves e x s same why is left ends =
    by_refusal m settings Leaves x s
    (subst (λ (y : ValidationError). (y ≡ OutOfMemory) ⊎ Refuses full_resolves m settings y) (sym is) (subst (λ (g : Settings). (e ≡ OutOfMemory) ⊎ Refuses full_resolves m g e) same why))
    left ends

-- the settings of a validator by the settings in force
pub settings_as : (subject : Subject) (flags : ValidationFlags) (v : State FullTyping) → v ≡ new_state flags subject.capabilities v.typing → settings_of v subject.resolved ≡ record (settings_in subject) { flags = flags }
settings_as subject flags v h = ap (λ (s : State FullTyping). settings_of s subject.resolved) h

-- a module that is accepted by settings is accepted by settings that are equal
pub accepted_as : (m : Module) (given settings : Settings) (infos : List TypeInfo) (lists : ModuleInfoLists) → given ≡ settings → Accepts full_resolves m given infos lists → Accepts full_resolves m settings infos lists
accepted_as m given settings infos lists same h = subst (λ (s : Settings). Accepts full_resolves m s infos lists) same h

-- an error of a function that is no refusal of an expression says that memory was refused
pub other_source : (e : FunctionError) → ((handle : ℕ) (source : ExpressionError) → e ≡ function_error.Expression handle source → ⊥) → e ≡ function_error.OutOfMemory
other_source (function_error.Expression handle source) no_expression = absurd (no_expression handle source refl)
other_source function_error.OutOfMemory no_expression = refl

-- functions are validated by the settings in force by a validator that has what validation depends on from these
pub validates_as : (subject : Subject) (v : State FullTyping) (old new : ModuleInfoLists) (result : Result (Unit {0}) FunctionsError)
    → v.capabilities ≡ subject.capabilities → v.subgroup_stages ≡ record { 0 = stages_with subject.capabilities.0 }
    → ValidatesFunctions (function_surroundings full_resolves (math_typing accepts (λ fun types. argument_count fun)) v subject.resolved subject.«module») subject.«module» old new result
    → ValidatesFunctions (validation_of subject) subject.«module» old new result
validates_as subject v old new result capabilities stages h =
    subst (λ (s : ShaderStages). let w : State FullTyping = record v { capabilities = subject.capabilities; subgroup_stages = s } in ValidatesFunctions (function_surroundings full_resolves (math_typing accepts (λ fun types. argument_count fun)) w subject.resolved subject.«module») subject.«module» old new result) stages
    (subst (λ (k : Capabilities). let w : State FullTyping = record v { capabilities = k } in ValidatesFunctions (function_surroundings full_resolves (math_typing accepts (λ fun types. argument_count fun)) w subject.resolved subject.«module») subject.«module» old new result) capabilities h)
