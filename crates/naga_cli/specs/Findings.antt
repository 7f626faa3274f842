-- What is found of the module of a file.
use Rattle.std.specs.Prelude.{◌≡◌, ℕ, Bool, List, Option, None, Some, Ok, Err, option_map, string_bytes}
use Rattle.naga_cli.specs.Accepted.{IsLaidOut}
use Rattle.naga_cli.specs.declared.arguments.Coverage.{Coverage}
use Rattle.naga_cli.specs.declared.arguments.Coverage.TheVariants as coverage
use Rattle.naga_cli.specs.declared.checking.Checked.{Checked}
use Rattle.naga_cli.specs.declared.checking.Checked.TheVariants.{Accepted, Refused}
use Rattle.naga_exprs.specs.Math.{math_typing}
use Rattle.naga_handles.specs.ErrorNames.{handle_error_name}
use Rattle.naga_info.specs.ErrorNames.{const_expression_error_name, expression_error_name}
use Rattle.naga_info.specs.ModuleInfo.{ModuleInfoLists}
use Rattle.naga_interface.specs.ErrorNames.{entry_point_error_name, function_declaration_error_name, global_variable_error_name, local_variable_error_name}
use Rattle.naga_interface.specs.declared.error.EntryPointError.{EntryPointError}
use Rattle.naga_interface.specs.declared.error.EntryPointError.TheVariants as entry_point_error
use Rattle.naga_interface.specs.declared.error.FunctionDeclarationError.{FunctionDeclarationError}
use Rattle.naga_interface.specs.declared.error.FunctionDeclarationError.TheVariants as declaration_error
use Rattle.naga_ir.specs.declared.ir.Module.{Module}
use Rattle.naga_source.specs.declared.reading.Subject.{Subject}
use Rattle.naga_types.specs.ErrorNames.{type_error_name}
use Rattle.naga_types.specs.declared.info.TypeInfo.{TypeInfo}
use Rattle.naga_typing.specs.ErrorNames.{layout_error_name}
use Rattle.naga_typing.specs.FullTyping.{full_resolves}
use Rattle.naga_typing.specs.Math.{accepts, argument_count}
use Rattle.naga_typing.specs.declared.full_typing.FullTyping.{FullTyping}
use Rattle.naga_valid.specs.Accepted.{Accepts, Refuses}
use Rattle.naga_valid.specs.AllFunctions.{Validation, ValidatesFunctions}
use Rattle.naga_valid.specs.ErrorNames.{constant_error_name, override_error_name, validation_error_name}
use Rattle.naga_valid.specs.Functions.{function_surroundings}
use Rattle.naga_valid.specs.Interfaces.{IsDeclarationsResult}
use Rattle.naga_valid.specs.State.{Settings, State, new_state}
use Rattle.naga_valid.specs.declared.error.ValidationError.{ValidationError}
use Rattle.naga_valid.specs.declared.error.ValidationError.TheVariants as module_error
use Rattle.naga_valid.specs.declared.function.Callable.{Callable}
use Rattle.naga_valid.specs.declared.function.Callable.TheVariants as callable
use Rattle.naga_valid.specs.declared.function.FunctionError.{FunctionError}
use Rattle.naga_valid.specs.declared.function.FunctionError.TheVariants as function_error
use Rattle.naga_valid.specs.declared.function.FunctionsError.{FunctionsError}
use Rattle.naga_valid.specs.declared.interface.DeclarationsError.{DeclarationsError}
use Rattle.naga_valid.specs.declared.interface.DeclarationsError.TheVariants as declarations_error
use Rattle.naga_valid.specs.declared.interface.InterfacesError.{InterfacesError}
use Rattle.naga_valid.specs.declared.interface.InterfacesError.TheVariants as interfaces_error
use Rattle.naga_valid.specs.declared.interface.VariablesError.{VariablesError}
use Rattle.naga_valid.specs.declared.interface.VariablesError.TheVariants as variables_error
use Rattle.naga_verdict.specs.Items.{item_of}
use Rattle.naga_verdict.specs.declared.item.Item.{Item}
use Rattle.naga_verdict.specs.declared.item.Item.TheVariants as item
use Rattle.naga_verdict.specs.declared.item.Owner.{Owner}
use Rattle.naga_verdict.specs.declared.item.Owner.TheVariants as owner
use Rattle.naga_verdict.specs.declared.verdict.Named.{Named}
use Rattle.naga_verdict.specs.declared.verdict.Refusal.{Refusal}
use Rattle.naga_verdict.specs.declared.verdict.Stage.{Stage}
use Rattle.naga_verdict.specs.declared.verdict.Stage.TheVariants as stage

-- the settings in force
abbrev pub settings_in : Subject → Settings
settings_in subject = record { flags = subject.flags; capabilities = subject.capabilities; resolved = subject.resolved }

-- how the functions of the module `m` are validated by a validator in this state, where overrides have to have their
-- values or not
abbrev pub validation_by : {T : Type 0} → State T → Module → Bool → Validation
validation_by state m resolved =
    function_surroundings full_resolves (math_typing accepts (λ fun types. argument_count fun)) state resolved m

-- how the functions of a module are validated by the settings in force
abbrev pub validation_of : Subject → Validation
validation_of subject =
    validation_by (new_state {T = Unit {0}} subject.flags subject.capabilities tt) subject.«module» subject.resolved

-- a validator that has the settings in force, and these infos of types
abbrev pub state_of : Subject → FullTyping → List TypeInfo → State FullTyping
state_of subject typing infos = record (new_state subject.flags subject.capabilities typing) { infos = infos }

-- the rest of the module is accepted too, as far as it is validated: the expressions of its functions and entry
-- points, or all that it declares, by a validator in this state; `before` is known without these, and `after` with them
abbrev pub KeepsRest : Coverage → Subject → State FullTyping → ModuleInfoLists → ModuleInfoLists → Type 0
KeepsRest coverage.Values subject state before after =
    ValidatesFunctions (validation_of subject) subject.«module» before after (Ok tt)
KeepsRest coverage.Declarations subject state before after =
    IsDeclarationsResult (validation_of subject) state subject.«module» before after (Ok tt)

-- a module is accepted as far as it is validated, and `infos` are the infos of its types
pub record IsAccepted (extent : Coverage) (subject : Subject) (infos : List TypeInfo) : Type 0 where
  pub typing : FullTyping
  pub before : ModuleInfoLists
  pub after : ModuleInfoLists
  pub the_module : Accepts full_resolves subject.«module» (settings_in subject) infos before
  pub rest : KeepsRest extent subject (state_of subject typing infos) before after
  pub laid_out : IsLaidOut subject.«module» infos

-- a refusal names this stage, this item and this error
pub record Says (the_stage : Stage) (the_item : Option Item) (the_error : List ℕ) (refusal : Refusal) : Type 0 where
  pub stage : refusal.stage ≡ the_stage
  pub item : option_map (λ (named : Named). named.item) refusal.at ≡ the_item
  pub error : string_bytes refusal.error ≡ the_error

-- a refusal says that a module has this error; which item a fault of handles is said of is left open
abbrev pub SaysModuleError : ValidationError → Refusal → Type 0
SaysModuleError (module_error.InvalidHandle e) =
    λ refusal. (at : Option Item) × Says stage.Handles at (handle_error_name e) refusal
SaysModuleError (module_error.Layouter e) = Says stage.Layout (Some (item.Type_ e.ty)) (layout_error_name e.inner)
SaysModuleError (module_error.Type_ i name e) = Says stage.Type_ (Some (item.Type_ i)) (type_error_name e)
SaysModuleError (module_error.ConstExpression i e) =
    Says stage.Expression (Some (item.GlobalExpression i)) (const_expression_error_name e)
SaysModuleError (module_error.ArraySizeError i) =
    Says stage.Expression (Some (item.GlobalExpression i)) (validation_error_name (module_error.ArraySizeError i))
SaysModuleError (module_error.Constant i name e) = Says stage.Constant (Some (item.Constant i)) (constant_error_name e)
SaysModuleError (module_error.Override i name e) = Says stage.Override (Some (item.Override i)) (override_error_name e)
SaysModuleError module_error.Corrupted = Says stage.Module None (validation_error_name module_error.Corrupted)
SaysModuleError module_error.OutOfMemory = λ refusal. ⊥

-- a refusal says that a function or an entry point has this error
abbrev pub SaysFunctionError : Callable → FunctionError → Refusal → Type 0
SaysFunctionError (callable.Function f) (function_error.Expression i e) =
    Says stage.Function (Some (item.Expression (owner.Function f) i)) (expression_error_name e)
SaysFunctionError (callable.EntryPoint n) (function_error.Expression i e) =
    Says stage.EntryPoint (Some (item.Expression (owner.EntryPoint n) i)) (expression_error_name e)
SaysFunctionError at function_error.OutOfMemory = λ refusal. ⊥

-- a refusal says that a variable has this error
abbrev pub SaysVariablesError : VariablesError → Refusal → Type 0
SaysVariablesError (variables_error.GlobalVariable v e) =
    Says stage.GlobalVariable (Some (item.GlobalVariable v)) (global_variable_error_name e)
SaysVariablesError variables_error.OutOfMemory = λ refusal. ⊥

-- the stage of what a function or an entry point declares
abbrev pub stage_of : Owner → Stage
stage_of (owner.Function f) = stage.Function
stage_of (owner.EntryPoint n) = stage.EntryPoint

-- a refusal says that a function or an entry point declares what it may not: of a local variable the error of this, of
-- an argument which one, and else of the function or entry point itself
abbrev pub SaysDeclarationError : Owner → FunctionDeclarationError → Refusal → Type 0
SaysDeclarationError of (declaration_error.LocalVariable i e) =
    Says (stage_of of) (Some (item.LocalVariable of i)) (local_variable_error_name e)
SaysDeclarationError of (declaration_error.InvalidArgumentPointerSpace i space) =
    Says (stage_of of) (Some (item.Argument of i))
    (function_declaration_error_name (declaration_error.InvalidArgumentPointerSpace i space))
SaysDeclarationError of (declaration_error.InvalidArgumentType i) =
    Says (stage_of of) (Some (item.Argument of i))
    (function_declaration_error_name (declaration_error.InvalidArgumentType i))
SaysDeclarationError of (declaration_error.PipelineInputRegularFunction i) =
    Says (stage_of of) (Some (item.Argument of i))
    (function_declaration_error_name (declaration_error.PipelineInputRegularFunction i))
SaysDeclarationError of declaration_error.OutOfMemory = λ refusal. ⊥
SaysDeclarationError of e = Says (stage_of of) (Some (item_of of)) (function_declaration_error_name e)

-- a refusal says that the entry point of index `n` has this error: of an argument which one, and of what its function
-- declares the error of this
abbrev pub SaysEntryPointError : ℕ → EntryPointError → Refusal → Type 0
SaysEntryPointError n (entry_point_error.Argument i e) =
    Says stage.EntryPoint (Some (item.Argument (owner.EntryPoint n) i))
    (entry_point_error_name (entry_point_error.Argument i e))
SaysEntryPointError n (entry_point_error.Function e) = SaysDeclarationError (owner.EntryPoint n) e
SaysEntryPointError n entry_point_error.OutOfMemory = λ refusal. ⊥
SaysEntryPointError n e = Says stage.EntryPoint (Some (item.EntryPoint n)) (entry_point_error_name e)

-- a refusal says that what a function declares, or an entry point, has this error
abbrev pub SaysInterfacesError : InterfacesError → Refusal → Type 0
SaysInterfacesError (interfaces_error.Function f e) = SaysDeclarationError (owner.Function f) e
SaysInterfacesError (interfaces_error.EntryPoint n e) = SaysEntryPointError n e

-- a refusal says that something which a module declares has this error
abbrev pub SaysDeclarationsError : DeclarationsError → Refusal → Type 0
SaysDeclarationsError (declarations_error.Variable e) = SaysVariablesError e
SaysDeclarationsError (declarations_error.Function e) = SaysFunctionError e.at e.source
SaysDeclarationsError (declarations_error.Interface e) = SaysInterfacesError e

-- a module is refused: by an error of its own; or by one of the expressions of its functions and entry points, or of
-- all that it declares, whichever is validated
pub data IsRefused (extent : Coverage) (subject : Subject) (refusal : Refusal) : Type 0 where
  by_module : (e : ValidationError) → Refuses full_resolves subject.«module» (settings_in subject) e
      → SaysModuleError e refusal → IsRefused extent subject refusal
  by_function : (infos : List TypeInfo) (before after : ModuleInfoLists) (e : FunctionsError)
      → extent ≡ coverage.Values
      → Accepts full_resolves subject.«module» (settings_in subject) infos before
      → ValidatesFunctions (validation_of subject) subject.«module» before after (Err e)
      → SaysFunctionError e.at e.source refusal → IsRefused extent subject refusal
  by_declaration : (typing : FullTyping) (infos : List TypeInfo) (before after : ModuleInfoLists)
      → (e : DeclarationsError) → extent ≡ coverage.Declarations
      → Accepts full_resolves subject.«module» (settings_in subject) infos before
      → IsDeclarationsResult (validation_of subject) (state_of subject typing infos) subject.«module» before after
      (Err e)
      → SaysDeclarationsError e refusal → IsRefused extent subject refusal

-- what is found of a module, as far as it is validated: it is accepted, or refused
abbrev pub IsFound : Coverage → Subject → Checked → Type 0
IsFound extent subject (Accepted validator) = IsAccepted extent subject validator.infos
IsFound extent subject (Refused refusal) = IsRefused extent subject refusal
