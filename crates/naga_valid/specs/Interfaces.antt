-- Which variables of a module are accepted, and which declarations of its functions and entry points.
use Rattle.std.specs.Prelude.{◌≡◌, ◌==◌, ◌+◌, ◌*◌, ◌⊎◌, ◌&&◌, ◌||◌, ◌<◌, not, ltb, ℕ, Bool as Boolean, false, true, List, ◌∷◌, All, IfSome, IsOk, IsTrue, Option, Some, None, Result, Ok, Err, is_some, length, map, slice_get, take}
use Rattle.std.specs.List.{list_any}
use Rattle.std.specs.Str.{bytes_eq}
use Rattle.naga_arena.specs.Results.{IsFirstError}
use Rattle.naga_flags.specs.Bits.{SIZED}
use Rattle.naga_flags.specs.Flags.{has}
use Rattle.naga_info.specs.ModuleInfo.{ModuleInfoLists}
use Rattle.naga_info.specs.declared.module_info.FunctionInfo.{FunctionInfo}
use Rattle.naga_interface.specs.EntryPoints as entry_point
use Rattle.naga_interface.specs.EntryPoints.{entry_point_checks}
use Rattle.naga_interface.specs.Functions as declaration
use Rattle.naga_interface.specs.Functions.{declaration_rule}
use Rattle.naga_interface.specs.GlobalVariables.{bound_type, global_variable_rule}
use Rattle.naga_interface.specs.Stages.{stage_flag}
use Rattle.naga_interface.specs.Surroundings.{InterfaceSurroundings, KnownExpressions}
use Rattle.naga_interface.specs.declared.error.EntryPointError.{EntryPointError}
use Rattle.naga_interface.specs.declared.error.EntryPointError.TheVariants as entry_point_error
use Rattle.naga_interface.specs.declared.error.FunctionDeclarationError.{FunctionDeclarationError}
use Rattle.naga_interface.specs.declared.error.FunctionDeclarationError.TheVariants as declaration_error
use Rattle.naga_interface.specs.declared.error.GlobalVariableError.{GlobalVariableError}
use Rattle.naga_ir.specs.ItemReferences.{GlobalLists}
use Rattle.naga_ir.specs.declared.ir.EntryPoint.{EntryPoint}
use Rattle.naga_ir.specs.declared.ir.Function.{Function}
use Rattle.naga_ir.specs.declared.ir.GlobalVariable.{GlobalVariable}
use Rattle.naga_ir.specs.declared.ir.Module.{Module}
use Rattle.naga_ir.specs.declared.ir.ShaderStage.{ShaderStage}
use Rattle.naga_ir.specs.declared.types.AddressSpace.{AddressSpace}
use Rattle.naga_ir.specs.declared.types.AddressSpace.TheVariants as space
use Rattle.naga_types.specs.Checks.{first_error_or, require}
use Rattle.naga_types.specs.declared.info.TypeInfo.{TypeInfo}
use Rattle.naga_typing.specs.Kinds.{AreKinds}
use Rattle.naga_typing.specs.Leaves.{AreSeparate, EndsInArray, size_at_index}
use Rattle.naga_typing.specs.Typings.{Resolves}
use Rattle.naga_typing.specs.declared.expression_kind.ExpressionKind.{ExpressionKind}
use Rattle.naga_valid.specs.Accepted.{Accepts}
use Rattle.naga_valid.specs.AllFunctions.{AreInfosInOrder, HaveInfos, ValidatesFunctions, Validation}
use Rattle.naga_valid.specs.MoreCapabilities.{KnowsMoreStages}
use Rattle.naga_valid.specs.State.{State, settings_of}
use Rattle.naga_valid.specs.declared.interface.DeclarationsError.{DeclarationsError}
use Rattle.naga_valid.specs.declared.interface.DeclarationsError.TheVariants as declarations_error
use Rattle.naga_valid.specs.declared.interface.InterfacesError.{InterfacesError}
use Rattle.naga_valid.specs.declared.interface.InterfacesError.TheVariants as interfaces_error
use Rattle.naga_valid.specs.declared.interface.VariablesError.{VariablesError}
use Rattle.naga_valid.specs.declared.interface.VariablesError.TheVariants as variables_error

-- what the rules of variables and entry points of the module `m` depend on, of whose types a validator has the infos
abbrev pub surroundings_of : {T : Type 0} → State T → Module → InterfaceSurroundings
surroundings_of state m =
    record { flags = state.flags.0; capabilities = state.capabilities.0; types = m.types; infos = state.infos }

-- the validator in this state has accepted the module `m`, and `lists` is what its users learn, with infos of functions
-- and entry points that may have been added since
pub record IsKnown {T : Type 0} (resolves : Resolves) (state : State T) (m : Module) (lists : ModuleInfoLists) : Type 0 where
  pub resolved : Boolean
  pub learned : ModuleInfoLists
  pub accepted : Accepts resolves m (settings_of state resolved) state.infos learned
  pub others : lists ≡ record learned { functions = lists.functions; entry_points = lists.entry_points }

-- what the rule says of each variable of the module `m`, by the kinds of its global expressions
abbrev pub variable_results : {T : Type 0} → State T → Module → ModuleInfoLists → List ExpressionKind
    → List (Result (Unit {0}) GlobalVariableError)
variable_results state m lists kinds =
    map
    (global_variable_rule (surroundings_of state m) (record { types = lists.const_expression_types; kinds = kinds }))
    m.global_variables

-- each variable of the module `m` keeps its rule
abbrev pub KeepVariables : {T : Type 0} → State T → Module → ModuleInfoLists → Type 0
KeepVariables state m lists =
    (kinds : List ExpressionKind) × AreKinds m.global_expressions kinds
    × All IsOk (variable_results state m lists kinds)

-- whether a variable of the module has an initialiser: the kinds of its global expressions are needed then
abbrev pub has_initialisers : Module → Boolean
has_initialisers m = list_any (λ (v : GlobalVariable). is_some v.init) m.global_variables

-- the error names the first variable of the module `m` that breaks its rule, and the first condition that it breaks, or
-- says that memory was refused, if a variable has an initialiser
abbrev pub IsVariableRefusal : {T : Type 0} → State T → Module → ModuleInfoLists → VariablesError → Type 0
IsVariableRefusal state m lists (variables_error.GlobalVariable handle source) =
    (kinds : List ExpressionKind) × AreKinds m.global_expressions kinds
    × IsFirstError (variable_results state m lists kinds) handle source
IsVariableRefusal state m lists variables_error.OutOfMemory = IsTrue (has_initialisers m)

-- the functions and entry points of the module `m` are validated, as `by` says where overrides have to have their values
-- or not, and `lists` has an info of each
pub record AreFunctionsValidated (by : Boolean → Validation) (m : Module) (lists : ModuleInfoLists) : Type 0 where
  pub resolved : Boolean
  pub in_order : AreInfosInOrder (by resolved) m lists
  pub have : HaveInfos m lists

-- what is known of the expressions of a function with this info
abbrev pub known_of : FunctionInfo → List ExpressionKind → KnownExpressions
known_of info kinds = record { types = info.types; kinds = kinds }

-- `outcome` is what the rule says of what the function of index `i` declares
pub record IsDeclarationOf {T : Type 0} (state : State T) (m : Module) (lists : ModuleInfoLists) (i : ℕ) (outcome : Result (Unit {0}) FunctionDeclarationError) : Type 0 where
  pub function : Function
  pub there : slice_get m.functions i ≡ Some function
  pub info : FunctionInfo
  pub has_info : slice_get lists.functions i ≡ Some info
  pub kinds : List ExpressionKind
  pub are_kinds : AreKinds function.expressions kinds
  pub rule : declaration_rule (surroundings_of state m) (known_of info kinds) false function ≡ outcome

-- two stages are known, and equal
abbrev pub is_one_stage : Option ShaderStage → Option ShaderStage → Boolean
is_one_stage (Some a) (Some b) = stage_flag a == stage_flag b
is_one_stage (Some a) None = false
is_one_stage None _ = false

-- two entry points are of one stage, and have one name
abbrev pub is_conflict : EntryPoint → EntryPoint → Boolean
is_conflict e other = is_one_stage e.stage other.stage && bytes_eq e.name other.name

-- what the rules say of the entry point `e`, after these: its name is new in its stage, and it keeps its rule
abbrev pub entry_point_result : InterfaceSurroundings → KnownExpressions → ℕ → List EntryPoint → EntryPoint
    → Result (Unit {0}) EntryPointError
entry_point_result s known stages before e = first_error_or
    (require (not (list_any (is_conflict e) before)) entry_point_error.Conflict
    ∷ entry_point_checks s known stages e e.stage) tt

-- `outcome` is what the rules say of the entry point of index `i`
pub record IsInterfaceOf {T : Type 0} (state : State T) (m : Module) (lists : ModuleInfoLists) (i : ℕ) (outcome : Result (Unit {0}) EntryPointError) : Type 0 where
  pub entry_point : EntryPoint
  pub there : slice_get m.entry_points i ≡ Some entry_point
  pub info : FunctionInfo
  pub has_info : slice_get lists.entry_points i ≡ Some info
  pub kinds : List ExpressionKind
  pub are_kinds : AreKinds entry_point.function.expressions kinds
  pub rule :
      entry_point_result (surroundings_of state m) (known_of info kinds) info.available_stages.0
      (take i m.entry_points) entry_point ≡ outcome

-- the first `count` functions of the module `m` declare what they may
abbrev pub KeepDeclarations : {T : Type 0} → State T → Module → ModuleInfoLists → ℕ → Type 0
KeepDeclarations state m lists count = (i : ℕ) → i < count → IsDeclarationOf state m lists i (Ok tt)

-- the first `count` entry points of the module `m` keep their rules
abbrev pub KeepInterfaces : {T : Type 0} → State T → Module → ModuleInfoLists → ℕ → Type 0
KeepInterfaces state m lists count = (i : ℕ) → i < count → IsInterfaceOf state m lists i (Ok tt)

-- the function of index `i` is the first that declares what it may not, with the error `source`, or memory was refused,
-- if it has a local variable with an initialiser
pub record IsDeclarationRefusal {T : Type 0} (state : State T) (m : Module) (lists : ModuleInfoLists) (i : ℕ) (source : FunctionDeclarationError) : Type 0 where
  pub there : i < length m.functions
  pub before : KeepDeclarations state m lists i
  pub refused :
      IsDeclarationOf state m lists i (Err source)
      ⊎ ((source ≡ declaration_error.OutOfMemory) × IfSome (slice_get m.functions i) (λ f. IsTrue (declaration.has_initialisers f)))

-- whether the validation of the entry point `e` of the module `m` takes memory: there are several, or its rule needs some
abbrev pub takes_memory : {T : Type 0} → State T → Module → EntryPoint → Boolean
takes_memory state m e = ltb 1 (length m.entry_points) || entry_point.takes_memory (surroundings_of state m) e

-- all functions declare what they may, and the entry point of index `i` is the first that breaks a rule, with the error
-- `source`, or memory was refused
pub record IsInterfaceRefusal {T : Type 0} (state : State T) (m : Module) (lists : ModuleInfoLists) (i : ℕ) (source : EntryPointError) : Type 0 where
  pub there : i < length m.entry_points
  pub functions : KeepDeclarations state m lists (length m.functions)
  pub before : KeepInterfaces state m lists i
  pub refused :
      IsInterfaceOf state m lists i (Err source)
      ⊎ ((source ≡ entry_point_error.OutOfMemory) × IfSome (slice_get m.entry_points i) (λ e. IsTrue (takes_memory state m e)))

-- the result of a call that validates what the functions of the module `m` declare
abbrev pub AreDeclarationsChecked : {T : Type 0} → State T → Module → ModuleInfoLists
    → Result (Unit {0}) InterfacesError → Type 0
AreDeclarationsChecked state m lists (Ok _) = KeepDeclarations state m lists (length m.functions)
AreDeclarationsChecked state m lists (Err (interfaces_error.Function handle source)) =
    IsDeclarationRefusal state m lists handle source
AreDeclarationsChecked state m lists (Err (interfaces_error.EntryPoint index source)) = ⊥

-- the result of a call that validates what the functions of the module `m` declare, and then its entry points
abbrev pub IsInterfacesResult : {T : Type 0} → State T → Module → ModuleInfoLists
    → Result (Unit {0}) InterfacesError → Type 0
IsInterfacesResult state m lists (Ok _) =
    KeepDeclarations state m lists (length m.functions) × KeepInterfaces state m lists (length m.entry_points)
IsInterfacesResult state m lists (Err (interfaces_error.Function handle source)) =
    IsDeclarationRefusal state m lists handle source
IsInterfacesResult state m lists (Err (interfaces_error.EntryPoint index source)) =
    IsInterfaceRefusal state m lists index source

-- the result of a call that validates all that the module `m` declares: its variables, the functions as `by` says, of
-- which it adds infos to `old` and leaves `new`, and what these declare
abbrev pub IsDeclarationsResult : {T : Type 0} → Validation → State T → Module → ModuleInfoLists → ModuleInfoLists
    → Result (Unit {0}) DeclarationsError → Type 0
IsDeclarationsResult by state m old new (Ok _) =
    KeepVariables state m old × ValidatesFunctions by m old new (Ok tt) × IsInterfacesResult state m new (Ok tt)
IsDeclarationsResult by state m old new (Err (declarations_error.Variable error)) =
    IsVariableRefusal state m old error × (new ≡ old)
IsDeclarationsResult by state m old new (Err (declarations_error.Function error)) =
    KeepVariables state m old × ValidatesFunctions by m old new (Err error)
IsDeclarationsResult by state m old new (Err (declarations_error.Interface error)) =
    KeepVariables state m old × ValidatesFunctions by m old new (Ok tt) × IsInterfacesResult state m new (Err error)

-- the address space is one of buffers
abbrev pub is_buffer_space : AddressSpace → Boolean
is_buffer_space space.Uniform = true
is_buffer_space (space.Storage access) = true
is_buffer_space _ = false

-- the variable of index `v` is in buffers, and what a pipeline binds to it is of the type of index `t`
pub record IsBuffer (s : InterfaceSurroundings) (m : Module) (v t : ℕ) : Type 0 where
  pub variable : GlobalVariable
  pub there : slice_get m.global_variables v ≡ Some variable
  pub in_buffers : IsTrue (is_buffer_space variable.space)
  pub bound : bound_type s variable.ty ≡ t

-- the leaves of a value of the type of index `t` are aligned and share no byte; they end within its size, if that is
-- fixed, or where `length` elements end of the runtime-sized array that it ends in
pub record HasSeparateLeaves (g : GlobalLists) (infos : List TypeInfo) (length t : ℕ) : Type 0 where
  pub sized :
      IfSome (slice_get infos t) (λ info. IsTrue (has info.flags.0 SIZED) → AreSeparate g length t (size_at_index g t))
  pub runtime_sized : (first stride : ℕ) → EndsInArray g t first stride → AreSeparate g length t (first + length * stride)

-- what a validator in the state `less` accepts of the declarations of the module `m`, one in the state `more` accepts:
-- variables, what functions declare, and entry points, if no fewer stages may use functions and entry points
pub record AcceptsDeclarationsToo {T : Type 0} (less more : State T) (m : Module) : Type 0 where
  pub variables : (lists : ModuleInfoLists) → KeepVariables less m lists → KeepVariables more m lists
  pub functions : (lists more_lists : ModuleInfoLists) → KnowsMoreStages lists more_lists → (count : ℕ)
      → KeepDeclarations less m lists count → KeepDeclarations more m more_lists count
  pub entry_points : (lists more_lists : ModuleInfoLists) → KnowsMoreStages lists more_lists → (count : ℕ)
      → KeepInterfaces less m lists count → KeepInterfaces more m more_lists count
