-- What is known of modules that are accepted, and when expressions of their functions can be validated.
use Rattle.std.specs.Prelude.{◌≡◌, ◌⊎◌, ◌<◌, ◌≤◌, ℕ, Bool as Boolean, List, [], All, IfSome, IsOk, Option, None, Some, length, slice_get}
use Rattle.naga_immediates.specs.Slots.{IsTyped}
use Rattle.naga_info.specs.ModuleInfo.{ModuleInfoLists, ModuleInfoWithRoom}
use Rattle.naga_ir.specs.Handles.{GlobalReferencesOk, HandlesAccepted}
use Rattle.naga_ir.specs.ItemReferences.{GlobalLists, global_lists}
use Rattle.naga_ir.specs.declared.expression.Expression.{Expression}
use Rattle.naga_ir.specs.declared.expression.Expression.TheVariants as form
use Rattle.naga_ir.specs.declared.ir.EntryPoint.{EntryPoint}
use Rattle.naga_ir.specs.declared.ir.Function.{Function}
use Rattle.naga_ir.specs.declared.ir.Module.{Module}
use Rattle.naga_types.specs.declared.info.TypeInfo.{TypeInfo}
use Rattle.naga_typing.specs.Layout.{layout_results}
use Rattle.naga_typing.specs.Resolutions.{ResolutionExists}
use Rattle.naga_typing.specs.declared.expression_kind.ExpressionKind.{ExpressionKind}
use Rattle.naga_typing.specs.declared.typifier.TypeResolution.{TypeResolution}
use Rattle.naga_typing.specs.Typings.{Resolves}
use Rattle.naga_valid.specs.Accepted.{Accepts}
use Rattle.naga_valid.specs.Functions.{IsFunctionReady, AreFunctionsReadyInOrder}
use Rattle.naga_valid.specs.State.{State, settings_of}
use Rattle.naga_valid.specs.declared.interface.DeclarationsError.{DeclarationsError}
use Rattle.naga_valid.specs.declared.interface.DeclarationsError.TheVariants as declarations_error
use Rattle.naga_valid.specs.declared.interface.VariablesError.TheVariants as variables_error

-- the handles of the module `m` are right
pub record AreHandlesRight (m : Module) : Type 0 where
  pub handles : HandlesAccepted m
  pub references : GlobalReferencesOk (global_lists m)

-- the function `f` is a function of the module `m`, and so many precede it; or it is an entry point's, and all do
abbrev pub IsFunctionAt : Module → Function → ℕ → Type 0
IsFunctionAt m f preceding =
    (slice_get m.functions preceding ≡ Some f)
    ⊎ ((i : ℕ) × (e : EntryPoint) × (slice_get m.entry_points i ≡ Some e) × (f ≡ e.function)
    × (preceding ≡ length m.functions))

-- the module `m` is accepted, its types have these infos, and its users learn these lists
pub record IsAcceptedModule (m : Module) (infos : List TypeInfo) (lists : ModuleInfoLists) : Type 0 where
  pub handles : HandlesAccepted m
  pub references : GlobalReferencesOk (global_lists m)
  pub laid_out : All IsOk (layout_results (global_lists m))
  pub as_many : length infos ≡ length m.types
  pub flags : length m.types ≤ length lists.type_flags
  pub in_order : AreFunctionsReadyInOrder m
  pub functions : lists.functions ≡ []
  pub entry_points : lists.entry_points ≡ []

-- a validator in the state `state`, whose typing resolves so, accepts the module `m` and returns what is known of it;
-- `resolved` says whether overrides have to have their values
abbrev pub IsAcceptedBy : {T : Type 0} → Resolves → State T → Boolean → Module → ModuleInfoWithRoom → Type 0
IsAcceptedBy resolves state resolved m info = Accepts resolves m (settings_of state resolved) state.infos info.lists

-- the functions of the module `m` can be validated, and these lists have an info of each
pub record AreFunctionsKnown (m : Module) (lists : ModuleInfoLists) : Type 0 where
  pub handles : HandlesAccepted m
  pub flags : length m.types ≤ length lists.type_flags
  pub in_order : AreFunctionsReadyInOrder m
  pub functions : length lists.functions ≡ length m.functions

-- the function `f` has every argument that its expressions name
abbrev pub ArgumentsAreThere : Function → Type 0
ArgumentsAreThere f = (e i : ℕ) → slice_get f.expressions e ≡ Some (form.FunctionArgument i) → i < length f.arguments

-- the expressions of the function `f` of the module `m` can be validated, of which these lists are known
pub record CanValidateIn (m : Module) (f : Function) (lists : ModuleInfoLists) : Type 0 where
  pub handles : HandlesAccepted m
  pub function : IsFunctionReady m f (length lists.functions)
  pub arguments : ArgumentsAreThere f
  pub flags : length m.types ≤ length lists.type_flags

-- the kinds and the types of the expressions before a place are known, and these types are in `lists`
pub record IsKnownBefore (lists : GlobalLists) (kinds : List ExpressionKind) (types : List TypeResolution) (place : ℕ) : Type 0 where
  pub kinds_known : place ≤ length kinds
  pub types_known : place ≤ length types
  pub types_exist : All (ResolutionExists lists) types

-- the expression `x` stands at this place in the function `f`, or is an argument
abbrev pub IsThereOrArgument : Function → ℕ → Expression → Type 0
IsThereOrArgument f place x = (slice_get f.expressions place ≡ Some x) ⊎ ((i : ℕ) × (x ≡ form.FunctionArgument i))

-- the type of the global variable `v` of the module `m` exists, if the variable does
abbrev pub IsVariableTyped : Module → ℕ → Type 0
IsVariableTyped m v = IsTyped (global_lists m) (slice_get m.global_variables v)

-- the global variable that the error names
abbrev pub variable_of : DeclarationsError → Option ℕ
variable_of (declarations_error.Variable (variables_error.GlobalVariable handle source)) = Some handle
variable_of _ = None

-- the global variable that the error names, if it names one, is of the module `m`
abbrev pub IsVariableThere : Module → DeclarationsError → Type 0
IsVariableThere m error = IfSome (variable_of error) (λ v. v < length m.global_variables)
