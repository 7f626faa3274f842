-- Which functions are accepted, as far as their expressions say, and how the others are refused.
use Rattle.std.specs.Prelude.{◌≡◌, ◌⊎◌, ◌<◌, ◌≤◌, ℕ, Bool, List, Result, Ok, Err, Some, bit_and, fold, length, map, slice_get}
use Rattle.naga_flags.specs.Bits.{all_stages}
use Rattle.naga_flags.specs.declared.flags.ShaderStages.{ShaderStages}
use Rattle.naga_exprs.specs.ExpressionRule.{IsRule}
use Rattle.naga_info.specs.FunctionTypes.{AreFunctionTypes, AreTypesBefore, IsUntyped}
use Rattle.naga_info.specs.ModuleInfo.{ModuleInfoLists}
use Rattle.naga_info.specs.declared.module_info.FunctionInfo.{FunctionInfo}
use Rattle.naga_ir.specs.Handles.{FunctionReferencesOk}
use Rattle.naga_ir.specs.declared.expression.Expression.{Expression}
use Rattle.naga_ir.specs.declared.expression.Expression.TheVariants as form
use Rattle.naga_ir.specs.declared.expression.MathFunction.{MathFunction}
use Rattle.naga_ir.specs.declared.ir.EntryPoint.{EntryPoint}
use Rattle.naga_ir.specs.declared.ir.Function.{Function}
use Rattle.naga_ir.specs.declared.ir.Module.{Module}
use Rattle.naga_ir.specs.declared.types.TypeInner.{TypeInner}
use Rattle.naga_exprs.specs.Math.{MathTyping, math_typing}
use Rattle.naga_info.specs.Surroundings.{ExpressionSurroundings}
use Rattle.naga_info.specs.declared.expression_error.ExpressionError.{ExpressionError}
use Rattle.naga_info.specs.declared.expression_error.ExpressionError.TheVariants.{Type_}
use Rattle.naga_typing.specs.Kinds.{AreKinds}
use Rattle.naga_typing.specs.Typings.{Resolves}
use Rattle.naga_typing.specs.declared.expression_kind.ExpressionKind.{ExpressionKind}
use Rattle.naga_typing.specs.declared.typifier.ResolveError.{ResolveError}
use Rattle.naga_typing.specs.declared.typifier.TypeResolution.{TypeResolution}
use Rattle.naga_valid.specs.State.{State}
use Rattle.naga_valid.specs.declared.function.FunctionError.{FunctionError}
use Rattle.naga_valid.specs.declared.function.FunctionError.TheVariants.{Expression as Expression_, OutOfMemory}

-- what the validation of the expressions of a function depends on: how their types follow, what mathematical functions
-- take, the capabilities, whether overrides must have their values, the stages that may use subgroup operations, the
-- module, the function, and what is known of the module
pub record FunctionSurroundings : Type 0 where
  pub resolves : Resolves
  pub math : MathTyping
  pub capabilities : ℕ
  pub resolved : Bool
  pub subgroup_stages : ShaderStages
  pub «module» : Module
  pub function : Function
  pub infos : ModuleInfoLists

-- what the validation of a function `f` depends on under a validator with this `state`
abbrev pub function_surroundings : {T : Type 0} → Resolves → MathTyping → State T → Bool → Module → Function
    → ModuleInfoLists → FunctionSurroundings
function_surroundings resolves math state resolved m f infos = record {
  resolves = resolves;
  math = math;
  capabilities = state.capabilities.0;
  resolved = resolved;
  subgroup_stages = state.subgroup_stages;
  «module» = m;
  function = f;
  infos = infos;
}

-- what the validation of a function `f` depends on under a validator with this `state`, by what typings resolve, which
-- arguments of mathematical functions they accept, and how many these take at least
abbrev pub validator_surroundings : {T : Type 0} → (T → Resolves) → (T → MathFunction → List TypeInner → Bool)
    → (T → MathFunction → List TypeInner → ℕ) → State T → Bool → Module → Function → ModuleInfoLists
    → FunctionSurroundings
validator_surroundings resolves accepts least_arguments state =
    function_surroundings (resolves state.typing) (math_typing (accepts state.typing) (least_arguments state.typing))
    state

-- what the validation of an expression of a function depends on, once `types` and `kinds` of its expressions are known
abbrev pub expression_surroundings : FunctionSurroundings → List TypeResolution → List ExpressionKind
    → ExpressionSurroundings
expression_surroundings s types kinds = record {
  capabilities = s.capabilities;
  resolved = s.resolved;
  subgroup_stages = s.subgroup_stages;
  «module» = s.«module»;
  function = s.function;
  types = types;
  infos = s.infos;
  kinds = kinds;
}

-- what the validation of an expression of a function depends on under a validator with this `state`: whether overrides
-- must have their values, the module, the function, what is known of the module, and the types and the kinds of the
-- expressions
abbrev pub surroundings_under : {T : Type 0} → State T → Bool → Module → Function → ModuleInfoLists
    → List TypeResolution → List ExpressionKind → ExpressionSurroundings
surroundings_under state resolved m f infos types kinds = record {
  capabilities = state.capabilities.0;
  resolved = resolved;
  subgroup_stages = state.subgroup_stages;
  «module» = m;
  function = f;
  types = types;
  infos = infos;
  kinds = kinds;
}

-- by `types`, the rule of the expression at `place` says `rule`
abbrev pub IsRuleAt : FunctionSurroundings → List TypeResolution → ℕ → Result ShaderStages ExpressionError → Type 0
IsRuleAt s types place rule =
    (x : Expression) × (kinds : List ExpressionKind) × (slice_get s.function.expressions place ≡ Some x)
    × AreKinds s.function.expressions kinds × IsRule s.math (expression_surroundings s types kinds) x rule

-- the expression at each index of `stages` keeps its rule, and the item of that index is the stages that may use it
abbrev pub KeepRules : FunctionSurroundings → List TypeResolution → List ShaderStages → Type 0
KeepRules s types stages =
    (place : ℕ) (allowed : ShaderStages) → slice_get stages place ≡ Some allowed → IsRuleAt s types place (Ok allowed)

-- the stages that are in each of some sets of stages
abbrev pub common_stages : List ShaderStages → ShaderStages
common_stages stages = record { 0 = fold bit_and all_stages (map (λ (allowed : ShaderStages). allowed.0) stages) }

-- the function of `s` is accepted, and `info` is what is known of it: each expression has its type and keeps its rule,
-- and the stages that may use the function are the stages that may use each expression
pub record IsFunctionAccepted (s : FunctionSurroundings) (info : FunctionInfo) : Type 0 where
  pub types : AreFunctionTypes s.resolves s.«module» s.function info.types
  pub stages : List ShaderStages
  pub as_many : length stages ≡ length s.function.expressions
  pub rules : KeepRules s info.types stages
  pub common : info.available_stages ≡ common_stages stages

-- the expression after the ones that have `types` is the first that has no type, and `error` is why
abbrev pub IsFirstUntyped : FunctionSurroundings → List TypeResolution → ResolveError → Type 0
IsFirstUntyped s types error =
    AreTypesBefore s.resolves s.«module» s.function (length types) types
    × IsUntyped s.resolves s.«module» s.function (length types) types error

-- `types` are the types of all expressions, or of the expressions before the first that has none
abbrev pub AreTypesReached : FunctionSurroundings → List TypeResolution → Type 0
AreTypesReached s types =
    AreFunctionTypes s.resolves s.«module» s.function types ⊎ ((error : ResolveError) × IsFirstUntyped s types error)

-- the expression at `place` is refused: its rule says so, or allows some stages, and it has no type
pub data IsRefusedAt (s : FunctionSurroundings) (types : List TypeResolution) (place : ℕ) : ExpressionError
    → Type 0 where
  breaks_rule : (source : ExpressionError) → IsRuleAt s types place (Err source) → IsRefusedAt s types place source
  has_no_type : (allowed : ShaderStages) (error : ResolveError) → IsRuleAt s types place (Ok allowed)
      → length types ≡ place → IsFirstUntyped s types error → IsRefusedAt s types place (Type_ error)

-- the expression at `place` is the first that is refused, with the error `source`: the expressions before it have types
-- and keep their rules
pub record IsFunctionRefusal (s : FunctionSurroundings) (place : ℕ) (source : ExpressionError) : Type 0 where
  pub types : List TypeResolution
  pub reached : AreTypesReached s types
  pub typed : place ≤ length types
  pub before : List ShaderStages
  pub as_many : length before ≡ place
  pub rules : KeepRules s types before
  pub refused : IsRefusedAt s types place source

-- the function of `s` is refused with this error, and isn't accepted
abbrev pub RefusesFunction : FunctionSurroundings → FunctionError → Type 0
RefusesFunction s (Expression_ place source) =
    IsFunctionRefusal s place source × ((info : FunctionInfo) → ¬ (IsFunctionAccepted s info))
RefusesFunction s OutOfMemory = ⊥

-- each function whose result is an expression of the function `f` has an index below `count`
abbrev pub CallsBefore : Function → ℕ → Type 0
CallsBefore f count = (e called : ℕ) → slice_get f.expressions e ≡ Some (form.CallResult called) → called < count

-- the handles of function `f` are right, and `count` functions have to be known before it is validated
pub record IsFunctionReady (m : Module) (f : Function) (count : ℕ) : Type 0 where
  pub references : FunctionReferencesOk m f
  pub calls : CallsBefore f count

-- the functions of module `m` can be validated in order, each once the functions before it are known, and its
-- entry points once all functions are
pub record AreFunctionsReadyInOrder (m : Module) : Type 0 where
  pub functions : (i : ℕ) (f : Function) → slice_get m.functions i ≡ Some f → IsFunctionReady m f i
  pub entry_points : (i : ℕ) (e : EntryPoint) → slice_get m.entry_points i ≡ Some e
      → IsFunctionReady m e.function (length m.functions)
