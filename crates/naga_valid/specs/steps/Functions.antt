-- What is known when the rules of a function's expressions are checked.
use Rattle.std.specs.Prelude.{◌≡◌, ◌⊎◌, ◌<◌, ◌≤◌, ℕ, List, [], All, Err, length}
use Rattle.naga_flags.specs.declared.flags.ShaderStages.{ShaderStages}
use Rattle.naga_info.specs.Surroundings.{kind_operands}
use Rattle.naga_ir.specs.Handles.{ExpressionReferencesOk, HandlesAccepted}
use Rattle.naga_ir.specs.ItemReferences.{global_lists}
use Rattle.naga_ir.specs.declared.expression.Expression.{Expression as Expression_}
use Rattle.naga_info.specs.declared.expression_error.ExpressionError.{ExpressionError}
use Rattle.naga_typing.specs.Kinds.{AreKinds}
use Rattle.naga_typing.specs.declared.expression_kind.ExpressionKind.{ExpressionKind}
use Rattle.naga_typing.specs.Resolutions.{ResolutionExists}
use Rattle.naga_typing.specs.declared.typifier.TypeResolution.{TypeResolution}
use Rattle.naga_valid.specs.Functions.{AreTypesReached, CallsBefore, FunctionSurroundings, IsRuleAt, KeepRules, common_stages}
use Rattle.naga_valid.specs.declared.function.FunctionError.{FunctionError}
use Rattle.naga_valid.specs.declared.function.FunctionError.TheVariants.{Expression, OutOfMemory}

-- the rules of the expressions of a function can be checked by `types`
pub record CanCheckRules (s : FunctionSurroundings) (types : List TypeResolution) : Type 0 where
  pub handles : HandlesAccepted s.«module»
  pub in_function : ExpressionReferencesOk s.«module» s.function
  pub flags : length s.«module».types ≤ length s.infos.type_flags
  pub calls : CallsBefore s.function (length s.infos.functions)
  pub reached : AreTypesReached s types
  pub exist : All (ResolutionExists (global_lists s.«module»)) types

-- `kinds` are the kinds of expressions `xs`, or none while they aren't found
abbrev pub AreFoundKinds : List Expression_ → List ExpressionKind → Type 0
AreFoundKinds xs kinds = (kinds ≡ []) ⊎ AreKinds xs kinds

-- `kinds` are enough to check the rule of expression `x`, one of `xs`: it needs none, or they are the kinds of `xs`
abbrev pub SufficeFor : List Expression_ → Expression_ → List ExpressionKind → Type 0
SufficeFor xs x kinds = (kind_operands x ≡ []) ⊎ AreKinds xs kinds

-- all expressions, or at least one more than have types, keep their rules, and `common` are the stages that may use
-- each of these
pub record AllowInCommon (s : FunctionSurroundings) (types : List TypeResolution) (common : ShaderStages) : Type 0 where
  pub stages : List ShaderStages
  pub enough : (length stages ≡ length s.function.expressions) ⊎ (length types < length stages)
  pub rules : KeepRules s types stages
  pub are_common : common ≡ common_stages stages

-- the expression at `place` is the first that breaks its rule, with the error `source`
pub record IsFirstBreach (s : FunctionSurroundings) (types : List TypeResolution) (place : ℕ) (source : ExpressionError) : Type 0 where
  pub typed : place ≤ length types
  pub before : List ShaderStages
  pub as_many : length before ≡ place
  pub rules : KeepRules s types before
  pub broken : IsRuleAt s types place (Err source)

-- the error names the first expression that breaks its rule
abbrev pub IsFirstBreachAs : FunctionSurroundings → List TypeResolution → FunctionError → Type 0
IsFirstBreachAs s types (Expression place source) = IsFirstBreach s types place source
IsFirstBreachAs s types OutOfMemory = ⊥
