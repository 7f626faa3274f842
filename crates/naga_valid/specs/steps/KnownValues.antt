-- What is known when the values of a module are validated.
use Rattle.std.specs.Prelude.{◌≡◌, ℕ, List, All, Result, length}
use Rattle.naga_arena.specs.InOrder.{IsFirstErrorInOrder}
use Rattle.naga_arena.specs.Results.{IsFirstError}
use Rattle.naga_ir.specs.Handles.{HandlesAccepted}
use Rattle.naga_ir.specs.declared.ir.Module.{Module}
use Rattle.naga_info.specs.ModuleInfo.{ModuleInfoLists}
use Rattle.naga_info.specs.declared.const_expression_error.ConstExpressionError.TheVariants.{Type_ as Unresolved}
use Rattle.naga_typing.specs.Resolutions.{TypesExist}
use Rattle.naga_typing.specs.Typings.{Resolves, resolve_in_order}
use Rattle.naga_typing.specs.declared.expression_kind.ExpressionKind.{ExpressionKind}
use Rattle.naga_typing.specs.declared.typifier.ResolveError.{ResolveError}
use Rattle.naga_valid.specs.declared.error.ValidationError.{ValidationError}
use Rattle.naga_valid.specs.declared.error.ValidationError.TheVariants.{ConstExpression}

-- the handles of a module are right, and its types have flags and its global expressions types that exist
pub record AreFilled (m : Module) (info : ModuleInfoLists) : Type 0 where
  pub handles : HandlesAccepted m
  pub flags : length info.type_flags ≡ length m.types
  pub types : length info.const_expression_types ≡ length m.global_expressions
  pub exist : All (TypesExist m.types) info.const_expression_types

-- besides what `AreFilled` says, `kinds` has a kind for each global expression of the module
pub record AreFilledWithKinds (m : Module) (info : ModuleInfoLists) (kinds : List ExpressionKind) : Type 0 where
  pub filled : AreFilled m info
  pub kinds_are : length kinds ≡ length m.global_expressions

-- `e` is the first error among `results`
abbrev pub IsFirstValueError : List (Result (Unit {0}) ValidationError) → ValidationError → Type 0
IsFirstValueError results e = (place : ℕ) × IsFirstError results place e

-- `e` is the error of the first global expression that has no type
pub record IsFirstUnresolved (resolves : Resolves) (m : Module) (e : ValidationError) : Type 0 where
  pub handle : ℕ
  pub error : ResolveError
  pub first : IsFirstErrorInOrder (resolve_in_order resolves m) m.global_expressions handle error
  pub reported_as : e ≡ ConstExpression handle (Unresolved error)
