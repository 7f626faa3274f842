-- The rules of constants and overrides, and of all values of a module.
use Rattle.std.specs.Prelude.{◌≡◌, ◌==◌, ℕ, Bool as Boolean, false, not, List, [], ◌∷◌, ◌++◌, Option, Some, None, Result, Ok, Err, map, slice_get, take, option_map, unwrap_or}
use Rattle.std.specs.List.{enumerate_from, list_any}
use Rattle.naga_exprs.specs.ConstExpression.{ConstSurroundings, const_expression_rule}
use Rattle.naga_flags.specs.Bits.{CONSTRUCTIBLE}
use Rattle.naga_flags.specs.Flags.{has}
use Rattle.naga_flags.specs.declared.flags.Capabilities.{Capabilities}
use Rattle.naga_flags.specs.declared.flags.TypeFlags.{TypeFlags}
use Rattle.naga_info.specs.ModuleInfo.{ModuleInfoLists}
use Rattle.naga_ir.specs.declared.expression.Expression.{Expression}
use Rattle.naga_ir.specs.declared.ir.Constant.{Constant as ConstantItem}
use Rattle.naga_ir.specs.declared.ir.Module.{Module}
use Rattle.naga_ir.specs.declared.ir.Override.{Override as OverrideItem}
use Rattle.naga_ir.specs.contracts.types.ScalarPartialEq.TheImpl as of_scalar
use Rattle.naga_ir.specs.declared.types.Scalar.{Scalar as ScalarType}
use Rattle.naga_ir.specs.declared.types.ScalarKind.TheVariants.{Sint, Uint, Float, Bool}
use Rattle.naga_ir.specs.declared.types.TypeInner.{TypeInner}
use Rattle.naga_ir.specs.declared.types.TypeInner.TheVariants.{Scalar}
use Rattle.naga_types.specs.Composing.{is_of, resolution_in}
use Rattle.naga_types.specs.Checks.{first_error_or, require}
use Rattle.naga_typing.specs.Kinds.{AreKinds, is_const}
use Rattle.naga_typing.specs.Resolutions.{inner_in}
use Rattle.naga_typing.specs.declared.expression_kind.ExpressionKind.{ExpressionKind}
use Rattle.naga_typing.specs.declared.typifier.TypeResolution.TheVariants.{Handle}
use Rattle.naga_valid.specs.declared.error.ConstantError.{ConstantError}
use Rattle.naga_valid.specs.declared.error.ConstantError.TheVariants as constant_error
use Rattle.naga_valid.specs.declared.error.OverrideError.{OverrideError}
use Rattle.naga_valid.specs.declared.error.OverrideError.TheVariants as override_error
use Rattle.naga_valid.specs.declared.error.ValidationError.{ValidationError}
use Rattle.naga_valid.specs.declared.error.ValidationError.TheVariants.{ConstExpression, Constant, Override}

-- whether a type is constructible, by what is known of the types of a module
abbrev pub is_constructible : ModuleInfoLists → ℕ → Boolean
is_constructible info t =
    unwrap_or (option_map (λ (f : TypeFlags). has f.0 CONSTRUCTIBLE) (slice_get info.type_flags t)) false

-- whether the global expression of index `e` has the type of index `t`
abbrev pub has_type : Module → ModuleInfoLists → ℕ → ℕ → Boolean
has_type m info t e = is_of m.types t (resolution_in (slice_get info.const_expression_types e))

-- a constant has a constructible type, and an initialiser of this type that is known when the shader is compiled
abbrev pub constant_rule : Module → ModuleInfoLists → List ExpressionKind → ConstantItem
    → Result (Unit {0}) ConstantError
constant_rule m info kinds c = first_error_or
    (require (is_constructible info c.ty) constant_error.NonConstructibleType
    ∷ require (is_const (slice_get kinds c.init)) constant_error.InitializerExprType
    ∷ require (has_type m info c.ty c.init) constant_error.InvalidType ∷ []) tt

-- the scalar types that overrides may have
abbrev pub override_scalars : List ScalarType
override_scalars =
    record { kind = Bool; width = 1 } ∷ record { kind = Sint; width = 2 } ∷ record { kind = Uint; width = 2 } ∷
    record { kind = Sint; width = 4 } ∷ record { kind = Uint; width = 4 } ∷ record { kind = Float; width = 2 } ∷
    record { kind = Float; width = 4 } ∷ record { kind = Float; width = 8 } ∷ []

-- whether overrides may have a type
abbrev pub is_override_type : Option TypeInner → Boolean
is_override_type (Some (Scalar scalar)) = list_any (λ s. of_scalar.ghosts.eq s scalar) override_scalars
is_override_type _ = false

-- whether the override `o` has the number `id`
abbrev pub has_number : ℕ → OverrideItem → Boolean
has_number id o = unwrap_or (option_map (λ (own : ℕ). id == own) o.id) false

-- whether one of some overrides has the number of another, if that has one
abbrev pub is_taken : List OverrideItem → Option ℕ → Boolean
is_taken earlier (Some id) = list_any (has_number id) earlier
is_taken earlier None = false

-- the error, unless the initialiser of an override has its type `t`, and is there if overrides have to have
-- their values, as `resolved` says
abbrev pub initialiser_error : Boolean → Module → ModuleInfoLists → ℕ → Option ℕ → Option OverrideError
initialiser_error resolved m info t (Some e) = require (has_type m info t e) override_error.InvalidType
initialiser_error resolved m info t None = require (not resolved) override_error.UninitializedOverride

-- an override has no number that is taken, a constructible type that is one of some scalars,
-- and an initialiser that is right
abbrev pub override_rule : Boolean → Boolean → Module → ModuleInfoLists → OverrideItem → Result (Unit {0}) OverrideError
override_rule is_duplicate resolved m info o = first_error_or
    (require (not is_duplicate) override_error.DuplicateID
    ∷ require (is_constructible info o.ty) override_error.NonConstructibleType
    ∷ require (is_override_type (inner_in m.types (Handle o.ty))) override_error.TypeNotScalar
    ∷ initialiser_error resolved m info o.ty o.init ∷ []) tt

-- a result with the error that `error` makes of its own
abbrev pub reported : {E : Type 0} → (E → ValidationError) → Result (Unit {0}) E → Result (Unit {0}) ValidationError
reported error (Ok u) = Ok u
reported error (Err e) = Err (error e)

-- the name of an item in errors, which is empty if the item has none
abbrev pub shown_name : Option (List ℕ) → List ℕ
shown_name name = unwrap_or name []

-- what the validation of the global expressions of a module depends on
abbrev pub const_surroundings : Capabilities → Boolean → Module → ModuleInfoLists → List ExpressionKind
    → ConstSurroundings
const_surroundings capabilities resolved m info kinds = record {
  capabilities = capabilities.0;
  resolved = resolved;
  types = m.types;
  kinds = kinds;
  resolutions = info.const_expression_types;
}

-- what the rule says of a global expression with its index
abbrev pub expression_result : ConstSurroundings → ℕ × Expression → Result (Unit {0}) ValidationError
expression_result s at = reported (ConstExpression at.0) (const_expression_rule s at.0 at.1)

-- what the rule says of the constant `at.1` of index `at.0`
abbrev pub constant_result : Module → ModuleInfoLists → List ExpressionKind → ℕ × ConstantItem
    → Result (Unit {0}) ValidationError
constant_result m info kinds at = reported (Constant at.0 (shown_name at.1.name)) (constant_rule m info kinds at.1)

-- what the rule says of the override `at.1` of index `at.0`, whose number no earlier one may have
abbrev pub override_result : Boolean → Module → ModuleInfoLists → ℕ × OverrideItem → Result (Unit {0}) ValidationError
override_result resolved m info at =
    reported (Override at.0 (shown_name at.1.name))
    (override_rule (is_taken (take at.0 m.overrides) at.1.id) resolved m info at.1)

-- what `rule` says of each of `items`, with its index
abbrev pub results_of : {X : Type 0} → (ℕ × X → Result (Unit {0}) ValidationError) → List X
    → List (Result (Unit {0}) ValidationError)
results_of rule items = map rule (enumerate_from 0 items)

-- what the rules say of all values of a module: its global expressions, then its constants, then its overrides
abbrev pub value_results : Capabilities → Boolean → Module → ModuleInfoLists → List ExpressionKind
    → List (Result (Unit {0}) ValidationError)
value_results capabilities resolved m info kinds =
    results_of (expression_result (const_surroundings capabilities resolved m info kinds)) m.global_expressions
    ++ (results_of (constant_result m info kinds) m.constants
    ++ results_of (override_result resolved m info) m.overrides)

-- `results` are the results of all values, by the kinds of the global expressions
abbrev pub AreValueResults : Capabilities → Boolean → Module → ModuleInfoLists
    → List (Result (Unit {0}) ValidationError) → Type 0
AreValueResults capabilities resolved m info results =
    (kinds : List ExpressionKind) × AreKinds m.global_expressions kinds
    × (results ≡ value_results capabilities resolved m info kinds)
