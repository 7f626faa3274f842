-- The results of variables don't depend on the kinds of global expressions if no variable has an initialiser.
use Rattle.std.proofs.Common.{◌≡◌, ◌∙◌, ◌<◌, ℕ, Bool, true, false, IsTrue, List, [], ◌∷◌, Option, Some, None, Result, inl, inr, ap, arith, get_or, length, map, refl, slice_get}
use Rattle.std.proofs.lemmas.Bool.{cases_Bool, or_parts}
use Rattle.std.proofs.lemmas.List.Folds.{list_any_at}
use Rattle.std.proofs.lemmas.Option.{get_or_from_slice_get, slice_get_within}
use Rattle.std.specs.List.{list_any}
use Rattle.std.specs.Option.{IfSome, is_some}
use Rattle.naga_flags.specs.Bits.{BINDINGS}
use Rattle.naga_flags.specs.Flags.{has}
use Rattle.naga_interface.specs.GlobalVariables.{array_error, bindings_of, bound_type, decoration_checks, flags_error, global_variable_rule, has_right_binding, initialiser_checks, space_checks}
use Rattle.naga_interface.specs.Spaces.{space_row}
use Rattle.naga_interface.specs.Surroundings.{InterfaceSurroundings, KnownExpressions, flags_of}
use Rattle.naga_interface.specs.declared.error.GlobalVariableError.{GlobalVariableError}
use Rattle.naga_interface.specs.declared.error.GlobalVariableError.TheVariants.{InvalidBinding}
use Rattle.naga_ir.specs.declared.ir.GlobalVariable.{GlobalVariable}
use Rattle.naga_ir.specs.declared.ir.Module.{Module}
use Rattle.naga_ir.specs.declared.types.AddressSpace.{AddressSpace}
use Rattle.naga_types.specs.Checks.{first, first_error_or, require, when}
use Rattle.naga_typing.proofs.ExpressionKinds.{kinds_once}
use Rattle.naga_typing.specs.Kinds.{AreKinds}
use Rattle.naga_typing.specs.declared.expression_kind.ExpressionKind.{ExpressionKind}
use Rattle.naga_typing.specs.declared.typifier.TypeResolution.{TypeResolution}
use Rattle.naga_valid.specs.Interfaces.{has_initialisers}

-- a variable has an initialiser
abbrev pub has_initialiser : GlobalVariable → Bool
has_initialiser v = is_some v.init

module _ (s : InterfaceSurroundings) (types : List TypeResolution) (us vs : List ExpressionKind) where
  abbrev by : List ExpressionKind → KnownExpressions
  by kinds = record { types = types; kinds = kinds }

  without : (a : AddressSpace) (ty : ℕ) (init : Option ℕ) → is_some init ≡ false → first (initialiser_checks s (by us) a ty init) ≡ first (initialiser_checks s (by vs) a ty init)
  without a ty None none = refl
  without a ty (Some e) none = cc none

  one : (v : GlobalVariable) → has_initialiser v ≡ false → global_variable_rule s (by us) v ≡ global_variable_rule s (by vs) v
  one v none =
      ap
      (λ (o : Option GlobalVariableError).
      let outcome : Result (Unit {0}) GlobalVariableError = first_error_or (
      array_error s v.space (bindings_of s v.ty) ∷ first (space_checks s v.space (bound_type s v.ty))
      ∷ flags_error (space_row v.space).flags.0 (flags_of s (bound_type s v.ty))
      ∷ first (decoration_checks s.capabilities v.space v.memory_decorations)
      ∷ when (has s.flags BINDINGS) (require (has_right_binding (space_row v.space).is_resource v) InvalidBinding) ∷ o ∷ []
      ) tt in outcome)
      (without v.space v.ty v.init none)

  all : (variables : List GlobalVariable) → list_any has_initialiser variables ≡ false → map (global_variable_rule s (by us)) variables ≡ map (global_variable_rule s (by vs)) variables
  all [] none = refl
  all (v ∷ rest) none =
      let both = or_parts (has_initialiser v) (list_any has_initialiser rest) none in
      ap (λ (r : Result (Unit {0}) GlobalVariableError). r ∷ map (global_variable_rule s (by us)) rest) (one v both.0)
      ∙ ap (λ (rs : List (Result (Unit {0}) GlobalVariableError)). global_variable_rule s (by vs) v ∷ rs) (all rest both.1)

  -- the results by the kinds of the global expressions are those by what was found, if that was needed
  pub same_results : (m : Module) → AreKinds m.global_expressions vs → (IsTrue (has_initialisers m) → AreKinds m.global_expressions us)
      → map (global_variable_rule s (by us)) m.global_variables ≡ map (global_variable_rule s (by vs)) m.global_variables
  same_results m are found = elim (cases_Bool (has_initialisers m)) [
    | inl some ↦ ap (λ (kinds : List ExpressionKind). map (global_variable_rule s (by kinds)) m.global_variables) (kinds_once m.global_expressions us vs (found some) are)
    | inr none ↦ all m.global_variables none
  ]

-- the initialiser of a variable has a kind
pub has_kind : (m : Module) (kinds : List ExpressionKind) (i : ℕ) (v : GlobalVariable) → (IsTrue (has_initialisers m) → AreKinds m.global_expressions kinds) → slice_get m.global_variables i ≡ Some v
    → IfSome v.init (λ e. e < length m.global_expressions) → IfSome v.init (λ e. e < length kinds)
has_kind m kinds i v found at exists = by_init v.init refl exists
  where
    by_init : (o : Option ℕ) → v.init ≡ o → IfSome o (λ e. e < length m.global_expressions) → IfSome o (λ e. e < length kinds)
    by_init None is exists = exists
    by_init (Some e) is exists =
        let within = slice_get_within m.global_variables i v at in
        let here : has_initialiser (get_or m.global_variables i v) ≡ true = ap has_initialiser (get_or_from_slice_get m.global_variables i v v at) ∙ ap is_some is in
        let some : IsTrue (has_initialisers m) = list_any_at has_initialiser m.global_variables i v within here in
        let same : length kinds ≡ length m.global_expressions = (found some).as_many in
        omega (arith, exists, same)
