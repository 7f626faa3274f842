-- What a function declares doesn't depend on the kinds of its expressions if no local variable has an initialiser.
use Rattle.std.proofs.Common.{◌≡◌, ◌+◌, ◌∙◌, ℕ, Bool, false, IsTrue, List, [], ◌∷◌, Option, Some, None, inl, inr, map, ap, refl}
use Rattle.std.proofs.lemmas.Bool.{cases_Bool, or_parts}
use Rattle.std.specs.List.{enumerate_from, list_any}
use Rattle.std.specs.Option.{is_some, option_map, option_or}
use Rattle.naga_interface.specs.Functions.{arguments_error, declaration_checks, has_initialiser, has_initialisers, initialiser_checks, local_variable_error, result_checks}
use Rattle.naga_interface.specs.Surroundings.{InterfaceSurroundings, KnownExpressions}
use Rattle.naga_interface.specs.declared.error.FunctionDeclarationError.{FunctionDeclarationError}
use Rattle.naga_interface.specs.declared.error.FunctionDeclarationError.TheVariants.{LocalVariable as LocalVariable_}
use Rattle.naga_interface.specs.declared.error.LocalVariableError.{LocalVariableError}
use Rattle.naga_interface.specs.declared.error.LocalVariableError.TheVariants.{InvalidType}
use Rattle.naga_flags.specs.Bits.{CONSTRUCTIBLE}
use Rattle.naga_flags.specs.Flags.{has}
use Rattle.naga_interface.specs.Surroundings.{flags_of}
use Rattle.naga_ir.specs.declared.ir.Function.{Function}
use Rattle.naga_ir.specs.declared.ir.LocalVariable.{LocalVariable}
use Rattle.naga_types.specs.Checks.{first, require}
use Rattle.naga_typing.proofs.ExpressionKinds.{kinds_once}
use Rattle.naga_typing.specs.Kinds.{AreKinds}
use Rattle.naga_typing.specs.declared.expression_kind.ExpressionKind.{ExpressionKind}
use Rattle.naga_typing.specs.declared.typifier.TypeResolution.{TypeResolution}

module _ (s : InterfaceSurroundings) (types : List TypeResolution) (us vs : List ExpressionKind) where
  abbrev by : List ExpressionKind → KnownExpressions
  by kinds = record { types = types; kinds = kinds }

  without : (ty : ℕ) (init : Option ℕ) → is_some init ≡ false → first (initialiser_checks s (by us) ty init) ≡ first (initialiser_checks s (by vs) ty init)
  without ty None none = refl
  without ty (Some e) none = cc none

  one : (k : ℕ) (v : LocalVariable) → is_some v.init ≡ false → local_variable_error s (by us) (k, v) ≡ local_variable_error s (by vs) (k, v)
  one k v none = ap (λ (o : Option LocalVariableError). option_map (LocalVariable_ k) (first (require (has (flags_of s v.ty) CONSTRUCTIBLE) (InvalidType v.ty) ∷ o ∷ []))) (without v.ty v.init none)

  all : (k : ℕ) (variables : List LocalVariable) → list_any has_initialiser variables ≡ false
      → first (map (local_variable_error s (by us)) (enumerate_from k variables)) ≡ first (map (local_variable_error s (by vs)) (enumerate_from k variables))
  all k [] none = refl
  all k (v ∷ rest) none =
      let both = or_parts (has_initialiser v) (list_any has_initialiser rest) none in
      ap (λ (o : Option FunctionDeclarationError). option_or o (first (map (local_variable_error s (by us)) (enumerate_from (k + 1) rest)))) (one k v both.0)
      ∙ ap (option_or (local_variable_error s (by vs) (k, v))) (all (k + 1) rest both.1)

  -- the conditions are those by the kinds of the expressions, if the kinds are known that are needed
  pub same_checks : (is_entry_point : Bool) (f : Function) → AreKinds f.expressions vs → (IsTrue (has_initialisers f) → AreKinds f.expressions us)
      → declaration_checks s (by us) is_entry_point f ≡ declaration_checks s (by vs) is_entry_point f
  same_checks is_entry_point f are found = elim (cases_Bool (has_initialisers f)) [
    | inl some ↦ ap (λ (kinds : List ExpressionKind). declaration_checks s (by kinds) is_entry_point f) (kinds_once f.expressions us vs (found some) are)
    | inr none ↦
        ap (λ (o : Option FunctionDeclarationError). o ∷ arguments_error s is_entry_point f.arguments ∷ first (result_checks s is_entry_point f.result) ∷ [])
        (all 0 f.local_variables none)
  ]
