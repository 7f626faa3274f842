-- When an expression of a function can be validated.
use Rattle.std.proofs.Common.{◌≡◌, ◌<◌, ◌≤◌, ◌∷◌, ℕ, Bool as Boolean, List, inl, inr, [], Contains, Some, All, length, slice_get, arith, refl, subst, sym}
use Rattle.std.specs.List.{flat_map}
use Rattle.std.proofs.lemmas.List.Elements.{All-contains, All-nil}
use Rattle.std.proofs.lemmas.Option.{slice_get_within}
use Rattle.naga_arena.proofs.Elements.{all-of}
use Rattle.naga_info.specs.ModuleInfo.{ModuleInfoLists}
use Rattle.naga_ir.proofs.ReferencesOfItems.{within_all}
use Rattle.naga_ir.specs.Handles.{Exists, ExpressionReferencesOk, function_counts, own_operand}
use Rattle.naga_ir.specs.ItemReferences.{expression_references, global_lists}
use Rattle.naga_ir.specs.References.{named_item, named_type, operands}
use Rattle.naga_ir.specs.declared.expression.Expression.{Expression}
use Rattle.naga_ir.specs.declared.expression.Expression.TheVariants as form
use Rattle.naga_ir.specs.declared.ir.Function.{Function}
use Rattle.naga_ir.specs.declared.ir.Module.{Module}
use Rattle.naga_ir.specs.declared.reference.Reference.{Reference}
use Rattle.naga_info.proofs.KindOperands.{of_kind_operands}
use Rattle.naga_info.specs.Surroundings.{AreSound, IsReady, ExpressionSurroundings}
use Rattle.naga_query.specs.Accepted.{CanValidateIn, IsKnownBefore, IsThereOrArgument}
use Rattle.naga_typing.proofs.ExpressionTypes.{Typed, next_place}
use Rattle.naga_typing.proofs.Iteration.{accepts_all, next_item}
use Rattle.naga_typing.specs.declared.expression_kind.ExpressionKind.{ExpressionKind}
use Rattle.naga_typing.specs.declared.typifier.TypeResolution.{TypeResolution}
use Rattle.naga_valid.specs.Functions.{IsFunctionReady}

module _ (s : ExpressionSurroundings) (place : ℕ) (known : CanValidateIn s.«module» s.function s.infos) (before : IsKnownBefore (global_lists s.«module») s.kinds s.types place) where
  abbrev Here : Reference → Type 0
  Here = Exists (function_counts s.«module» s.function)

  abbrev in_function : ExpressionReferencesOk s.«module» s.function
  in_function = known.function.references.in_expressions

  abbrev sound : AreSound s
  sound = record { handles = known.handles; in_function = in_function; types_exist = before.types_exist; flags = known.flags }

  -- the expression that stands there can be
  ready : (x : Expression) → slice_get s.function.expressions place ≡ Some x → IsReady s place x
  ready x at =
      let earlier : (o : ℕ) → Contains (operands x) o → o < place = λ o names. in_function.back _ _ (own_operand place o x at names) in
      record {
        sound = sound;
        references = all-of Here (expression_references x) (λ r names. All-contains Here (flat_map expression_references s.function.expressions) r in_function.expressions (within_all expression_references s.function.expressions place x r at names));
        before = all-of (λ (o : ℕ). o < place) (operands x) earlier;
        typed = all-of (λ (o : ℕ). o < length s.types) (operands x) (λ o names. let b = earlier o names in omega (arith, b, before.types_known));
        kinds = of_kind_operands (λ (o : ℕ). o < length s.kinds) x (all-of (λ (o : ℕ). o < length s.kinds) (operands x) (λ o names. let b = earlier o names in omega (arith, b, before.kinds_known)));
        arguments = λ e i below there. known.arguments e i there;
        called = λ f same. known.function.calls place f (subst (λ (y : Expression). slice_get s.function.expressions place ≡ Some y) same at);
      }

  no_references : (i : ℕ) → expression_references (form.FunctionArgument i) ≡ []
  unfolding operands named_type named_item
  no_references i = refl

  no_operands : (i : ℕ) → operands (form.FunctionArgument i) ≡ []
  unfolding operands
  no_operands i = refl

  -- an argument can be validated at the place
  ready_argument : (i : ℕ) → IsReady s place (form.FunctionArgument i)
  ready_argument i = record {
    sound = sound;
    references = subst (All Here) (sym (no_references i)) (All-nil Here);
    before = subst (All (λ (o : ℕ). o < place)) (sym (no_operands i)) (All-nil (λ (o : ℕ). o < place));
    typed = subst (All (λ (o : ℕ). o < length s.types)) (sym (no_operands i)) (All-nil (λ (o : ℕ). o < length s.types));
    kinds = All-nil (λ (o : ℕ). o < length s.kinds);
    arguments = λ e i below there. known.arguments e i there;
    called = λ f same. cc same;
  }

  pub ready_either : (x : Expression) → IsThereOrArgument s.function place x → IsReady s place x
  ready_either x (inl at) = ready x at
  ready_either x (inr (i, is)) = subst (IsReady s place) (sym is) (ready_argument i)

-- a function whose callees are known can be validated once more functions are known
pub known_later : (m : Module) (f : Function) (n more : ℕ) → n ≤ more → IsFunctionReady m f n → IsFunctionReady m f more
known_later m f n more below can = record {
  references = can.references;
  calls = λ e called at. let b = can.calls e called at in omega (arith, b, below);
}

-- so much is known before the next expression of a function whose expressions so far have types
pub known_before_next : (m : Module) (f : Function) (kinds : List ExpressionKind) → length kinds ≡ length f.expressions
    → (earlier : List TypeResolution) (left : List (ℕ × Expression)) (n : ℕ) (x : Expression) (more : List (ℕ × Expression))
    → Typed m f.expressions earlier left → left ≡ (n, x) ∷ more → IsKnownBefore (global_lists m) kinds earlier n
known_before_next m f kinds as_many earlier left n x more typed e =
    let place : n ≡ length earlier = next_place m f.expressions earlier left n x more typed e in
    let within : n < length f.expressions = slice_get_within _ _ _ (next_item accepts_all f.expressions (length earlier) left n x more typed.iterating e) in
    record {
      kinds_known = omega (arith, within, as_many);
      types_known = omega (arith, place);
      types_exist = typed.exist;
    }
