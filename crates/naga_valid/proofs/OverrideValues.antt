-- What is accepted if overrides have to have their values is accepted too if they needn't.
use Rattle.std.proofs.Common.{◌≡◌, [], ◌∷◌, ◌++◌, ℕ, Bool, true, false, not, List, Option, Some, None, Result, Ok, Err, All, IsOk, ap, refl, subst, take}
use Rattle.std.specs.List.{enumerate_from}
use Rattle.std.proofs.lemmas.List.Elements.{All-append, All-map, All-weaker}
use Rattle.naga_arena.proofs.Elements.{all-left, all-right, all-unmap}
use Rattle.naga_exprs.proofs.OverrideValues.{unresolved as unresolved_expression}
use Rattle.naga_exprs.specs.ConstExpression.{const_expression_rule}
use Rattle.naga_flags.specs.declared.flags.Capabilities.{Capabilities}
use Rattle.naga_info.specs.ModuleInfo.{ModuleInfoLists}
use Rattle.naga_ir.specs.declared.expression.Expression.{Expression}
use Rattle.naga_ir.specs.declared.ir.Module.{Module}
use Rattle.naga_ir.specs.declared.ir.Override.{Override as OverrideItem}
use Rattle.naga_types.specs.Checks.{first_error_or, require}
use Rattle.naga_types.proofs.OverrideValues.{unresolved as unresolved_types}
use Rattle.naga_typing.specs.Typings.{Resolves}
use Rattle.naga_typing.specs.declared.expression_kind.ExpressionKind.{ExpressionKind}
use Rattle.naga_valid.specs.Accepted.{AreValidTypes, IsAccepted, lists_of}
use Rattle.naga_valid.specs.State.{Facts, Settings}
use Rattle.naga_valid.specs.Values.{const_surroundings, constant_result, expression_result, override_result, initialiser_error, is_constructible, is_override_type, override_rule, reported, results_of, value_results, is_taken}
use Rattle.naga_typing.specs.Resolutions.{inner_in}
use Rattle.naga_typing.specs.declared.typifier.TypeResolution.TheVariants.{Handle}
use Rattle.naga_valid.specs.declared.error.OverrideError.{OverrideError}
use Rattle.naga_valid.specs.declared.error.OverrideError.TheVariants as override_error
use Rattle.naga_valid.specs.declared.error.ValidationError.{ValidationError}
use Rattle.naga_valid.specs.declared.error.ValidationError.TheVariants.{ConstExpression, Override}

-- a result that is reported as accepted is
pub accepted-if : {E : Type 0} (error : E → ValidationError) (r : Result (Unit {0}) E) → IsOk (reported error r) → r ≡ Ok tt
accepted-if error (Ok u) ok = refl
accepted-if error (Err e) ok = cc (ok)

-- an accepted result is reported as accepted
pub reported-if : {E : Type 0} (error : E → ValidationError) (r : Result (Unit {0}) E) → r ≡ Ok tt → IsOk (reported error r)
reported-if error (Ok u) ok = refl
reported-if error (Err e) ok = cc (ok)

-- if each item that a rule accepts is accepted by another, so are all
pub all-weaker : {X : Type 0} (strict lax : ℕ × X → Result (Unit {0}) ValidationError) (items : List X) → ((at : ℕ × X) → IsOk (strict at) → IsOk (lax at)) → All IsOk (results_of strict items) → All IsOk (results_of lax items)
all-weaker strict lax items weaker all =
    All-map IsOk lax (enumerate_from 0 items) (All-weaker (λ at. IsOk (strict at)) (λ at. IsOk (lax at)) weaker (enumerate_from 0 items) (all-unmap IsOk strict (enumerate_from 0 items) all))

-- all of these conditions hold
abbrev Passes : List (Option OverrideError) → Type 0
Passes refusals = let judgement : Result (Unit {0}) OverrideError = first_error_or refusals tt in judgement ≡ Ok tt

-- conditions that pass do so too if the last is weaker
last-weaker : (a b c strict lax : Option OverrideError) → (strict ≡ None → lax ≡ None) → Passes (a ∷ b ∷ c ∷ strict ∷ []) → Passes (a ∷ b ∷ c ∷ lax ∷ [])
last-weaker None None None None lax weaker ok = ap (λ (l : Option OverrideError). let judgement : Result (Unit {0}) OverrideError = first_error_or (None ∷ None ∷ None ∷ l ∷ []) tt in judgement) (weaker refl)
last-weaker None None None (Some e) lax weaker ok = cc (ok)
last-weaker None None (Some e) strict lax weaker ok = cc (ok)
last-weaker None (Some e) c strict lax weaker ok = cc (ok)
last-weaker (Some e) b c strict lax weaker ok = cc (ok)

module _ (capabilities : Capabilities) (m : Module) (info : ModuleInfoLists) (kinds : List ExpressionKind) where
  expression-too : (at : ℕ × Expression) → IsOk (expression_result (const_surroundings capabilities true m info kinds) at) → IsOk (expression_result (const_surroundings capabilities false m info kinds) at)
  expression-too at ok =
      let s = const_surroundings capabilities false m info kinds in
      reported-if (ConstExpression at.0) (const_expression_rule s at.0 at.1) (unresolved_expression s at.0 at.1 (accepted-if (ConstExpression at.0) (const_expression_rule (const_surroundings capabilities true m info kinds) at.0 at.1) ok))

  initialiser-too : (t : ℕ) (init : Option ℕ) → initialiser_error true m info t init ≡ None → initialiser_error false m info t init ≡ None
  initialiser-too t (Some e) none = none
  initialiser-too t None none = refl

  rule-too : (is_duplicate : Bool) (o : OverrideItem) → override_rule is_duplicate true m info o ≡ Ok tt → override_rule is_duplicate false m info o ≡ Ok tt
  rule-too is_duplicate o ok =
      last-weaker (require (not is_duplicate) override_error.DuplicateID) (require (is_constructible info o.ty) override_error.NonConstructibleType)
      (require (is_override_type (inner_in m.types (Handle o.ty))) override_error.TypeNotScalar)
      (initialiser_error true m info o.ty o.init) (initialiser_error false m info o.ty o.init) (initialiser-too o.ty o.init) ok

  override-too : (at : ℕ × OverrideItem) → IsOk (override_result true m info at) → IsOk (override_result false m info at)
  override-too at ok =
      let taken = is_taken (take at.0 m.overrides) at.1.id in
      reported-if (Override at.0 _) (override_rule taken false m info at.1) (rule-too taken at.1 (accepted-if (Override at.0 _) (override_rule taken true m info at.1) ok))

  -- all values that keep their rules if overrides have to have values keep them too if they needn't
  pub values-too : All IsOk (value_results capabilities true m info kinds) → All IsOk (value_results capabilities false m info kinds)
  values-too all =
      let strict = const_surroundings capabilities true m info kinds in
      let lax = const_surroundings capabilities false m info kinds in
      let expressions = results_of (expression_result strict) m.global_expressions in
      let constants = results_of (constant_result m info kinds) m.constants in
      let overrides = results_of (override_result true m info) m.overrides in
      let rest = all-right IsOk expressions (constants ++ overrides) all in
      All-append IsOk (results_of (expression_result lax) m.global_expressions) _
      (all-weaker (expression_result strict) (expression_result lax) m.global_expressions expression-too (all-left IsOk expressions (constants ++ overrides) all))
      (All-append IsOk constants _ (all-left IsOk constants overrides rest)
      (all-weaker (override_result true m info) (override_result false m info) m.overrides override-too (all-right IsOk constants overrides rest)))

-- all facts of a module that is accepted if overrides have to have values are its facts if they needn't
pub accepted-too : (resolves : Resolves) (m : Module) (settings : Settings) (facts : Facts) → IsAccepted resolves m (record settings { resolved = true }) facts → IsAccepted resolves m (record settings { resolved = false }) facts
accepted-too resolves m settings facts accepted = record {
  known = record {
    types = types-too accepted.known.types;
    resolutions = accepted.known.resolutions;
  };
  values = λ checked. let values = accepted.values checked in let are = values.are_results in record {
    results = value_results settings.capabilities false m (lists_of facts) are.0;
    are_results = (are.0, are.1, refl);
    all_ok = values-too settings.capabilities m (lists_of facts) are.0 (subst (All IsOk) are.2 values.all_ok);
  };
}
  where
    types-too : AreValidTypes m (record settings { resolved = true }) facts.infos → AreValidTypes m (record settings { resolved = false }) facts.infos
    types-too types = record { layouts = types.layouts; accepted = unresolved_types m settings.capabilities types.layouts facts.infos types.accepted }
