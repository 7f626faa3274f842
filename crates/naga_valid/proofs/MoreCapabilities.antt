-- What is accepted under some capabilities is accepted under more, with the same facts.
use Rattle.std.proofs.Common.{◌≡◌, ◌++◌, ◌∙◌, ℕ, Bool, true, List, All, IsOk, ap, refl, subst, sym}
use Rattle.std.proofs.lemmas.List.Elements.{All-append}
use Rattle.naga_arena.proofs.Elements.{all-left, all-right}
use Rattle.naga_exprs.proofs.MoreCapabilities.{constant-more}
use Rattle.naga_exprs.specs.ConstExpression.{const_expression_rule}
use Rattle.naga_flags.specs.Flags.{has}
use Rattle.naga_flags.specs.declared.flags.Capabilities.{Capabilities}
use Rattle.naga_flags.specs.declared.flags.ValidationFlags.{ValidationFlags}
use Rattle.naga_info.specs.ModuleInfo.{ModuleInfoLists}
use Rattle.naga_ir.specs.declared.expression.Expression.{Expression}
use Rattle.naga_ir.specs.declared.ir.Module.{Module}
use Rattle.naga_types.proofs.MoreCapabilities.{types-more}
use Rattle.naga_typing.specs.Typings.{Resolves}
use Rattle.naga_typing.specs.declared.expression_kind.ExpressionKind.{ExpressionKind}
use Rattle.naga_types.specs.declared.info.TypeInfo.{TypeInfo}
use Rattle.naga_valid.proofs.OverrideValues.{accepted-if, all-weaker, reported-if}
use Rattle.naga_valid.proofs.Refusals.{facts_once}
use Rattle.naga_valid.specs.Accepted.{Accepts, IsAccepted, lists_of}
use Rattle.naga_valid.specs.MoreCapabilities.{HasMoreCapabilities}
use Rattle.naga_valid.specs.State.{Facts, State, settings_of}
use Rattle.naga_valid.specs.Values.{const_surroundings, constant_result, expression_result, override_result, results_of, value_results}
use Rattle.naga_valid.specs.declared.error.ValidationError.TheVariants.{ConstExpression}

module _ (less more : Capabilities) (contained : has more.0 less.0 ≡ true) (resolved : Bool) (m : Module) where
  module _ (info : ModuleInfoLists) (kinds : List ExpressionKind) where
    expression-more : (at : ℕ × Expression) → IsOk (expression_result (const_surroundings less resolved m info kinds) at) → IsOk (expression_result (const_surroundings more resolved m info kinds) at)
    expression-more at ok =
        let s = const_surroundings less resolved m info kinds in
        reported-if (ConstExpression at.0) (const_expression_rule (const_surroundings more resolved m info kinds) at.0 at.1)
        (constant-more s more.0 contained at.0 at.1 (accepted-if (ConstExpression at.0) (const_expression_rule s at.0 at.1) ok))

    -- all values keep their rules: only those of global expressions depend on capabilities
    values-more : All IsOk (value_results less resolved m info kinds) → All IsOk (value_results more resolved m info kinds)
    values-more all =
        let by = const_surroundings less resolved m info kinds in
        let by_more = const_surroundings more resolved m info kinds in
        let expressions = results_of (expression_result by) m.global_expressions in
        let rest = results_of (constant_result m info kinds) m.constants ++ results_of (override_result resolved m info) m.overrides in
        All-append IsOk (results_of (expression_result by_more) m.global_expressions) rest
        (all-weaker (expression_result by) (expression_result by_more) m.global_expressions expression-more (all-left IsOk expressions rest all)) (all-right IsOk expressions rest all)

  -- all facts of a module
  facts-more : (resolves : Resolves) (flags : ValidationFlags) (facts : Facts) → IsAccepted resolves m (record { flags = flags; capabilities = less; resolved = resolved }) facts → IsAccepted resolves m (record { flags = flags; capabilities = more; resolved = resolved }) facts
  facts-more resolves flags facts accepted =
      let types = accepted.known.types in
      record {
        known = record {
          types = record { layouts = types.layouts; accepted = types-more m less more contained resolved types.layouts facts.infos types.accepted };
          resolutions = accepted.known.resolutions;
        };
        values = λ checked. let values = accepted.values checked in let are = values.are_results in record {
          results = value_results more resolved m (lists_of facts) are.0;
          are_results = (are.0, are.1, refl);
          all_ok = values-more (lists_of facts) are.0 (subst (All IsOk) are.2 values.all_ok);
        };
      }

module _ {T : Type 0} (resolves : T → Resolves) (m : Module) (resolved : Bool) (less more : State T) (h : HasMoreCapabilities less more) where
  accepted-more : (facts : Facts) → IsAccepted (resolves less.typing) m (settings_of less resolved) facts → IsAccepted (resolves more.typing) m (settings_of more resolved) facts
  accepted-more facts accepted =
      subst (λ (typing : T). IsAccepted (resolves typing) m (settings_of more resolved) facts) (sym h.typing)
      (subst (λ (flags : ValidationFlags). IsAccepted (resolves less.typing) m (record { flags = flags; capabilities = more.capabilities; resolved = resolved }) facts) (sym h.flags)
      (facts-more less.capabilities more.capabilities h.capabilities resolved m (resolves less.typing) less.flags facts accepted))

  -- a validator that has more capabilities accepts what another does
  pub accepts-more : (infos : List TypeInfo) (lists : ModuleInfoLists) → Accepts (resolves less.typing) m (settings_of less resolved) infos lists → Accepts (resolves more.typing) m (settings_of more resolved) infos lists
  accepts-more infos lists a = record { facts = a.facts; accepted = accepted-more a.facts a.accepted; infos_are = a.infos_are; lists_are = a.lists_are }

  -- a validator with more capabilities returns the same as the other
  pub accepts-same : (infos more_infos : List TypeInfo) (lists more_lists : ModuleInfoLists) → Accepts (resolves less.typing) m (settings_of less resolved) infos lists
      → Accepts (resolves more.typing) m (settings_of more resolved) more_infos more_lists → (more_infos ≡ infos) × (more_lists ≡ lists)
  accepts-same infos more_infos lists more_lists a b =
      let same = facts_once (resolves more.typing) m (settings_of more resolved) b.facts a.facts b.accepted.known (accepted-more a.facts a.accepted).known in
      let of : Facts → List TypeInfo = λ facts. facts.infos in
      (b.infos_are ∙ ap of same ∙ sym a.infos_are, b.lists_are ∙ ap lists_of same ∙ sym a.lists_are)
