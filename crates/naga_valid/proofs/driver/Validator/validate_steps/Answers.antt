use Rattle.std.proofs.Common.{rules, ◌≡◌, ◌∙◌, ⊎_elim, List, Result, IsTrue, inl, inr, ap, subst}
use Rattle.std.proofs.lemmas.Result.{err_from_is_err_and}
use Rattle.naga_arena.specs.Span.{inner_of}
use Rattle.naga_info.specs.ModuleInfo.{ModuleInfoLists}
use Rattle.naga_valid.proofs.Refusals.{unresolved_refuses, value_refuses}
use Rattle.naga_valid.specs.Accepted.{Accepts, AreTypesAndExpressionsAccepted, Refuses, checks_values, lists_of}
use Rattle.naga_valid.specs.State.{Facts, Settings, settings_of}
use Rattle.naga_valid.specs.Values.{AreValueResults}
use Rattle.naga_valid.specs.declared.error.ValidationError.{ValidationError}
use Rattle.naga_valid.specs.declared.error.ValidationError.TheVariants.{OutOfMemory}
use Rattle.naga_valid.specs.steps.KnownValues.{IsFirstValueError, IsFirstUnresolved}
use Rattle.naga_valid.proofs.driver.Validator.validate_steps.Goals as goal
use Rattle.naga_valid.proofs.driver.Validator.validate_steps.Goals.{then-contains+in_ok-validate_values, else-contains}

pub returns-in_err-resolve_expressions-clause-result : goal.returns-in_err-resolve_expressions-clause-result
returns-in_err-resolve_expressions-clause-result g c =
    let m = c.args.module.now in
    let settings : Settings = record { flags = c.self.inside.flags; capabilities = c.self.inside.capabilities; resolved = c.args.overrides_resolved } in
    let resolves = g.T.Typing.resolves c.self.inside.typing in
    let e = inner_of c.in_err-resolve_expressions.field-0.0 in
    let infos = c.validate_types.new.infos.infos in
    let p = err_from_is_err_and c.from_residual-in_err-resolve_expressions.result c.from_residual-in_err-resolve_expressions.ensures.1 in
    rw (p.1, p.2) (⊎_elim
    (λ (o : e ≡ OutOfMemory). inl o)
    (λ (first : IsFirstUnresolved resolves m e).
    inr (subst (λ s. Refuses (g.T.Typing.resolves s.typing) m (settings_of s c.args.overrides_resolved) e) c.self.view_is (unresolved_refuses resolves m settings infos c.in_ok-mod_info.ensures.0 e first)))
    c.in_err-resolve_expressions.ensures.result)

pub returns-in_err-validate_values-clause-result : goal.returns-in_err-validate_values-clause-result
returns-in_err-validate_values-clause-result g c =
    let m = c.args.module.now in
    let settings : Settings = record { flags = c.self.inside.flags; capabilities = c.self.inside.capabilities; resolved = c.args.overrides_resolved } in
    let resolves = g.T.Typing.resolves c.self.inside.typing in
    let e = inner_of c.in_err-validate_values.field-0.0 in
    let lists = c.resolve_expressions.new.mod_info.lists in
    let facts : Facts = record { infos = c.validate_types.new.infos.infos; resolutions = lists.const_expression_types } in
    let noted : lists ≡ lists_of facts = c.in_ok-resolve_expressions.ensures.others ∙ ap (λ (l : ModuleInfoLists). record l { const_expression_types = lists.const_expression_types }) c.in_ok-mod_info.ensures.1 in
    let known : AreTypesAndExpressionsAccepted resolves m settings facts = record { types = c.in_ok-mod_info.ensures.0; resolutions = c.in_ok-resolve_expressions.ensures.result } in
    let checked : IsTrue (checks_values settings) = search rules in
    let p = err_from_is_err_and c.from_residual-in_err-validate_values.result c.from_residual-in_err-validate_values.ensures.1 in
    rw (p.1, p.2) (⊎_elim
    (λ (o : e ≡ OutOfMemory). inl o)
    (λ (h : (results : List (Result (Unit {0}) ValidationError)) × AreValueResults settings.capabilities settings.resolved m lists results × IsFirstValueError results e).
    let are = subst (λ (l : ModuleInfoLists). AreValueResults settings.capabilities settings.resolved m l h.0) noted h.1 in
    inr (subst (λ s. Refuses (g.T.Typing.resolves s.typing) m (settings_of s c.args.overrides_resolved) e) c.self.view_is (value_refuses resolves m settings facts h.0 e known checked are h.2)))
    c.in_err-validate_values.ensures)

pub returns-clause-result : goal.returns-clause-result
returns-clause-result g c =
    let m = c.args.module.now in
    let settings : Settings = record { flags = c.self.inside.flags; capabilities = c.self.inside.capabilities; resolved = c.args.overrides_resolved } in
    let resolves = g.T.Typing.resolves c.self.inside.typing in
    let lists = c.resolve_expressions.new.mod_info.lists in
    let infos = c.if-contains.self.infos in
    let facts : Facts = record { infos = c.validate_types.new.infos.infos; resolutions = lists.const_expression_types } in
    let noted : lists ≡ lists_of facts = c.in_ok-resolve_expressions.ensures.others ∙ ap (λ (l : ModuleInfoLists). record l { const_expression_types = lists.const_expression_types }) c.in_ok-mod_info.ensures.1 in
    let known : AreTypesAndExpressionsAccepted resolves m settings facts = record { types = c.in_ok-mod_info.ensures.0; resolutions = c.in_ok-resolve_expressions.ensures.result } in
    subst (λ s. Accepts (g.T.Typing.resolves s.typing) m (settings_of s c.args.overrides_resolved) infos lists) c.self.view_is (elim c.if-contains.branch [
      | then-contains+in_ok-validate_values w ↦
          let h = w.in_ok-validate_values.ensures in
          record {
            facts = facts;
            accepted = record {
              known = known;
              values = λ checked. record { results = h.0; are_results = subst (λ (l : ModuleInfoLists). AreValueResults settings.capabilities settings.resolved m l h.0) noted h.1; all_ok = h.2 };
            };
            infos_are = ap (λ s. s.infos) w.self-is;
            lists_are = noted;
          }
      | else-contains w ↦
          record {
            facts = facts;
            accepted = record { known = known; values = λ checked. absurd (search rules) };
            infos_are = ap (λ s. s.infos) w.self-is;
            lists_are = noted;
          }
    ])
