use Rattle.std.proofs.Common.{rules, ◌≡◌, ⊎_elim, inl, inr, sym, subst}
use Rattle.std.proofs.lemmas.Result.{err_from_is_err_and}
use Rattle.naga_info.specs.FunctionTypes.{AreFunctionTypes, AreTypesBefore, IsUntyped}
use Rattle.naga_info.specs.declared.expression_error.ExpressionError.{ExpressionError}
use Rattle.naga_typing.specs.declared.typifier.ResolveError.TheVariants as unresolved
use Rattle.naga_valid.proofs.FunctionRules.{all_accepted, breach_as_refuses, first_untyped, untyped_refuses}
use Rattle.naga_valid.specs.Functions.{RefusesFunction, function_surroundings}
use Rattle.naga_valid.specs.declared.function.FunctionError.TheVariants.{Expression}
use Rattle.naga_valid.proofs.driver.Validator.validate_function_expressions.Goals as goal

pub returns-in_err-info-in-Ok : goal.returns-in_err-info-in-Ok
returns-in_err-info-in-Ok g c =
    let state = c.args.self.now in
    let m = c.args.module.now in
    let f = c.args.function.now in
    let s = function_surroundings (g.T.Typing.resolves state.typing) (record { accepts = g.T.Typing.accepts_types state.typing; least_arguments = g.T.Typing.least_arguments state.typing }) state c.args.overrides_resolved m f c.args.mod_info.now.lists in
    let types = c.in-Ok.info.types in
    let all = subst (λ st. AreFunctionTypes (g.T.Typing.resolves st.typing) m f types) c.self.view_is c.in-Ok.ensures.result in
    let p = err_from_is_err_and c.from_residual.result c.from_residual.ensures.1 in
    rw (p.1, p.2) (⊎_elim (λ o. inl o) (λ first. inr (breach_as_refuses s types c.in_err-info-in-Ok.field-0.0 (inl all) first)) c.in_err-info-in-Ok.ensures)

pub returns-in_err-validate_rules-in-Err : goal.returns-in_err-validate_rules-in-Err
returns-in_err-validate_rules-in-Err g c =
    let state = c.args.self.now in
    let m = c.args.module.now in
    let f = c.args.function.now in
    let s = function_surroundings (g.T.Typing.resolves state.typing) (record { accepts = g.T.Typing.accepts_types state.typing; least_arguments = g.T.Typing.least_arguments state.typing }) state c.args.overrides_resolved m f c.args.mod_info.now.lists in
    let types = c.in-Err.field-0.info.types in
    let other : c.in-Err.field-0.error ≡ unresolved.OutOfMemory → ⊥ = search rules in
    let before = subst (λ st. AreTypesBefore (g.T.Typing.resolves st.typing) m f c.in-Err.field-0.handle types) c.self.view_is c.in-Err.ensures.before in
    let lacking = ⊎_elim (λ o. absurd (other o)) (λ (u : IsUntyped (g.T.Typing.resolves c.self.inside.typing) m f c.in-Err.field-0.handle types c.in-Err.field-0.error). u) c.in-Err.ensures.result in
    let untyped = first_untyped s types c.in-Err.field-0.handle c.in-Err.field-0.error before (subst (λ st. IsUntyped (g.T.Typing.resolves st.typing) m f c.in-Err.field-0.handle types c.in-Err.field-0.error) c.self.view_is lacking) in
    let p = err_from_is_err_and c.from_residual-in_err-validate_rules-in-Err.result c.from_residual-in_err-validate_rules-in-Err.ensures.1 in
    rw (p.1, p.2) (⊎_elim (λ o. inl o) (λ first. inr (breach_as_refuses s types c.in_err-validate_rules-in-Err.field-0.0 (inr (c.in-Err.field-0.error, untyped)) first)) c.in_err-validate_rules-in-Err.ensures)

pub returns-in_ok-info-in-Ok : goal.returns-in_ok-info-in-Ok
returns-in_ok-info-in-Ok g c =
    let state = c.args.self.now in
    let m = c.args.module.now in
    let f = c.args.function.now in
    let s = function_surroundings (g.T.Typing.resolves state.typing) (record { accepts = g.T.Typing.accepts_types state.typing; least_arguments = g.T.Typing.least_arguments state.typing }) state c.args.overrides_resolved m f c.args.mod_info.now.lists in
    let types = c.in-Ok.info.types in
    let all = subst (λ st. AreFunctionTypes (g.T.Typing.resolves st.typing) m f types) c.self.view_is c.in-Ok.ensures.result in
    all_accepted s (record { available_stages = c.in_ok-info-in-Ok.field-0; types = types }) all c.in_ok-info-in-Ok.ensures

pub returns-in_ok-validate_rules-in-Err : goal.returns-in_ok-validate_rules-in-Err
returns-in_ok-validate_rules-in-Err g c =
    let state = c.args.self.now in
    let m = c.args.module.now in
    let f = c.args.function.now in
    let s = function_surroundings (g.T.Typing.resolves state.typing) (record { accepts = g.T.Typing.accepts_types state.typing; least_arguments = g.T.Typing.least_arguments state.typing }) state c.args.overrides_resolved m f c.args.mod_info.now.lists in
    let types = c.in-Err.field-0.info.types in
    let other : c.in-Err.field-0.error ≡ unresolved.OutOfMemory → ⊥ = search rules in
    let before = subst (λ st. AreTypesBefore (g.T.Typing.resolves st.typing) m f c.in-Err.field-0.handle types) c.self.view_is c.in-Err.ensures.before in
    let lacking = ⊎_elim (λ o. absurd (other o)) (λ (u : IsUntyped (g.T.Typing.resolves c.self.inside.typing) m f c.in-Err.field-0.handle types c.in-Err.field-0.error). u) c.in-Err.ensures.result in
    let untyped = first_untyped s types c.in-Err.field-0.handle c.in-Err.field-0.error before (subst (λ st. IsUntyped (g.T.Typing.resolves st.typing) m f c.in-Err.field-0.handle types c.in-Err.field-0.error) c.self.view_is lacking) in
    inr (subst (λ (e : ExpressionError). RefusesFunction s (Expression c.in-Err.field-0.handle e)) (sym c.from-source.ensures)
    (untyped_refuses s types c.in-Err.field-0.handle c.in-Err.field-0.error c.in_ok-validate_rules-in-Err.field-0 before.as_many untyped c.in_ok-validate_rules-in-Err.ensures))
