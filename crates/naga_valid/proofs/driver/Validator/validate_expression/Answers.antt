-- The answers to the proof goals of `Validator::validate_expression`.
use Rattle.std.proofs.Common.{ap, subst}
use Rattle.naga_exprs.specs.ExpressionRule.{IsExpressionResult}
use Rattle.naga_exprs.specs.Math.{math_typing}
use Rattle.naga_info.proofs.KeptSources.{none_kept}
use Rattle.naga_info.specs.Integers.{scope_in}
use Rattle.naga_info.specs.declared.sources.Sources.{Sources}
use Rattle.naga_info.specs.Surroundings.{surroundings}
use Rattle.naga_valid.proofs.driver.Validator.validate_expression.Goals as goal

pub context-context-requires : goal.context-context-requires
context-context-requires g c =
    none_kept (scope_in c.args.module.now c.args.function.now) c.new-sources.result (ap (λ (k : Sources). k.in_function) c.new-sources.ensures) (ap (λ (k : Sources). k.in_module) c.new-sources.ensures)

pub returns : goal.returns
returns g c =
    let typed = subst (λ state. IsExpressionResult (math_typing (g.T.Typing.accepts_types state.typing) (g.T.Typing.least_arguments state.typing)) (surroundings c.context-context.result) c.args.expression.now c.validate_expression.result) c.self.view_is c.validate_expression.ensures in
    subst (λ s. IsExpressionResult (math_typing (g.T.Typing.accepts_types c.args.self.now.typing) (g.T.Typing.least_arguments c.args.self.now.typing)) s c.args.expression.now c.validate_expression.result) c.context-context.ensures.surroundings typed
