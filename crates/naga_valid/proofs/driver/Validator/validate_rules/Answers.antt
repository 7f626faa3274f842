use Rattle.std.proofs.Common.{rules, ◌≡◌, ◌≤◌, ◌<◌, ◌∙◌, ℕ, inl, inr, length, ap, arith, subst, sym}
use Rattle.bitflags.specs.Sets.{known_from}
use Rattle.naga_flags.specs.declared.flags.ShaderStages.{ShaderStages}
use Rattle.naga_info.specs.declared.expression_error.ExpressionError.TheVariants as refusal
use Rattle.naga_valid.proofs.FunctionRules.{all_asked, allowed_at, at_place, ready_next, enough_asked, next_there, none_asked, one_allowed, one_breach, refused_at}
use Rattle.naga_exprs.specs.ExpressionRule.{IsExpressionResult, IsRule}
use Rattle.naga_exprs.specs.Math.{math_typing}
use Rattle.naga_info.proofs.KeptSources.{none_kept}
use Rattle.naga_info.specs.Integers.{scope_in}
use Rattle.naga_info.specs.declared.sources.Sources.{Sources}
use Rattle.naga_info.specs.Stages.{every_stage}
use Rattle.naga_info.specs.Surroundings.{IsReady, surroundings}
use Rattle.naga_valid.proofs.Meanings.{allows, refuses}
use Rattle.naga_valid.specs.Functions.{expression_surroundings, function_surroundings}
use Rattle.naga_valid.proofs.driver.Validator.validate_rules.Goals as goal
use Rattle.naga_valid.proofs.driver.Validator.validate_rules.Goals.{in-None, in-Some+then-index-len}

abbrev stages : ℕ → ShaderStages
stages n = record { 0 = n }

pub loop-handle-init : goal.loop-handle-init
unfolding known_from
loop-handle-init g c =
    let state = c.args.self.now in
    let s = function_surroundings (g.T.Typing.resolves state.typing) (record { accepts = g.T.Typing.accepts_types state.typing; least_arguments = g.T.Typing.least_arguments state.typing }) state c.args.overrides_resolved c.args.module.now c.args.function.now c.args.mod_info.now.lists in
    record {
      asked = none_asked s c.args.info.now.types c.all-stages.result _ (ap stages (c.all-stages.ensures tt)) (c.into_iter-handle-iterator.ensures.into_iter_gives ∙ c.iter-handle-items.ensures);
      found = inl c.new-kinds.ensures;
      right = none_kept (scope_in c.args.module.now c.args.function.now) c.new-searched.result.sources (ap (λ (k : Sources). k.in_function) c.new-searched.ensures) (ap (λ (k : Sources). k.in_module) c.new-searched.ensures);
    }

pub find-requires-clause-there : goal.find-requires-clause-there
find-requires-clause-there g c =
    let state = c.args.self.now in
    let s = function_surroundings (g.T.Typing.resolves state.typing) (record { accepts = g.T.Typing.accepts_types state.typing; least_arguments = g.T.Typing.least_arguments state.typing }) state c.args.overrides_resolved c.args.module.now c.args.function.now c.args.mod_info.now.lists in
    (c.in-Some.handle, next_there s c.args.info.now.types _ _ _ _ _ c.loop-handle.invariant.asked c.in-Some.ensures.steps)

pub find-requires-clause-handles : goal.find-requires-clause-handles
find-requires-clause-handles g c = c.requires.handles

pub find-requires-clause-in_function : goal.find-requires-clause-in_function
find-requires-clause-in_function g c = c.requires.in_function

pub validate_expression-requires-clause-ready : goal.validate_expression-requires-clause-ready
validate_expression-requires-clause-ready g c =
    let state = c.args.self.now in
    let s = function_surroundings (g.T.Typing.resolves state.typing) (record { accepts = g.T.Typing.accepts_types state.typing; least_arguments = g.T.Typing.least_arguments state.typing }) state c.args.overrides_resolved c.args.module.now c.args.function.now c.args.mod_info.now.lists in
    let types = c.args.info.now.types in
    let typed : c.in-Some.handle ≤ length types = omega (arith, c.if-index-len.false, c.index.ensures.value, c.len.ensures) in
    let ready =
    ready_next s types c.find_kinds.new.kinds c.in-Some.handle c.in-Some.expression.now c.requires c.in_ok-find_kinds.ensures.suffice
    (next_there s types _ _ _ _ _ c.loop-handle.invariant.asked c.in-Some.ensures.steps) typed in
    (c.in-Some.handle, subst (λ s. IsReady s c.in-Some.handle c.in-Some.expression.now) (sym c.context-context.ensures.surroundings) ready)

pub admits_expression-requires-clause-ready : goal.admits_expression-requires-clause-ready
admits_expression-requires-clause-ready g c =
    let state = c.args.self.now in
    let s = function_surroundings (g.T.Typing.resolves state.typing) (record { accepts = g.T.Typing.accepts_types state.typing; least_arguments = g.T.Typing.least_arguments state.typing }) state c.args.overrides_resolved c.args.module.now c.args.function.now c.args.mod_info.now.lists in
    let types = c.args.info.now.types in
    let typed : c.in-Some.handle ≤ length types = omega (arith, c.if-index-len.false, c.index.ensures.value, c.len.ensures) in
    let ready =
    ready_next s types c.find_kinds.new.kinds c.in-Some.handle c.in-Some.expression.now c.requires c.in_ok-find_kinds.ensures.suffice
    (next_there s types _ _ _ _ _ c.loop-handle.invariant.asked c.in-Some.ensures.steps) typed in
    (c.in-Some.handle, subst (λ s. IsReady s c.in-Some.handle c.in-Some.expression.now) (sym c.context-context.ensures.surroundings) ready)

pub loop-handle-preserved-then-admits_expression : goal.loop-handle-preserved-then-admits_expression
loop-handle-preserved-then-admits_expression g c =
    let state = c.args.self.now in
    let s = function_surroundings (g.T.Typing.resolves state.typing) (record { accepts = g.T.Typing.accepts_types state.typing; least_arguments = g.T.Typing.least_arguments state.typing }) state c.args.overrides_resolved c.args.module.now c.args.function.now c.args.mod_info.now.lists in
    let types = c.args.info.now.types in
    let x = c.in-Some.expression.now in
    let every = c.every_stage.result in
    let at = next_there s types _ _ _ x _ c.loop-handle.invariant.asked c.in-Some.ensures.steps in
    let kept = (c.admits_expression.ensures.0 c.if-admits_expression.true).1 in
    let by_typing = subst (λ state. IsRule (math_typing (g.T.Typing.accepts_types state.typing) (g.T.Typing.least_arguments state.typing)) (surroundings c.context-context.result) x (allows every_stage)) c.self.view_is kept in
    let rule = subst (λ around. IsRule s.math around x (allows every_stage)) c.context-context.ensures.surroundings by_typing in
    record {
      asked =
          one_allowed s types c.loop-handle.stages _ c.in-Some.handle x _ c.loop-handle.invariant.asked c.in-Some.ensures.steps every c.intersection-stages.result
          (at_place s types c.find_kinds.new.kinds c.in-Some.handle x c.in_ok-find_kinds.ensures.suffice at (allows every) (subst (λ st. IsRule s.math (expression_surroundings s types c.find_kinds.new.kinds) x (allows st)) (sym c.every_stage.ensures) rule))
          (c.intersection-stages.ensures tt);
      found = c.in_ok-find_kinds.ensures.found;
      right = c.in_ok-find.ensures.right;
    }

pub loop-handle-preserved : goal.loop-handle-preserved
loop-handle-preserved g c =
    let state = c.args.self.now in
    let s = function_surroundings (g.T.Typing.resolves state.typing) (record { accepts = g.T.Typing.accepts_types state.typing; least_arguments = g.T.Typing.least_arguments state.typing }) state c.args.overrides_resolved c.args.module.now c.args.function.now c.args.mod_info.now.lists in
    let types = c.args.info.now.types in
    let x = c.in-Some.expression.now in
    let at = next_there s types _ _ _ x _ c.loop-handle.invariant.asked c.in-Some.ensures.steps in
    let by_typing = subst (λ state. IsExpressionResult (math_typing (g.T.Typing.accepts_types state.typing) (g.T.Typing.least_arguments state.typing)) (surroundings c.context-context.result) x (allows c.in-Ok.allowed)) c.self.view_is c.in-Ok.ensures in
    let told = subst (λ around. IsExpressionResult s.math around x (allows c.in-Ok.allowed)) c.context-context.ensures.surroundings by_typing in
    record {
      asked =
          one_allowed s types c.loop-handle.stages _ c.in-Some.handle x _ c.loop-handle.invariant.asked c.in-Some.ensures.steps c.in-Ok.allowed c.intersection-stages-in-Ok.result
          (allowed_at s types c.find_kinds.new.kinds c.in-Some.handle x c.in_ok-find_kinds.ensures.suffice at c.in-Ok.allowed told)
          (c.intersection-stages-in-Ok.ensures tt);
      found = c.in_ok-find_kinds.ensures.found;
      right = c.in_ok-find.ensures.right;
    }

pub returns-in-Err : goal.returns-in-Err
returns-in-Err g c =
    let state = c.args.self.now in
    let s = function_surroundings (g.T.Typing.resolves state.typing) (record { accepts = g.T.Typing.accepts_types state.typing; least_arguments = g.T.Typing.least_arguments state.typing }) state c.args.overrides_resolved c.args.module.now c.args.function.now c.args.mod_info.now.lists in
    let types = c.args.info.now.types in
    let x = c.in-Some.expression.now in
    let at = next_there s types _ _ _ x _ c.loop-handle.invariant.asked c.in-Some.ensures.steps in
    let by_typing = subst (λ state. IsExpressionResult (math_typing (g.T.Typing.accepts_types state.typing) (g.T.Typing.least_arguments state.typing)) (surroundings c.context-context.result) x (refuses c.in-Err.source)) c.self.view_is c.in-Err.ensures in
    let told = subst (λ around. IsExpressionResult s.math around x (refuses c.in-Err.source)) c.context-context.ensures.surroundings by_typing in
    let typed : c.in-Some.handle ≤ length types = omega (arith, c.if-index-len.false, c.index.ensures.value, c.len.ensures) in
    let other : c.in-Err.source ≡ refusal.OutOfMemory → ⊥ = search rules in
    inr (one_breach s types c.loop-handle.stages _ c.in-Some.handle x _ c.loop-handle.invariant.asked c.in-Some.ensures.steps c.in-Err.source typed
    (refused_at s types c.find_kinds.new.kinds c.in-Some.handle x c.in_ok-find_kinds.ensures.suffice at c.in-Err.source other told))

pub returns : goal.returns
returns g c =
    let state = c.args.self.now in
    let s = function_surroundings (g.T.Typing.resolves state.typing) (record { accepts = g.T.Typing.accepts_types state.typing; least_arguments = g.T.Typing.least_arguments state.typing }) state c.args.overrides_resolved c.args.module.now c.args.function.now c.args.mod_info.now.lists in
    let types = c.args.info.now.types in
    elim c.match-next.branch [
      | in-None w ↦ all_asked s types c.loop-handle.stages _ c.loop-handle.invariant.asked w.in-None.ensures.steps.0
      | in-Some+then-index-len w ↦
          let beyond : length types < w.in-Some.handle = omega (arith, w.if-index-len.true, w.index.ensures.value, w.len.ensures) in
          enough_asked s types c.loop-handle.stages _ w.in-Some.handle w.in-Some.expression.now _ c.loop-handle.invariant.asked w.in-Some.ensures.steps beyond
    ]
