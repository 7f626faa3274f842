use Rattle.std.proofs.Common.{◌≡◌, ◌+◌, ◌<◌, ◌∙◌, ℕ, Bool, List, IfSome, Some, Err, Result, ap, sym, subst, arith, length, slice_get}
use Rattle.std.proofs.lemmas.Option.{slice_get_within}
use Rattle.naga_arena.specs.Results.{IsFirstError}
use Rattle.naga_arena.specs.Span.{inner_of}
use Rattle.naga_exprs.specs.ConstExpression.{const_expression_rule}
use Rattle.naga_info.specs.declared.const_expression_error.ConstExpressionError.{ConstExpressionError}
use Rattle.naga_ir.proofs.Handles.{global_references_ok}
use Rattle.naga_ir.specs.Handles.{GlobalReferencesOk}
use Rattle.naga_ir.specs.declared.expression.Expression.{Expression}
use Rattle.naga_ir.specs.declared.types.«Type».{«Type»}
use Rattle.naga_typing.specs.declared.expression_kind.ExpressionKind.{ExpressionKind}
use Rattle.naga_typing.specs.declared.typifier.TypeResolution.{TypeResolution}
use Rattle.naga_valid.proofs.ItemsInOrder.{accepted_unless, all_accepted, begin, first_refused, next_item, one_more}
use Rattle.naga_valid.specs.Values.{const_surroundings, expression_result, reported, results_of}
use Rattle.naga_valid.specs.declared.error.ValidationError.{ValidationError}
use Rattle.naga_valid.specs.declared.error.ValidationError.TheVariants.{ConstExpression}
use Rattle.naga_valid.proofs.values.validate_expressions.Goals as goal

pub loop-handle-init : goal.loop-handle-init
loop-handle-init g c = (
  0,
  begin (expression_result (const_surroundings c.args.ctx.capabilities c.args.ctx.overrides_resolved c.args.module.now c.args.mod_info.now.lists c.args.kinds.now)) c.args.module.now.global_expressions _
      (c.into_iter-handle-iterator.ensures.into_iter_gives ∙ c.iter-handle-items.ensures),
)

-- what a call says of lists of the module it says of the module
of-module : (capabilities : ℕ) (resolved : Bool) (types own_types : List «Type») (kinds : List ExpressionKind) (resolutions : List TypeResolution) (xs own_xs : List Expression) (n : ℕ) (x : Expression) (result : Result (Unit {0}) ConstExpressionError)
    → IfSome (slice_get xs n) (λ x. result ≡ const_expression_rule (record { capabilities = capabilities; resolved = resolved; types = types; kinds = kinds; resolutions = resolutions }) n x)
    → xs ≡ own_xs → types ≡ own_types → slice_get own_xs n ≡ Some x
    → result ≡ const_expression_rule (record { capabilities = capabilities; resolved = resolved; types = own_types; kinds = kinds; resolutions = resolutions }) n x
of-module capabilities resolved types own_types kinds resolutions xs own_xs n x result said same_xs same_types at =
    subst (λ (t : List «Type»). result ≡ const_expression_rule (record { capabilities = capabilities; resolved = resolved; types = t; kinds = kinds; resolutions = resolutions }) n x) same_types
    (subst (λ o. IfSome o (λ x. result ≡ const_expression_rule (record { capabilities = capabilities; resolved = resolved; types = types; kinds = kinds; resolutions = resolutions }) n x))
    (ap (λ (l : List Expression). slice_get l n) same_xs ∙ at) said)

pub validate_const_expression-requires-clause-exists : goal.validate_const_expression-requires-clause-exists
validate_const_expression-requires-clause-exists g c =
    let within = slice_get_within _ _ _ (next_item _ c.args.module.now.global_expressions _ _ _ _ _ c.loop-handle.invariant.1 c.in-Some.ensures.steps) in
    subst (λ (l : List Expression). c.in-Some.handle < length l) (sym c.to_ctx.ensures.global_expressions) within

pub validate_const_expression-requires-clause-references : goal.validate_const_expression-requires-clause-references
validate_const_expression-requires-clause-references g c = subst GlobalReferencesOk (sym c.to_ctx.ensures.lists) (global_references_ok c.args.module.now c.requires.filled.handles)

pub validate_const_expression-requires-clause-kinds : goal.validate_const_expression-requires-clause-kinds
validate_const_expression-requires-clause-kinds g c =
    let within : c.in-Some.handle < length c.args.module.now.global_expressions = slice_get_within _ _ _ (next_item _ c.args.module.now.global_expressions _ _ _ _ _ c.loop-handle.invariant.1 c.in-Some.ensures.steps) in
    omega (arith, within, c.requires.kinds_are)

pub validate_const_expression-requires-clause-typed : goal.validate_const_expression-requires-clause-typed
validate_const_expression-requires-clause-typed g c =
    let within : c.in-Some.handle < length c.args.module.now.global_expressions = slice_get_within _ _ _ (next_item _ c.args.module.now.global_expressions _ _ _ _ _ c.loop-handle.invariant.1 c.in-Some.ensures.steps) in
    omega (arith, within, c.requires.filled.types)

pub get_span-requires : goal.get_span-requires
get_span-requires g c = slice_get_within _ _ _ (next_item _ c.args.module.now.global_expressions _ _ _ _ _ c.loop-handle.invariant.1 c.in-Some.ensures.steps)

pub loop-handle-preserved : goal.loop-handle-preserved
loop-handle-preserved g c =
    let m = c.args.module.now in
    let s = const_surroundings c.args.ctx.capabilities c.args.ctx.overrides_resolved m c.args.mod_info.now.lists c.args.kinds.now in
    let at = next_item _ m.global_expressions _ _ _ _ _ c.loop-handle.invariant.1 c.in-Some.ensures.steps in
    let said = of-module _ _ _ _ _ _ _ _ c.in-Some.handle c.in-Some.field-0-1.now c.validate_const_expression.result c.validate_const_expression.ensures c.to_ctx.ensures.global_expressions c.to_ctx.ensures.types at in
    let accepted = accepted_unless c.validate_const_expression.result c.in_default.not-Err in
    (c.loop-handle.invariant.0 + 1, one_more (expression_result s) m.global_expressions _ _ _ _ _ c.loop-handle.invariant.1 c.in-Some.ensures.steps (ap (reported (ConstExpression c.in-Some.handle)) (sym said ∙ accepted)))

pub returns-in-Err : goal.returns-in-Err
returns-in-Err g c =
    let m = c.args.module.now in
    let s = const_surroundings c.args.ctx.capabilities c.args.ctx.overrides_resolved m c.args.mod_info.now.lists c.args.kinds.now in
    let at = next_item _ m.global_expressions _ _ _ _ _ c.loop-handle.invariant.1 c.in-Some.ensures.steps in
    let said = of-module _ _ _ _ _ _ _ _ c.in-Some.handle c.in-Some.field-0-1.now c.validate_const_expression.result c.validate_const_expression.ensures c.to_ctx.ensures.global_expressions c.to_ctx.ensures.types at in
    let error : ValidationError = ConstExpression c.in-Some.handle c.in-Err.source in
    let is : inner_of c.with_span.result ≡ error = c.with_span.ensures.inner ∙ c.new.ensures.inner in
    let refused : expression_result s (c.in-Some.handle, c.in-Some.field-0-1.now) ≡ Err error = ap (reported (ConstExpression c.in-Some.handle)) (sym said ∙ c.in-Err.is) in (
      c.in-Some.handle,
      subst (IsFirstError (results_of (expression_result s) m.global_expressions) c.in-Some.handle) (sym is)
          (first_refused (expression_result s) m.global_expressions _ _ _ _ _ c.loop-handle.invariant.1 c.in-Some.ensures.steps error refused),
    )

pub returns : goal.returns
returns g c =
    all_accepted (expression_result (const_surroundings c.args.ctx.capabilities c.args.ctx.overrides_resolved c.args.module.now c.args.mod_info.now.lists c.args.kinds.now)) c.args.module.now.global_expressions _ _ c.loop-handle.invariant.1 c.in-None.ensures.steps.0
