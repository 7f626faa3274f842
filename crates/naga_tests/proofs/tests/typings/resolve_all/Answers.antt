use Rattle.std.proofs.Common.{◌≡◌, ◌∙◌, List, Ok, ap, sym, subst}
use Rattle.naga_typing.specs.Typings.{CanResolve}
use Rattle.naga_typing.specs.declared.typifier.TypeResolution.{TypeResolution}
use Rattle.naga_typing.proofs.ExpressionTypes.{can_resolve_next, none_resolved, one_resolved}
use Rattle.naga_tests.proofs.tests.typings.resolve_all.Goals as goal

pub loop-expression-init : goal.loop-expression-init
loop-expression-init g c = none_resolved c.args.module.now _ _ c.new-resolutions.ensures (c.into_iter-expression-iterator.ensures.into_iter_gives ∙ c.iter-expression-items.ensures)

pub resolve-requires : goal.resolve-requires
resolve-requires g c =
    let m = c.args.module.now in
    let x = c.in-Some.expression.now in
    subst (λ (earlier : List TypeResolution). CanResolve m x earlier) (sym c.as_slice.ensures)
    (can_resolve_next m c.requires _ _ _ x _ c.loop-expression.invariant c.in-Some.ensures.steps)

pub loop-expression-preserved : goal.loop-expression-preserved
loop-expression-preserved g c =
    let m = c.args.module.now in
    let x = c.in-Some.expression.now in
    let resolves = g.T.Typing.resolves c.args.typing.now in
    let found : resolves m x c.loop-expression.resolutions ≡ Ok c.in_ok-resolution.resolution =
    ap (λ (earlier : List TypeResolution). resolves m x earlier) (sym c.as_slice.ensures) ∙ c.in_ok-resolution.ensures in
    one_resolved m c.requires _ _ _ x _ c.loop-expression.invariant c.in-Some.ensures.steps resolves (g.met.T.Typing.lawful c.args.typing.now) _ _ found c.in_ok-push.ensures.pushed
