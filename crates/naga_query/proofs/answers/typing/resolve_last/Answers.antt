use Rattle.std.proofs.Common.{◌∙◌, ap, subst, sym}
use Rattle.naga_info.specs.declared.module_info.FunctionInfo.{FunctionInfo}
use Rattle.naga_query.proofs.answers.typing.resolve_last.Goals as goal
use Rattle.naga_typing.proofs.ExpressionTypes.{can_resolve_in_function, none_typed, one_typed}
use Rattle.naga_typing.specs.Typings.{CanResolve}

pub loop-place-init : goal.loop-place-init
loop-place-init c =
    none_typed c.args.«module».now c.args.function.now.expressions _ _ (ap (λ (i : FunctionInfo). i.types) c.new-types.ensures) (c.into_iter-place-iterator.ensures.into_iter_gives ∙ c.iter-place-items.ensures)

pub resolve_by_both-requires : goal.resolve_by_both-requires
resolve_by_both-requires c =
    let m = c.args.«module».now in
    let can = can_resolve_in_function m c.args.function.now c.requires.handles c.requires.in_function _ _ _ _ _ c.loop-place.invariant c.in-Some.ensures.steps in
    subst (CanResolve m c.in-Some.expression.now) (sym c.as_slice-earlier.ensures) can

pub type_of-requires : goal.type_of-requires
type_of-requires c =
    let m = c.args.«module».now in
    let can = can_resolve_in_function m c.args.function.now c.requires.handles c.requires.in_function _ _ _ _ _ c.loop-place.invariant c.in-Some.ensures.steps in
    record { can_resolve = subst (CanResolve m c.in-Some.expression.now) (sym c.as_slice-earlier.ensures) can }

pub loop-place-preserved : goal.loop-place-preserved
loop-place-preserved c =
    let known = c.in_ok-ty.ensures in
    one_typed c.args.«module».now c.args.function.now.expressions _ _ _ _ _ c.loop-place.invariant c.in-Some.ensures.steps c.in_ok-ty.ty _ known.exists known.proper
    (ap (λ (i : FunctionInfo). i.types) c.in_ok-push.ensures.pushed)
