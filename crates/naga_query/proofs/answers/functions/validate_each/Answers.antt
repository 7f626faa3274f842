use Rattle.std.proofs.Common.{◌∙◌, ap, inl, subst, sym}
use Rattle.naga_info.specs.declared.module_info.FunctionInfo.{FunctionInfo}
use Rattle.naga_query.proofs.Validation.{known_before_next}
use Rattle.naga_query.proofs.answers.functions.validate_each.Goals as goal
use Rattle.naga_typing.proofs.ExpressionTypes.{can_resolve_in_function, none_typed, one_typed}
use Rattle.naga_typing.proofs.Iteration.{accepts_all, next_item}
use Rattle.naga_typing.specs.Typings.{CanResolve}

pub loop-place-init : goal.loop-place-init
loop-place-init c =
    let w = c.args.with in
    none_typed w.«module».now w.function.now.expressions _ _ (ap (λ (i : FunctionInfo). i.types) c.new-types.ensures) (c.into_iter-place-iterator.ensures.into_iter_gives ∙ c.iter-place-items.ensures)

pub validate_at-validated-requires-clause-before : goal.validate_at-validated-requires-clause-before
validate_at-validated-requires-clause-before c =
    let w = c.args.with in
    known_before_next w.«module».now w.function.now w.kinds.now c.requires.kinds _ _ _ _ _ c.loop-place.invariant c.in-Some.ensures.steps

pub validate_at-validated-requires-in-None-missing-clause-before : goal.validate_at-validated-requires-in-None-missing-clause-before
validate_at-validated-requires-in-None-missing-clause-before c =
    let w = c.args.with in
    known_before_next w.«module».now w.function.now w.kinds.now c.requires.kinds _ _ _ _ _ c.loop-place.invariant c.in-Some.ensures.steps

pub validate_at-validated-requires-in-None-missing-clause-there : goal.validate_at-validated-requires-in-None-missing-clause-there
validate_at-validated-requires-in-None-missing-clause-there c =
    inl (next_item accepts_all c.args.with.function.now.expressions _ _ _ _ _ c.loop-place.invariant.iterating c.in-Some.ensures.steps)

pub type_of-requires : goal.type_of-requires
type_of-requires c =
    let w = c.args.with in
    let can = can_resolve_in_function w.«module».now w.function.now c.requires.known.handles c.requires.known.function.references.in_expressions _ _ _ _ _ c.loop-place.invariant c.in-Some.ensures.steps in
    record { can_resolve = subst (CanResolve w.«module».now c.in-Some.expression.now) (sym c.as_slice-earlier.ensures) can }

pub loop-place-preserved : goal.loop-place-preserved
loop-place-preserved c =
    let w = c.args.with in
    let known = c.in_ok-ty.ensures in
    one_typed w.«module».now w.function.now.expressions _ _ _ _ _ c.loop-place.invariant c.in-Some.ensures.steps c.in_ok-ty.ty _ known.exists known.proper
    (ap (λ (i : FunctionInfo). i.types) c.in_ok-push-2.ensures.pushed)
