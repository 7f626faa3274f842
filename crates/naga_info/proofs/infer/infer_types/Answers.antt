use Rattle.std.proofs.Common.{◌≡◌, ◌<◌, ◌∙◌, ℕ, List, Some, Ok, Err, inl, inr, ⊎_elim, length, slice_get, ap, sym, subst}
use Rattle.std.proofs.lemmas.Option.{slice_get_within}
use Rattle.bitflags.specs.Sets.{known_from}
use Rattle.naga_arena.proofs.InOrder.{none_follow, one_more_follows}
use Rattle.naga_arena.specs.InOrder.{FollowInOrder, given_at}
use Rattle.naga_flags.specs.declared.flags.ShaderStages.{ShaderStages}
use Rattle.naga_info.proofs.FunctionTypes.{function_type_lawful, local_variable_exists}
use Rattle.naga_info.proofs.infer.infer_types.Goals as goal
use Rattle.naga_info.specs.FunctionTypes.{type_in_order}
use Rattle.naga_info.specs.declared.module_info.FunctionInfo.{FunctionInfo}
use Rattle.naga_typing.proofs.ExpressionTypes.{all_typed, can_resolve_in_function, next_place, next_there, none_typed, one_typed}
use Rattle.naga_typing.specs.declared.typifier.TypeResolution.{TypeResolution}

abbrev stages : ℕ → ShaderStages
stages n = record { 0 = n }

abbrev types_of : FunctionInfo → List TypeResolution
types_of i = i.types

abbrev stages_of : FunctionInfo → ShaderStages
stages_of i = i.available_stages

pub loop-handle-init : goal.loop-handle-init
unfolding known_from
loop-handle-init g c =
    let m = c.args.module.now in
    let f = c.args.function.now in
    let none = ap types_of c.new-info.ensures in
    record {
      typed = none_typed m f.expressions _ _ none (c.into_iter-handle-iterator.ensures.into_iter_gives ∙ c.iter-handle-items.ensures);
      follow = none_follow (type_in_order (g.T.Typing.resolves c.args.typing.now) m f) f.expressions _ none;
      stages = ap stages_of c.new-info.ensures ∙ ap stages (c.all.ensures tt);
    }

pub push_type_of-requires-clause-can_resolve : goal.push_type_of-requires-clause-can_resolve
push_type_of-requires-clause-can_resolve g c =
    can_resolve_in_function c.args.module.now c.args.function.now c.requires.handles c.requires.in_function.in_expressions _ _ _ _ _ c.loop-handle.invariant.typed c.in-Some.ensures.steps

pub push_type_of-requires-clause-variable_exists : goal.push_type_of-requires-clause-variable_exists
push_type_of-requires-clause-variable_exists g c =
    let m = c.args.module.now in
    let f = c.args.function.now in
    local_variable_exists m f c.requires.in_function.in_expressions _ _ (next_there m f.expressions _ _ _ _ _ c.loop-handle.invariant.typed c.in-Some.ensures.steps)

pub loop-handle-preserved : goal.loop-handle-preserved
loop-handle-preserved g c =
    let m = c.args.module.now in
    let f = c.args.function.now in
    let x = c.in-Some.expression.now in
    let earlier = c.loop-handle.info.types in
    let resolves = g.T.Typing.resolves c.args.typing.now in
    let rule = type_in_order resolves m f in
    let typed = c.loop-handle.invariant.typed in
    let h = c.in_default.ensures.result in
    let types = ap types_of h.2 in
    let at : slice_get f.expressions (length earlier) ≡ Some x = next_there m f.expressions _ _ _ x _ typed c.in-Some.ensures.steps in
    let can = can_resolve_in_function m f c.requires.handles c.requires.in_function.in_expressions _ _ _ x _ typed c.in-Some.ensures.steps in
    let good = function_type_lawful m f c.requires.in_function resolves (g.met.T.Typing.lawful c.args.typing.now) x earlier h.0 can h.1 in
    let given : given_at rule f.expressions earlier (length earlier) ≡ Some (Ok h.0) = rw (at) (ap Some h.1) in
    record {
      typed = one_typed m f.expressions _ _ _ x _ typed c.in-Some.ensures.steps h.0 _ good.0 good.1 types;
      follow = one_more_follows rule f.expressions earlier _ h.0 c.loop-handle.invariant.follow given types;
      stages = ap stages_of h.2 ∙ c.loop-handle.invariant.stages;
    }

pub returns-in-Err-clause-result : goal.returns-in-Err-clause-result
returns-in-Err-clause-result g c =
    let m = c.args.module.now in
    let f = c.args.function.now in
    let x = c.in-Some.expression.now in
    let earlier = c.loop-handle.info.types in
    let rule = type_in_order (g.T.Typing.resolves c.args.typing.now) m f in
    let typed = c.loop-handle.invariant.typed in
    let at : slice_get f.expressions (length earlier) ≡ Some x = next_there m f.expressions _ _ _ x _ typed c.in-Some.ensures.steps in
    let place = next_place m f.expressions _ _ _ x _ typed c.in-Some.ensures.steps in
    let same = ap types_of c.in-Err.ensures.refused in
    ⊎_elim (λ h. inl h)
    (λ h. let given : given_at rule f.expressions earlier (length earlier) ≡ Some (Err c.in-Err.error) = rw (at) (ap Some h) in
    inr (ap (λ l. given_at rule f.expressions l c.in-Some.handle) same ∙ ap (given_at rule f.expressions earlier) place ∙ given))
    c.in-Err.ensures.result

pub returns-in-Err-clause-before : goal.returns-in-Err-clause-before
returns-in-Err-clause-before g c =
    let m = c.args.module.now in
    let f = c.args.function.now in
    let typed = c.loop-handle.invariant.typed in
    let at = next_there m f.expressions _ _ _ _ _ typed c.in-Some.ensures.steps in
    let place = next_place m f.expressions _ _ _ _ _ typed c.in-Some.ensures.steps in
    let same = ap types_of c.in-Err.ensures.refused in
    record {
      within = subst (λ k. k < length f.expressions) (sym place) (slice_get_within _ _ _ at);
      as_many = ap length same ∙ sym place;
      follow = subst (λ l. FollowInOrder (type_in_order (g.T.Typing.resolves c.args.typing.now) m f) f.expressions l) (sym same) c.loop-handle.invariant.follow;
    }

pub returns-clause-result : goal.returns-clause-result
returns-clause-result g c = record {
  as_many = all_typed c.args.module.now c.args.function.now.expressions _ _ c.loop-handle.invariant.typed c.in-None.ensures.steps.0;
  follow = c.loop-handle.invariant.follow;
}
