use Rattle.std.proofs.Common.{rules, ◌≡◌, ◌∙◌, [], ◌∷◌, ◌++◌, List, Some, Ok, Err, inr, length, slice_get, refl, ap, sym, subst}
use Rattle.std.proofs.lemmas.List.Elements.{All-weaker}
use Rattle.std.proofs.lemmas.Option.{slice_get_within}
use Rattle.naga_arena.proofs.InOrder.{none_follow, one_more_follows}
use Rattle.naga_arena.specs.InOrder.{given_at}
use Rattle.naga_arena.specs.Span.{inner_of}
use Rattle.naga_info.specs.ModuleInfo.{ModuleInfoLists}
use Rattle.naga_info.specs.declared.const_expression_error.ConstExpressionError.TheVariants.{Type_ as Unresolved}
use Rattle.naga_ir.specs.ItemReferences.{global_lists}
use Rattle.naga_typing.proofs.ExpressionTypes.{all_resolved, can_resolve_next, index, none_resolved, one_resolved, there}
use Rattle.naga_typing.specs.PlainLaws.{types_exist}
use Rattle.naga_typing.specs.Resolutions.{ResolutionExists, TypesExist}
use Rattle.naga_typing.specs.Typings.{CanResolve, resolve_in_order}
use Rattle.naga_typing.specs.declared.typifier.TypeResolution.{TypeResolution}
use Rattle.naga_valid.specs.declared.error.ValidationError.{ValidationError}
use Rattle.naga_valid.specs.declared.error.ValidationError.TheVariants.{ConstExpression}
use Rattle.naga_valid.proofs.driver.resolve_expressions.Goals as goal

-- what is known, with other types of global expressions
abbrev with : ModuleInfoLists → List TypeResolution → ModuleInfoLists
with l types = record l { const_expression_types = types }

pub loop-handle-init : goal.loop-handle-init
loop-handle-init g c =
    let m = c.args.module.now in
    record {
      resolved = none_resolved m _ _ c.requires.none (c.into_iter-handle-iterator.ensures.into_iter_gives ∙ c.iter-handle-items.ensures);
      follow = none_follow (resolve_in_order (g.T.Typing.resolves c.args.typing.now) m) m.global_expressions _ c.requires.none;
      others = refl;
    }

pub resolve-requires : goal.resolve-requires
resolve-requires g c =
    let m = c.args.module.now in
    let x = c.in-Some.expression.now in
    subst (λ (earlier : List TypeResolution). CanResolve m x earlier) (sym c.const_expression_types.ensures)
    (can_resolve_next m c.requires.handles _ _ _ x _ c.loop-handle.invariant.resolved c.in-Some.ensures.steps)

pub loop-handle-preserved : goal.loop-handle-preserved
loop-handle-preserved g c =
    let m = c.args.module.now in
    let x = c.in-Some.expression.now in
    let earlier = c.loop-handle.mod_info.lists.const_expression_types in
    let resolves = g.T.Typing.resolves c.args.typing.now in
    let pushed = c.in_ok-push_expression-in-Ok.ensures.pushed in
    let types = ap (λ (l : ModuleInfoLists). l.const_expression_types) pushed in
    let found : resolves m x earlier ≡ Ok c.in-Ok.ty = ap (λ (e : List TypeResolution). resolves m x e) (sym c.const_expression_types.ensures) ∙ c.in-Ok.ensures in
    let w = c.loop-handle.invariant.resolved in
    let stands : slice_get m.global_expressions (length earlier) ≡ Some x =
    ap (slice_get m.global_expressions) (sym (index m c.requires.handles _ _ _ x _ w c.in-Some.ensures.steps)) ∙ there m c.requires.handles _ _ _ x _ w c.in-Some.ensures.steps in
    let given : given_at (resolve_in_order resolves m) m.global_expressions earlier (length earlier) ≡ Some (Ok c.in-Ok.ty) = rw (stands) (ap Some found) in
    record {
      resolved = one_resolved m c.requires.handles _ _ _ x _ w c.in-Some.ensures.steps resolves (g.met.T.Typing.lawful c.args.typing.now) _ _ found types;
      follow = one_more_follows (resolve_in_order resolves m) m.global_expressions earlier _ c.in-Ok.ty c.loop-handle.invariant.follow given types;
      others = pushed ∙ ap (λ (l : ModuleInfoLists). with l (earlier ++ c.in-Ok.ty ∷ [])) c.loop-handle.invariant.others ∙ ap (with c.args.mod_info.now.lists) (sym types);
    }

pub get_span-span-requires : goal.get_span-span-requires
get_span-span-requires g c = slice_get_within _ _ _ (there c.args.module.now c.requires.handles _ _ _ _ _ c.loop-handle.invariant.resolved c.in-Some.ensures.steps)

pub returns-in-Err : goal.returns-in-Err
returns-in-Err g c =
    let m = c.args.module.now in
    let x = c.in-Some.expression.now in
    let earlier = c.loop-handle.mod_info.lists.const_expression_types in
    let resolves = g.T.Typing.resolves c.args.typing.now in
    let w = c.loop-handle.invariant.resolved in
    let place = index m c.requires.handles _ _ _ x _ w c.in-Some.ensures.steps in
    let stands = there m c.requires.handles _ _ _ x _ w c.in-Some.ensures.steps in
    let error : ValidationError = ConstExpression c.in-Some.handle (Unresolved c.in-Err.error) in
    let is : inner_of c.with_span.result ≡ error = c.with_span.ensures.inner ∙ c.new-in-Err.ensures.inner ∙ ap (ConstExpression c.in-Some.handle) c.from-source.ensures in
    let meant : resolves m x earlier ≡ Err c.in-Err.error = ap (λ (e : List TypeResolution). resolves m x e) (sym c.const_expression_types.ensures) ∙ search rules in
    record {
      result = inr (record {
        handle = c.in-Some.handle;
        error = c.in-Err.error;
        first = record { before = earlier; as_many = sym place; follow = c.loop-handle.invariant.follow; refused = rw (stands) (ap Some meant) };
        reported_as = is;
      });
      exist = tt;
      others = c.loop-handle.invariant.others;
    }

pub returns-clause-result : goal.returns-clause-result
returns-clause-result g c = record { as_many = all_resolved c.args.module.now _ _ c.loop-handle.invariant.resolved c.in-None.ensures.steps.0; follow = c.loop-handle.invariant.follow }

pub returns-clause-exist : goal.returns-clause-exist
returns-clause-exist g c =
    let lists = global_lists c.args.module.now in
    All-weaker (ResolutionExists lists) (TypesExist lists.types) (types_exist lists) _ c.loop-handle.invariant.resolved.exist
