use Rattle.std.proofs.Common.{◌≡◌, ◌<◌, ◌⊎◌, All, Err, IsOk, Ok, Some, ap, slice_get, length, take, subst, sym, ◌∙◌, inl, inr, ⊎_elim}
use Rattle.std.proofs.lemmas.Option.{slice_get_within}
use Rattle.naga_arena.specs.Results.{IsFirstError}
use Rattle.naga_typing.specs.Context.{lists_of}
use Rattle.naga_typing.specs.Layout.{layout_of, layout_results, layout_rule}
use Rattle.naga_typing.specs.declared.layouter.LayoutError.{LayoutError}
use Rattle.naga_typing.specs.declared.layouter.LayoutErrorInner.TheVariants.{OutOfMemory}
use Rattle.naga_typing.proofs.LayoutPass.{accepts, all_laid_out, next_parts, rule_not_out_of_memory}
use Rattle.naga_typing.proofs.Existence.{references_exist}
use Rattle.naga_typing.proofs.Iteration.{before_accepted, first_refused, next_item, next_result, one_more_value, start}
use Rattle.naga_typing.proofs.layouter.Layouter.update.Goals as goal

pub loop-ty-init : goal.loop-ty-init
loop-ty-init c =
    let g = lists_of c.args.gctx in
    start (layout_of g) (accepts g) g.types _ _ c.clear.ensures (c.into_iter-ty-iterator.ensures.into_iter_gives ∙ c.iter-ty-items.ensures)

pub append-requires-clause-laid_out : goal.append-requires-clause-laid_out
append-requires-clause-laid_out c = next_parts (lists_of c.args.gctx) c.requires _ _ _ _ _ c.loop-ty.invariant c.in-Some.ensures.steps

pub append-requires-clause-exist : goal.append-requires-clause-exist
append-requires-clause-exist c =
    let g = lists_of c.args.gctx in
    references_exist g c.requires _ _ (next_item (accepts g) g.types _ _ _ _ _ c.loop-ty.invariant.iterating c.in-Some.ensures.steps)

pub returns-in-Err-clause-layouts : goal.returns-in-Err-clause-layouts
returns-in-Err-clause-layouts c =
    let g = lists_of c.args.gctx in
    let said = ⊎_elim
    (λ (e : (c.in-Err.inner ≡ OutOfMemory) × (layout_rule g c.in-Some.type_.now.inner ≡ Ok tt)). inl e.0)
    (λ (e : layout_rule g c.in-Some.type_.now.inner ≡ Err c.in-Err.inner).
    inr (first_refused (accepts g) g.types _ _ _ _ _ c.loop-ty.invariant.iterating c.in-Some.ensures.steps _ e))
    c.in-Err.ensures in
    subst (λ (e : LayoutError). (e.inner ≡ OutOfMemory) ⊎ IsFirstError (layout_results g) e.ty e.inner) (sym c.with.ensures) said

pub returns-in-Err-clause-place : goal.returns-in-Err-clause-place
returns-in-Err-clause-place c =
    let g = lists_of c.args.gctx in
    let at = next_item (accepts g) g.types _ _ _ _ _ c.loop-ty.invariant.iterating c.in-Some.ensures.steps in
    subst (λ (e : LayoutError). e.ty < length g.types) (sym c.with.ensures) (slice_get_within g.types c.in-Some.ty c.in-Some.type_.now at)

pub returns-in-Err-clause-memory : goal.returns-in-Err-clause-memory
returns-in-Err-clause-memory c =
    let g = lists_of c.args.gctx in
    let said : c.in-Err.inner ≡ OutOfMemory → layout_rule g c.in-Some.type_.now.inner ≡ Ok tt = λ memory. ⊎_elim
    (λ (e : (c.in-Err.inner ≡ OutOfMemory) × (layout_rule g c.in-Some.type_.now.inner ≡ Ok tt)). e.1)
    (λ (e : layout_rule g c.in-Some.type_.now.inner ≡ Err c.in-Err.inner). absurd (rule_not_out_of_memory g c.in-Some.type_.now.inner (e ∙ ap Err memory)))
    c.in-Err.ensures in
    subst (λ (e : LayoutError). e.inner ≡ OutOfMemory → slice_get (layout_results g) e.ty ≡ Some (Ok tt)) (sym c.with.ensures)
    (λ memory. next_result (accepts g) g.types _ _ _ _ _ c.loop-ty.invariant.iterating c.in-Some.ensures.steps (Ok tt) (said memory))

pub returns-in-Err-clause-before : goal.returns-in-Err-clause-before
returns-in-Err-clause-before c =
    let g = lists_of c.args.gctx in
    let before = before_accepted (accepts g) g.types _ _ _ _ _ c.loop-ty.invariant.iterating c.in-Some.ensures.steps in
    subst (λ (e : LayoutError). All IsOk (take e.ty (layout_results g))) (sym c.with.ensures) before

pub loop-ty-preserved : goal.loop-ty-preserved
loop-ty-preserved c =
    let g = lists_of c.args.gctx in
    one_more_value (layout_of g) (accepts g) g.types _ _ _ _ _ _ c.loop-ty.invariant c.in-Some.ensures.steps c.in_default.ensures.0 c.in_default.ensures.1

pub returns-clause-layouts : goal.returns-clause-layouts
returns-clause-layouts c = all_laid_out (lists_of c.args.gctx) _ _ c.loop-ty.invariant c.in-None.ensures.steps.0
