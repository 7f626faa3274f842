use Rattle.std.proofs.Common.{◌≡◌, ◌+◌, ◌∙◌, Err, Some, inr, ap, sym, subst, take, slice_get}
use Rattle.std.proofs.lemmas.Option.{slice_get_within}
use Rattle.naga_arena.specs.Results.{IsFirstError}
use Rattle.naga_arena.specs.Span.{inner_of}
use Rattle.naga_valid.proofs.Ids.{none_noted, one_checked}
use Rattle.naga_valid.proofs.ItemsInOrder.{accepted_unless, all_accepted, begin, first_refused, next_index, next_item, one_more}
use Rattle.naga_valid.proofs.ReferencedItems.{override-initialiser, override-type}
use Rattle.naga_valid.specs.Values.{is_taken, override_result, override_rule, reported, results_of, shown_name}
use Rattle.naga_valid.specs.declared.error.ValidationError.{ValidationError}
use Rattle.naga_valid.specs.declared.error.ValidationError.TheVariants.{Override}
use Rattle.naga_valid.proofs.values.validate_overrides.Goals as goal

pub loop-handle-init : goal.loop-handle-init
loop-handle-init c = record {
  count = 0;
  judging = begin (override_result c.args.overrides_resolved c.args.module.now c.args.mod_info.now.lists) c.args.module.now.overrides _ (c.into_iter-handle-iterator.ensures.into_iter_gives ∙ c.iter-handle-items.ensures);
  noted = none_noted c.args.module.now.overrides _ c.clear.ensures;
}

pub validate_override-requires-clause-ty : goal.validate_override-requires-clause-ty
validate_override-requires-clause-ty c = override-type c.args.module.now c.requires.handles _ _ (next_item _ c.args.module.now.overrides _ _ _ _ _ c.loop-handle.invariant.judging c.in-Some.ensures.steps)

pub validate_override-requires-clause-init : goal.validate_override-requires-clause-init
validate_override-requires-clause-init c = override-initialiser c.args.module.now c.requires.handles _ _ (next_item _ c.args.module.now.overrides _ _ _ _ _ c.loop-handle.invariant.judging c.in-Some.ensures.steps)

pub get_span-requires : goal.get_span-requires
get_span-requires c = slice_get_within _ _ _ (next_item _ c.args.module.now.overrides _ _ _ _ _ c.loop-handle.invariant.judging c.in-Some.ensures.steps)

pub loop-handle-preserved : goal.loop-handle-preserved
loop-handle-preserved c =
    let m = c.args.module.now in
    let rule = override_result c.args.overrides_resolved m c.args.mod_info.now.lists in
    let o = c.in-Some.over.now in
    let count = c.loop-handle.invariant.count in
    let judging = c.loop-handle.invariant.judging in
    let place : c.in-Some.handle ≡ count = next_index rule m.overrides _ _ _ _ _ judging c.in-Some.ensures.steps in
    let at : slice_get m.overrides count ≡ Some o = ap (slice_get m.overrides) (sym place) ∙ next_item rule m.overrides _ _ _ _ _ judging c.in-Some.ensures.steps in
    let step = one_checked m.overrides count _ c.loop-handle.invariant.noted o at _ c.in_ok-is_duplicate.is_duplicate c.in_ok-is_duplicate.ensures in
    let said : c.validate_override.result ≡ override_rule (is_taken (take c.in-Some.handle m.overrides) o.id) c.args.overrides_resolved m c.args.mod_info.now.lists o =
    c.validate_override.ensures ∙ ap (λ duplicate. override_rule duplicate c.args.overrides_resolved m c.args.mod_info.now.lists o) (step.0 ∙ ap (λ k. is_taken (take k m.overrides) o.id) (sym place)) in
    let accepted = accepted_unless c.validate_override.result c.in_default.not-Err in
    record {
      count = count + 1;
      judging = one_more rule m.overrides _ _ _ _ _ judging c.in-Some.ensures.steps (ap (reported (Override c.in-Some.handle (shown_name o.name))) (sym said ∙ accepted));
      noted = step.1;
    }

pub returns-in-Err : goal.returns-in-Err
returns-in-Err c =
    let m = c.args.module.now in
    let rule = override_result c.args.overrides_resolved m c.args.mod_info.now.lists in
    let o = c.in-Some.over.now in
    let count = c.loop-handle.invariant.count in
    let judging = c.loop-handle.invariant.judging in
    let place : c.in-Some.handle ≡ count = next_index rule m.overrides _ _ _ _ _ judging c.in-Some.ensures.steps in
    let at : slice_get m.overrides count ≡ Some o = ap (slice_get m.overrides) (sym place) ∙ next_item rule m.overrides _ _ _ _ _ judging c.in-Some.ensures.steps in
    let step = one_checked m.overrides count _ c.loop-handle.invariant.noted o at _ c.in_ok-is_duplicate.is_duplicate c.in_ok-is_duplicate.ensures in
    let said : c.validate_override.result ≡ override_rule (is_taken (take c.in-Some.handle m.overrides) o.id) c.args.overrides_resolved m c.args.mod_info.now.lists o =
    c.validate_override.ensures ∙ ap (λ duplicate. override_rule duplicate c.args.overrides_resolved m c.args.mod_info.now.lists o) (step.0 ∙ ap (λ k. is_taken (take k m.overrides) o.id) (sym place)) in
    let name = shown_name o.name in
    let error : ValidationError = Override c.in-Some.handle name c.in-Err.source in
    let is : inner_of c.with_span.result ≡ error = c.with_span.ensures.inner ∙ c.new.ensures.inner ∙ ap (λ shown. let e : ValidationError = Override c.in-Some.handle shown c.in-Err.source in e) c.in_ok-name.ensures in
    let refused : rule (c.in-Some.handle, o) ≡ Err error = ap (reported (Override c.in-Some.handle name)) (sym said ∙ c.in-Err.is) in
    inr (c.in-Some.handle, subst (IsFirstError (results_of rule m.overrides) c.in-Some.handle) (sym is) (first_refused rule m.overrides _ _ _ _ _ judging c.in-Some.ensures.steps error refused))

pub returns : goal.returns
returns c = all_accepted (override_result c.args.overrides_resolved c.args.module.now c.args.mod_info.now.lists) c.args.module.now.overrides _ _ c.loop-handle.invariant.judging c.in-None.ensures.steps.0
