use Rattle.std.proofs.Common.{◌≡◌, ◌+◌, ◌∙◌, Err, inr, ap, sym, subst}
use Rattle.std.proofs.lemmas.Option.{slice_get_within}
use Rattle.naga_arena.specs.Results.{IsFirstError}
use Rattle.naga_arena.specs.Span.{inner_of}
use Rattle.naga_valid.proofs.ItemsInOrder.{accepted_unless, all_accepted, begin, first_refused, next_item, one_more}
use Rattle.naga_valid.proofs.ReferencedItems.{constant-initialiser, constant-type}
use Rattle.naga_valid.specs.Values.{constant_result, reported, results_of, shown_name}
use Rattle.naga_valid.specs.declared.error.ValidationError.{ValidationError}
use Rattle.naga_valid.specs.declared.error.ValidationError.TheVariants.{Constant}
use Rattle.naga_valid.proofs.values.validate_constants.Goals as goal

pub loop-handle-init : goal.loop-handle-init
loop-handle-init c = (0, begin (constant_result c.args.module.now c.args.mod_info.now.lists c.args.kinds.now) c.args.module.now.constants _ (c.into_iter-handle-iterator.ensures.into_iter_gives ∙ c.iter-handle-items.ensures))

pub validate_constant-requires-clause-ty : goal.validate_constant-requires-clause-ty
validate_constant-requires-clause-ty c = constant-type c.args.module.now c.requires.filled.handles _ _ (next_item _ c.args.module.now.constants _ _ _ _ _ c.loop-handle.invariant.1 c.in-Some.ensures.steps)

pub validate_constant-requires-clause-init : goal.validate_constant-requires-clause-init
validate_constant-requires-clause-init c = constant-initialiser c.args.module.now c.requires.filled.handles _ _ (next_item _ c.args.module.now.constants _ _ _ _ _ c.loop-handle.invariant.1 c.in-Some.ensures.steps)

pub get_span-requires : goal.get_span-requires
get_span-requires c = slice_get_within _ _ _ (next_item _ c.args.module.now.constants _ _ _ _ _ c.loop-handle.invariant.1 c.in-Some.ensures.steps)

pub loop-handle-preserved : goal.loop-handle-preserved
loop-handle-preserved c =
    let report = reported (Constant c.in-Some.handle (shown_name c.in-Some.constant.now.name)) in
    let accepted = accepted_unless c.validate_constant.result c.in_default.not-Err in (
      c.loop-handle.invariant.0 + 1,
      one_more (constant_result c.args.module.now c.args.mod_info.now.lists c.args.kinds.now) c.args.module.now.constants _ _ _ _ _ c.loop-handle.invariant.1 c.in-Some.ensures.steps
          (ap report (sym c.validate_constant.ensures ∙ accepted)),
    )

pub returns-in-Err : goal.returns-in-Err
returns-in-Err c =
    let m = c.args.module.now in
    let rule = constant_result m c.args.mod_info.now.lists c.args.kinds.now in
    let name = shown_name c.in-Some.constant.now.name in
    let error : ValidationError = Constant c.in-Some.handle name c.in-Err.source in
    let is : inner_of c.with_span.result ≡ error = c.with_span.ensures.inner ∙ c.new.ensures.inner ∙ ap (λ shown. let e : ValidationError = Constant c.in-Some.handle shown c.in-Err.source in e) c.in_ok-name.ensures in
    let refused : rule (c.in-Some.handle, c.in-Some.constant.now) ≡ Err error = ap (reported (Constant c.in-Some.handle name)) (sym c.validate_constant.ensures ∙ c.in-Err.is) in
    inr (c.in-Some.handle, subst (IsFirstError (results_of rule m.constants) c.in-Some.handle) (sym is) (first_refused rule m.constants _ _ _ _ _ c.loop-handle.invariant.1 c.in-Some.ensures.steps error refused))

pub returns : goal.returns
returns c = all_accepted (constant_result c.args.module.now c.args.mod_info.now.lists c.args.kinds.now) c.args.module.now.constants _ _ c.loop-handle.invariant.1 c.in-None.ensures.steps.0
