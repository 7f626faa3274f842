use Rattle.std.proofs.Common.{◌<◌, Some, ap, arith, get_or, length, sym, ◌∙◌}
use Rattle.std.proofs.lemmas.Option.{slice_get-get_or}
use Rattle.naga_c.specs.Leaves.{buffers}
use Rattle.naga_c.proofs.CursorLaws.{answering_all, answering_more, answering_some, answering_too_many}
use Rattle.naga_c.proofs.leaves.write_all.Goals as goal

pub returns-in_default : goal.returns-in_default
returns-in_default c =
    let far = c.in_default.ensures in
    answering_too_many _ _ _ _ _ c.loop-index.index _ c.loop-index.invariant (c.has_types.ensures.all.0 c.if-not-has_types.false) (omega (arith, far)) c.loop-index-test.true

pub new-requires : goal.new-requires
new-requires c =
    let within : get_or c.args.queries.types.now c.loop-index.index 0 < length c.args.queries.accepted.now.subject.«module».types = c.has_types.ensures.all.0 c.if-not-has_types.false c.loop-index.index 0 c.loop-index-test.true in
    omega (arith, c.has_types.ensures.bound)

pub returns-in_default-write_leaves : goal.returns-in_default-write_leaves
returns-in_default-write_leaves c =
    let there = slice_get-get_or c.args.queries.types.now c.loop-index.index 0 c.loop-index-test.true ∙ ap Some (sym c.new.ensures) in
    answering_some _ _ _ _ _ c.loop-index.index c.in-Ok.place c.new.result (buffers c.loop-index.leaves c.loop-index.paths c.loop-index.counts) _ c.write_leaves.result
    c.loop-index.invariant (c.has_types.ensures.all.0 c.if-not-has_types.false) there c.in-Ok.ensures.1 c.in_default-write_leaves.not-Done c.write_leaves.ensures

pub loop-index-preserved : goal.loop-index-preserved
loop-index-preserved c =
    let there = slice_get-get_or c.args.queries.types.now c.loop-index.index 0 c.loop-index-test.true ∙ ap Some (sym c.new.ensures) in
    answering_more _ _ _ _ _ c.loop-index.index c.in-Ok.place c.new.result (buffers c.loop-index.leaves c.loop-index.paths c.loop-index.counts) _ c.loop-index.invariant there c.in-Ok.ensures.1 c.in-Done.ensures

pub returns : goal.returns
returns c = answering_all _ _ _ _ _ c.loop-index.index _ c.loop-index.invariant (c.has_types.ensures.all.0 c.if-not-has_types.false) c.loop-index-test.false
