use Rattle.std.proofs.Common.{Some, ap, sym, ◌∙◌}
use Rattle.std.proofs.lemmas.Option.{slice_get-get_or}
use Rattle.naga_c.proofs.LeafCountLaws.{counted_more, not_counted}
use Rattle.naga_c.proofs.leaf_counts.count_all.Goals as goal

pub loop-ty-preserved : goal.loop-ty-preserved
loop-ty-preserved c =
    let there = slice_get-get_or c.args.queries.types.now c.loop-ty.ty-index 0 c.loop-ty-test.true ∙ ap Some (sym c.new.ensures) in
    counted_more _ _ _ _ c.loop-ty.ty-index c.new.result c.loop-ty.counts c.in-Ok.counted c.loop-ty.invariant there c.in-Ok.ensures

pub returns-in-Err : goal.returns-in-Err
returns-in-Err c =
    let there = slice_get-get_or c.args.queries.types.now c.loop-ty.ty-index 0 c.loop-ty-test.true ∙ ap Some (sym c.new.ensures) in
    not_counted _ _ _ _ c.loop-ty.ty-index c.new.result c.loop-ty.counts c.in-Err.why c.loop-ty.invariant (c.has_types.ensures.all.0 c.if-not-has_types.false) there c.in-Err.ensures
