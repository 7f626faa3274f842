use Rattle.std.proofs.Common.{ℕ, List, ap, arith, slice_set, ◌∙◌}
use Rattle.naga_c.specs.Functions.{stages_of}
use Rattle.naga_c.proofs.Fronts.{front_more, front_whole}
use Rattle.naga_c.proofs.StageLaws.{length_stages}
use Rattle.naga_c.proofs.functions.write_stages.Goals as goal

pub loop-index-preserved : goal.loop-index-preserved
loop-index-preserved c =
    let i = c.loop-index.index in
    let v = c.stages_at.result in
    ap (λ (xs : List ℕ). slice_set xs i v) c.loop-index.invariant ∙ front_more (stages_of c.args.info.now.lists) c.args.stages.now i v c.stages_at.ensures (omega arith)

pub returns : goal.returns
returns c =
    let lists = c.args.info.now.lists in
    let stages = length_stages lists.functions lists.entry_points in
    c.loop-index.invariant ∙ front_whole (stages_of lists) c.args.stages.now c.loop-index.index (omega (arith, stages))
