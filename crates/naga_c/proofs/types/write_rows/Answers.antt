use Rattle.std.proofs.Common.{arith, ◌∙◌}
use Rattle.naga_c.specs.Types.{rows_of}
use Rattle.naga_c.proofs.Fronts.{front_whole}
use Rattle.naga_c.proofs.RowLaws.{length_rows, row_more}
use Rattle.naga_c.proofs.types.write_rows.Goals as goal

pub loop-index-preserved : goal.loop-index-preserved
loop-index-preserved c =
    row_more c.args.validator.now.infos c.args.layouter.now c.args.rows.now c.loop-index.rows c.loop-index.index c.new-handle.result c.type_info.result c.index.result.now c.type_row.result
    c.loop-index.invariant c.new-handle.ensures c.type_info.ensures c.index.ensures c.type_row.ensures (omega arith)

pub returns : goal.returns
returns c =
    let rows = length_rows c.args.validator.now.infos c.args.layouter.now c.requires.laid_out in
    c.loop-index.invariant ∙ front_whole (rows_of c.args.validator.now.infos c.args.layouter.now) c.args.rows.now c.loop-index.index (omega (arith, rows))
