use Rattle.std.proofs.Common.{◌-◌, Some, ap, arith, sym, ◌∙◌}
use Rattle.naga_c.proofs.StageLaws.{entry_stages}
use Rattle.naga_c.proofs.functions.stages_at.Goals as goal

pub returns-else-index-functions : goal.returns-else-index-functions
returns-else-index-functions c =
    let lists = c.args.info.now.lists in
    entry_stages lists.functions lists.entry_points (c.args.index - c.args.functions) c.args.index c.get_entry_point.result.now c.get_entry_point.ensures (omega arith) ∙ ap Some (sym c.bits_of-else-index-functions.ensures)
