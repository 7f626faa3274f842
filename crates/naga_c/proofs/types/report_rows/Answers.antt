use Rattle.std.proofs.Common.{arith, refl, subst}
use Rattle.naga_ir.specs.ItemReferences.{GlobalLists}
use Rattle.naga_typing.specs.Layout.{AreLayouts}
use Rattle.naga_c.specs.Types.{written}
use Rattle.naga_c.proofs.RowLaws.{with_written}
use Rattle.naga_c.proofs.types.report_rows.Goals as goal

pub returns : goal.returns
returns c =
    let layouts = subst (λ (lists : GlobalLists). AreLayouts lists c.update.new.self) c.to_ctx.ensures.lists c.in-Ok.ensures.layouts in
    written (omega arith) c.update.new.self layouts c.write_rows.ensures (with_written _ _ _ _ c.counts_of.ensures c.len-count.ensures.value) refl
