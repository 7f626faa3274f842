use Rattle.std.proofs.Common.{subst, sym}
use Rattle.naga_ir.specs.ItemReferences.{global_lists}
use Rattle.naga_cli.specs.Rows.{ShowLeaves}
use Rattle.naga_cli.proofs.ShownLaws.{shown_finished}
use Rattle.naga_cli.proofs.layout.layout_of.Goals as goal

pub returns-clause-leaves : goal.returns-clause-leaves
returns-clause-leaves c =
    let g = global_lists c.args.subject.now.«module» in
    let found = c.in_ok-rows.rows in
    subst (ShowLeaves g c.args.shown.length c.args.ty c.in_ok-rows.is_cut) (sym c.in_ok-rows-2.ensures.rows)
    (shown_finished g c.args.shown.length c.args.ty c.in_ok-rows.is_cut found.rows.items found.end _ c.in_ok-rows.ensures.leaves)
