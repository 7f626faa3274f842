use Rattle.naga_cli.specs.Rows.{Cover}
use Rattle.naga_cli.proofs.ShownLaws.{IsShowing}
use Rattle.naga_cli.proofs.layout.rows_of.Given as goal
use Rattle.naga_ir.specs.ItemReferences.{global_lists}
use Rattle.naga_leaves.specs.Cursor.{fuel}

-- the rows have all bytes up to their end, and the leaves to which the cursor came
abbrev pub invariant-loop-leaves : goal.invariant-loop-leaves
invariant-loop-leaves l = Cover l.rows.rows.items l.rows.end
    × IsShowing (global_lists l.subject.«module») l.length l.ty l.leaves l.shown l.rows.rows.items

abbrev pub decreases-loop-leaves : goal.decreases-loop-leaves
decreases-loop-leaves l = fuel l.leaves
