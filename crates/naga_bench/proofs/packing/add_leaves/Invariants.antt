use Rattle.naga_leaves.specs.Cursor.{IsCursor}
use Rattle.naga_bench.proofs.packing.add_leaves.Given as goal

-- the cursor is at a part
abbrev pub invariant-leaves : goal.invariant-leaves
invariant-leaves l = IsCursor l.leaves
