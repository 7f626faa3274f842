use Rattle.naga_leaves.specs.Cursor.{IsCursor}
use Rattle.naga_tests.proofs.tests.packing.pack.Given as goal

-- the cursor is at a part
abbrev pub invariant-loop : goal.invariant-loop
invariant-loop g l = IsCursor l.leaves
