use Rattle.naga_leaves.specs.Cursor.{IsCursor}
use Rattle.naga_query.proofs.answers.leaves.add_all.Given as goal

-- the cursor is at a part
abbrev pub invariant-loop : goal.invariant-loop
invariant-loop l = IsCursor l.leaves
