use Rattle.naga_leaves.specs.Cursor.{IsCursor}
use Rattle.naga_retries.proofs.leaves.find_in_module.Given as goal

-- the cursor is at a part
abbrev pub invariant-loop-number : goal.invariant-loop-number
invariant-loop-number l = IsCursor l.leaves
