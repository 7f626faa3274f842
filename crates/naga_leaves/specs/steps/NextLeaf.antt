-- How a cursor goes on to its next leaf.
use Rattle.std.specs.Prelude.{◌≤◌}
use Rattle.naga_leaves.specs.Cursor.{YieldsSame, fuel}
use Rattle.naga_leaves.specs.declared.cursor.Leaves.{Leaves}

-- a cursor went on, and no further than to the next leaf
pub record ComesOn (before now : Leaves) : Type 0 where
  pub same : YieldsSame before now
  pub fewer : fuel now ≤ fuel before
