use Rattle.naga_leaves.specs.Cursor.{fuel}
use Rattle.naga_c.proofs.LeafCountLaws.{IsCounting}
use Rattle.naga_c.proofs.leaf_counts.count_type.Given as goal

-- the leaves before the cursor are counted
abbrev pub invariant-leaves : goal.invariant-leaves
invariant-leaves l = IsCounting l.query.«module».now l.query.length l.query.ty l.query.most l.fn.before l.cursor l.counts

abbrev pub decreases-leaves : goal.decreases-leaves
decreases-leaves l = fuel l.cursor
