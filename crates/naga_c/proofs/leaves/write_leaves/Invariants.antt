use Rattle.naga_leaves.specs.Cursor.{fuel}
use Rattle.naga_c.specs.Leaves.{buffers}
use Rattle.naga_c.proofs.CursorLaws.{IsWriting}
use Rattle.naga_c.proofs.leaves.write_leaves.Given as goal

-- the leaves before the cursor are written
abbrev pub invariant-leaves : goal.invariant-leaves
invariant-leaves l = IsWriting l.query.«module».now l.query.length l.query.ty l.query.most l.query.place (buffers l.fn.leaves l.fn.paths l.fn.counts) l.cursor (buffers l.leaves l.paths l.counts)

abbrev pub decreases-leaves : goal.decreases-leaves
decreases-leaves l = fuel l.cursor
