use Rattle.naga_c.specs.Leaves.{buffers}
use Rattle.naga_c.proofs.CursorLaws.{IsAnswering}
use Rattle.naga_c.proofs.leaves.write_all.Given as goal

-- the leaves of the types so far are written
abbrev pub invariant-loop-index : goal.invariant-loop-index
invariant-loop-index l = IsAnswering l.queries.accepted.now.subject.«module» l.queries.types.now l.queries.length l.queries.accepted.now.most_leaves (buffers l.fn.leaves l.fn.paths l.fn.counts) l.index (buffers l.leaves l.paths l.counts)
