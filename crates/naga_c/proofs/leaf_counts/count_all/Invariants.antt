use Rattle.naga_c.proofs.LeafCountLaws.{AreCounted}
use Rattle.naga_c.proofs.leaf_counts.count_all.Given as goal

-- the leaves of the types so far are counted
abbrev pub invariant-loop-ty : goal.invariant-loop-ty
invariant-loop-ty l = AreCounted l.queries.accepted.now.subject.«module» l.queries.types.now l.queries.length l.queries.accepted.now.most_leaves l.ty-index l.counts
