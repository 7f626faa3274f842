use Rattle.naga_leaves.proofs.NextLeaves.{begins}
use Rattle.naga_leaves.specs.Cursor.{elements_for}
use Rattle.naga_leaves.proofs.cursor.Leaves.begin.Goals as goal

pub returns-clause-leaf : goal.returns-clause-leaf
returns-clause-leaf c =
    begins c.args.self.now c.requires c.if-self.false c.leaf.result (c.leaf.ensures.leaf (elements_for c.args.self.now)) c.leaf.ensures.begins
