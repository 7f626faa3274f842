use Rattle.std.proofs.Common.{drop}
use Rattle.naga_leaves.proofs.Path.{Following}
use Rattle.naga_leaves.proofs.leaf.leaf_at.Given as goal
use Rattle.naga_typing.specs.Context.{lists_of}
use Rattle.naga_typing.specs.Leaves.{elements}

-- the indexes so far lead to a part that begins at this byte
abbrev pub invariant-loop-index : goal.invariant-loop-index
invariant-loop-index l = Following (lists_of l.gctx) (elements (lists_of l.gctx) l.length) l.fn.ty l.ty l.path l.first (drop l.index-index l.path)
