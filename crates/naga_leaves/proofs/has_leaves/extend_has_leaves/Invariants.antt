use Rattle.std.proofs.Common.{◌≡◌, ◌+◌, length}
use Rattle.naga_leaves.specs.HasLeaves.{AreLeavesKnown}
use Rattle.naga_leaves.proofs.has_leaves.extend_has_leaves.Given as goal
use Rattle.naga_typing.specs.Context.{lists_of}
use Rattle.naga_typing.specs.Leaves.{elements}

-- the types so far are known
abbrev pub invariant-loop-index : goal.invariant-loop-index
invariant-loop-index l = record {
  known : AreLeavesKnown (lists_of l.gctx) (elements (lists_of l.gctx) l.length) l.has_leaves.items;
  so_far : l.index ≡ length l.has_leaves.items;
  end : l.end ≡ l.fn.ty + 1;
}
