use Rattle.std.specs.Prelude.{◌≡◌, ◌≤◌, length}
use Rattle.naga_ir.specs.ItemReferences.{global_lists}
use Rattle.naga_ir.specs.Ranks.{top_before}
use Rattle.naga_handles.specs.steps.VisitState.{Placed, Visited}
use Rattle.naga_handles.proofs.order.order_of.Given as goal

abbrev pub invariant-loop-index : goal.invariant-loop-index
invariant-loop-index l = record {
  visited : Visited l.module l.index l.walker;
  top : top_before (global_lists l.module) l.index ≡ l.placed;
  inside : l.placed ≤ length l.module.global_expressions;
  placed : Placed (global_lists l.module) l.order.items l.index l.placed;
}
