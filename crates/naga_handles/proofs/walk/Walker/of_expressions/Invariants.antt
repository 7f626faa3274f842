use Rattle.std.specs.Prelude.{◌≡◌, None, vec_capacity}
use Rattle.naga_ir.specs.ItemReferences.{global_lists}
use Rattle.naga_handles.specs.steps.VisitState.{ExpressionsOk, Names}
use Rattle.naga_handles.proofs.walk.Walker.of_expressions.Given as goal

abbrev pub invariant-loop-index : goal.invariant-loop-index
invariant-loop-index l = record {
  visited : l.walker.visited ≡ l.index;
  looks : l.walker.reader.looks ≡ l.index;
  kept : l.walker.kept ≡ None;
  right : ExpressionsOk l.module l.index;
  names : Names (global_lists l.module) l.walker;
  room : vec_capacity l.walker.table ≡ l.room;
}
