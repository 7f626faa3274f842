use Rattle.std.proofs.Common.{◌≡◌}
use Rattle.naga_arena.specs.InOrder.{FollowInOrder}
use Rattle.naga_info.proofs.FunctionTypes.{all}
use Rattle.naga_info.proofs.infer.infer_types.Given as goal
use Rattle.naga_info.specs.FunctionTypes.{type_in_order}
use Rattle.naga_typing.proofs.ExpressionTypes.{Typed}

-- the expressions so far have types
abbrev pub invariant-loop-handle : goal.invariant-loop-handle
invariant-loop-handle g l = record {
  typed : Typed l.module l.function.expressions l.info.types l.handle-iterator;
  follow : FollowInOrder (type_in_order (g.T.Typing.resolves l.typing) l.module l.function) l.function.expressions l.info.types;
  stages : l.info.available_stages ≡ all;
}
