use Rattle.std.proofs.Common.{◌≡◌}
use Rattle.naga_arena.specs.InOrder.{FollowInOrder}
use Rattle.naga_typing.proofs.ExpressionTypes.{Resolved}
use Rattle.naga_typing.specs.Typings.{resolve_in_order}
use Rattle.naga_valid.proofs.driver.resolve_expressions.Given as goal

-- the expressions so far have types, and nothing else is noted
abbrev pub invariant-loop-handle : goal.invariant-loop-handle
invariant-loop-handle g l = record {
  resolved : Resolved l.module l.mod_info.lists.const_expression_types l.handle-iterator;
  follow : FollowInOrder (resolve_in_order (g.T.Typing.resolves l.typing) l.module) l.module.global_expressions l.mod_info.lists.const_expression_types;
  others : l.mod_info.lists ≡ record l.initial.mod_info.lists { const_expression_types = l.mod_info.lists.const_expression_types };
}
