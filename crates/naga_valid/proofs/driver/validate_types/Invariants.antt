use Rattle.std.proofs.Common.{length}
use Rattle.naga_arena.specs.InOrder.{FollowInOrder}
use Rattle.naga_ir.specs.ItemReferences.{global_lists}
use Rattle.naga_types.specs.AcceptedTypes.{types_rule}
use Rattle.naga_typing.proofs.Iteration.{Iterating, accepts_all}
use Rattle.naga_valid.proofs.driver.validate_types.Given as goal

-- the types so far have the infos so far
abbrev pub invariant-loop-handle : goal.invariant-loop-handle
invariant-loop-handle l = record {
  iterating : Iterating accepts_all l.module.types (length l.infos.infos) l.handle-iterator;
  follow : FollowInOrder (types_rule (global_lists l.module) l.settings.capabilities l.settings.resolved l.layouter) l.module.types l.infos.infos;
}
