use Rattle.std.proofs.Common.{ℕ}
use Rattle.naga_valid.proofs.Ids.{AreNoted}
use Rattle.naga_valid.proofs.ItemsInOrder.{Checks}
use Rattle.naga_valid.specs.Values.{override_result}
use Rattle.naga_valid.proofs.values.validate_overrides.Given as goal

-- the overrides so far keep their rule, and their numbers are noted
abbrev pub invariant-loop-handle : goal.invariant-loop-handle
invariant-loop-handle l = record {
  count : ℕ;
  judging : Checks (override_result l.overrides_resolved l.module l.mod_info.lists) l.module.overrides count l.handle-iterator;
  noted : AreNoted l.module.overrides count l.ids;
}
