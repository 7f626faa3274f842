use Rattle.std.proofs.Common.{ℕ}
use Rattle.naga_valid.proofs.ItemsInOrder.{Checks}
use Rattle.naga_valid.specs.Values.{constant_result}
use Rattle.naga_valid.proofs.values.validate_constants.Given as goal

-- the constants so far keep their rule
abbrev pub invariant-loop-handle : goal.invariant-loop-handle
invariant-loop-handle l = (count : ℕ) × Checks (constant_result l.module l.mod_info.lists l.kinds) l.module.constants count l.handle-iterator
