use Rattle.std.proofs.Common.{ℕ}
use Rattle.naga_valid.proofs.ItemsInOrder.{Checks}
use Rattle.naga_valid.specs.Values.{const_surroundings, expression_result}
use Rattle.naga_valid.proofs.values.validate_expressions.Given as goal

-- the expressions so far keep their rule
abbrev pub invariant-loop-handle : goal.invariant-loop-handle
invariant-loop-handle g l = (count : ℕ) × Checks (expression_result (const_surroundings l.ctx.capabilities l.ctx.overrides_resolved l.module l.mod_info.lists l.kinds)) l.module.global_expressions count l.handle-iterator
