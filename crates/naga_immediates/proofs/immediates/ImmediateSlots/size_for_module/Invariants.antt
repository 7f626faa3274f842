use Rattle.std.proofs.Common.{◌≡◌, ◌<◌, ℕ, get_or, false}
use Rattle.naga_immediates.specs.Slots.{is_immediate}
use Rattle.naga_ir.specs.declared.ir.GlobalVariable.{GlobalVariable as Variable}
use Rattle.naga_immediates.proofs.immediates.ImmediateSlots.size_for_module.Given as goal

abbrev pub invariant-loop-variable : goal.invariant-loop-variable
invariant-loop-variable l = (k : ℕ) (d : Variable) → k < l.variable-index → is_immediate (get_or l.variable-items k d).space ≡ false
