use Rattle.std.proofs.Common.{sym, ◌∙◌}
use Rattle.naga_ir.proofs.Powers.{power_found}
use Rattle.naga_ir.proofs.alignment.Alignment.new.Goals as goal

pub invariant_of-result : goal.invariant_of-result
invariant_of-result c = power_found c.args.bytes (sym c.is_power_of_two.ensures ∙ c.if-is_power_of_two.true)
