use Rattle.std.proofs.Common.{arith, refl}
use Rattle.naga_c.specs.Functions.{all_written}
use Rattle.naga_c.proofs.RowLaws.{with_written}
use Rattle.naga_c.proofs.functions.report_all.Goals as goal

pub returns : goal.returns
returns c = all_written (omega arith) c.write_stages.ensures (with_written _ _ _ _ c.counts_of.ensures c.callable_count-count.ensures) refl
