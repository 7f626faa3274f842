use Rattle.naga_ir.proofs.laws.hash_reads_bindings.Goals as goal
use Rattle.naga_ir.proofs.HashLaws.{hash_reads}

pub returns : goal.returns
returns c = hash_reads c.args.first c.args.second c.numbers_have_range.ensures c.numbers_have_range-2.ensures
