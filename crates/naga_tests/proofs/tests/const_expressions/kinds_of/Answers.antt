use Rattle.naga_ir.specs.ItemReferences.{global_lists}
use Rattle.naga_ir.proofs.ReferencesOfItems.{operands_go_back}
use Rattle.naga_tests.proofs.tests.const_expressions.kinds_of.Goals as goal

pub from_arena-requires : goal.from_arena-requires
from_arena-requires g c = operands_go_back (global_lists c.args.module.now) c.assert_references_ok.ensures
