use Rattle.naga_handles.proofs.OrderFaults.{not_there}
use Rattle.naga_handles.proofs.walk.check_exists.Goals as goal

pub returns-clause-refused : goal.returns-clause-refused
returns-clause-refused c = not_there c.args.module.now c.of_module.result c.args.reference c.check_exists.result c.of_module.ensures c.check_exists.ensures c.requires
