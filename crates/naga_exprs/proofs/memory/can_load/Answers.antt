use Rattle.naga_exprs.proofs.memory.can_load.Goals as goal
use Rattle.naga_ir.specs.ItemReferences.{global_lists}
use Rattle.naga_typing.proofs.Pointers.{pointer_base_exists}

pub type_flags-requires-clause-exists : goal.type_flags-requires-clause-exists
type_flags-requires-clause-exists c = pointer_base_exists (global_lists c.args.context.«module».now) c.args.inner.now c.in-Pointer.base c.in-Pointer.space c.requires.exist c.in-Pointer.is
