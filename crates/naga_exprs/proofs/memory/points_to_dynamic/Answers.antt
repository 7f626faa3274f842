use Rattle.naga_exprs.proofs.memory.points_to_dynamic.Goals as goal
use Rattle.naga_ir.specs.ItemReferences.{global_lists}
use Rattle.naga_typing.proofs.Pointers.{pointer_base_exists}

pub index-requires : goal.index-requires
index-requires c = pointer_base_exists (global_lists c.args.«module».now) c.args.inner.now c.in-Pointer.base c.in-Pointer.space c.requires.exist c.in-Pointer.is
