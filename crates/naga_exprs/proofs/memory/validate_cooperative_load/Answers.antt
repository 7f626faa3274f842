use Rattle.naga_exprs.proofs.memory.validate_cooperative_load.Goals as goal
use Rattle.naga_ir.specs.ItemReferences.{global_lists}
use Rattle.naga_typing.specs.PlainLaws.{types_exist}
use Rattle.naga_typing.specs.declared.typifier.TypeResolution.TheVariants.{Value}

pub target_scalar-requires : goal.target_scalar-requires
target_scalar-requires c = types_exist (global_lists c.args.context.«module».now) (Value c.type_of.result.now) c.type_of.ensures.exist
