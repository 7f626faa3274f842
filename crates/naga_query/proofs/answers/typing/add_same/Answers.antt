use Rattle.naga_ir.specs.ItemReferences.{global_lists}
use Rattle.naga_query.proofs.answers.typing.add_same.Goals as goal
use Rattle.naga_typing.specs.PlainLaws.{all_parts_exist}

pub compare_types-same-requires-clause-parts_exist : goal.compare_types-same-requires-clause-parts_exist
compare_types-same-requires-clause-parts_exist c = all_parts_exist (global_lists c.args.«module».now) c.requires
