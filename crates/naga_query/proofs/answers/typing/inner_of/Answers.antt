use Rattle.naga_ir.specs.ItemReferences.{global_lists}
use Rattle.naga_query.proofs.answers.typing.inner_of.Goals as goal
use Rattle.naga_typing.proofs.Existence.{references_exist}

pub returns-then-index-len : goal.returns-then-index-len
returns-then-index-len c = references_exist (global_lists c.args.«module».now) c.requires _ _ c.index-then-index-len.ensures
