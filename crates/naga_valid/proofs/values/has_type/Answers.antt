use Rattle.naga_ir.proofs.Handles.{global_references_ok}
use Rattle.naga_ir.specs.ItemReferences.{global_lists}
use Rattle.naga_typing.specs.PlainLaws.{all_parts_exist}
use Rattle.naga_valid.proofs.values.has_type.Goals as goal

pub compare_types-requires-clause-parts_exist : goal.compare_types-requires-clause-parts_exist
compare_types-requires-clause-parts_exist c = let m = c.args.module.now in all_parts_exist (global_lists m) (global_references_ok m c.requires.filled.handles)
