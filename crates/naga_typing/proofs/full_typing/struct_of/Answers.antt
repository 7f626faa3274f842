use Rattle.naga_ir.proofs.Handles.{global_references_ok}
use Rattle.naga_ir.specs.ItemReferences.{global_lists}
use Rattle.naga_typing.specs.FullLaws.{result_types_exist}
use Rattle.naga_typing.specs.PlainLaws.{all_parts_exist}
use Rattle.naga_typing.proofs.full_typing.struct_of.Goals as goal

pub find_pair-requires-clause-exist : goal.find_pair-requires-clause-exist
find_pair-requires-clause-exist c = rw c.result_types.ensures (result_types_exist c.args.«module».now c.requires)

pub find_pair-requires-clause-parts : goal.find_pair-requires-clause-parts
find_pair-requires-clause-parts c = all_parts_exist (global_lists c.args.«module».now) (global_references_ok c.args.«module».now c.requires)

pub find_pair-requires-in-Frexp-clause-exist : goal.find_pair-requires-in-Frexp-clause-exist
find_pair-requires-in-Frexp-clause-exist c = rw c.result_types-in-Frexp.ensures (result_types_exist c.args.«module».now c.requires)

pub find_pair-requires-in-Frexp-clause-parts : goal.find_pair-requires-in-Frexp-clause-parts
find_pair-requires-in-Frexp-clause-parts c = all_parts_exist (global_lists c.args.«module».now) (global_references_ok c.args.«module».now c.requires)
