use Rattle.naga_typing.proofs.Resolutions.{base_exists}
use Rattle.naga_typing.proofs.pushing.push_part.Goals as goal

pub index-requires : goal.index-requires
index-requires c = base_exists c.args.module.now.types _ _ _ (c.requires.parts _ (rw c.as_slice.ensures at c.operand.ensures)) c.in-Pointer.is

pub part_in-part-requires : goal.part_in-part-requires
part_in-part-requires c = c.requires.parts _ (rw c.as_slice-in_default.ensures at c.operand-in_default.ensures)
