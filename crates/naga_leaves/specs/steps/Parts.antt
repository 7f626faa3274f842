-- Parts of values, as the code has them.
use Rattle.naga_leaves.specs.declared.leaf.Part.{Part}
use Rattle.naga_typing.specs.Leaves as spec

-- a part, as the definition has it
abbrev pub part_of : Part → spec.Part
part_of part = record { ty = part.ty; first = part.first }
