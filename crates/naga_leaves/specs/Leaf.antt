-- Leaves, as the code has them.
use Rattle.naga_leaves.specs.declared.leaf.Leaf.{Leaf}
use Rattle.naga_typing.specs.Leaves.{LeafBytes}

-- the bytes of a leaf
abbrev pub bytes_of : Leaf → LeafBytes
bytes_of leaf = record { first = leaf.first; size = leaf.size; alignment = leaf.alignment }
