-- To read first, after the definitions of naga_typing:
-- Leaf.bytes_of: a leaf of the code as one of the definition
-- LeavesFrom.HasLeaf: a type has a leaf at a path of indexes of 32 bits, and it begins at a byte of 64 bits
-- HasLeaves.AreLeavesKnown: it is known of the first types whether they have a leaf at all
-- Cursor.YieldsAll: a cursor has still to come to all leaves of a type
-- Cursor.IsNext, IsAtEnd: a cursor came to the first leaf of those still to come, or there is none
-- Order.IsAtOrAfter: the order of paths
-- Found.AreAll, AreFirst: leaves that were found in the order of paths are all, or the first ones
pub mod LeavesFrom
pub mod HasLeaves
pub mod Cursor
pub mod Found
pub mod Leaf
pub mod Order
pub mod Places
pub mod steps
