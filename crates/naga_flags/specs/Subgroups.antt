-- The groups of subgroup operations that statements need.
use Rattle.std.specs.Prelude.{ℕ}
use Rattle.naga_flags.specs.Bits.{ARITHMETIC, BALLOT, QUAD_FRAGMENT_COMPUTE, SHUFFLE, SHUFFLE_RELATIVE, VOTE}
use Rattle.naga_ir.specs.declared.statement.GatherMode.{GatherMode}
use Rattle.naga_ir.specs.declared.statement.GatherMode.TheVariants.{BroadcastFirst, Broadcast, Shuffle, ShuffleDown, ShuffleUp, ShuffleXor, QuadBroadcast, QuadSwap}
use Rattle.naga_ir.specs.declared.statement.SubgroupOperation.{SubgroupOperation}
use Rattle.naga_ir.specs.declared.statement.SubgroupOperation.TheVariants.{All, Any}

-- what a collective operation needs: all and any are votes, the others are arithmetic
abbrev pub required_operations : SubgroupOperation → ℕ
required_operations All = VOTE
required_operations Any = VOTE
required_operations _ = ARITHMETIC

-- what a gather needs
abbrev pub required_operations_of_gather : GatherMode → ℕ
required_operations_of_gather BroadcastFirst = BALLOT
required_operations_of_gather (Broadcast index) = BALLOT
required_operations_of_gather (Shuffle index) = SHUFFLE
required_operations_of_gather (ShuffleXor mask) = SHUFFLE
required_operations_of_gather (ShuffleUp delta) = SHUFFLE_RELATIVE
required_operations_of_gather (ShuffleDown delta) = SHUFFLE_RELATIVE
required_operations_of_gather (QuadBroadcast index) = QUAD_FRAGMENT_COMPUTE
required_operations_of_gather QuadSwap = QUAD_FRAGMENT_COMPUTE
