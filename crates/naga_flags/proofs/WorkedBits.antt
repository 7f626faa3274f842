-- The names of all flags stand for the flags of their tables.
use Rattle.std.proofs.Common.{◌≡◌, refl}
use Rattle.bitflags.specs.Sets.{known_bits, known_from}
use Rattle.naga_flags.specs.Bits.{COMPUTE_LIKE, all_capabilities, all_subgroup_operations, all_type_flags, all_validation_flags, default_capabilities}
use Rattle.naga_flags.specs.Flags.{capabilities, subgroup_operations, type_flags, validation_flags}

pub all-validation-flags : known_bits validation_flags ≡ all_validation_flags
unfolding known_from
all-validation-flags = refl

pub all-capabilities : known_bits capabilities ≡ all_capabilities
unfolding known_from
all-capabilities = refl

pub all-type-flags : known_bits type_flags ≡ all_type_flags
unfolding known_from
all-type-flags = refl

pub all-subgroup-operations : known_bits subgroup_operations ≡ all_subgroup_operations
unfolding known_from
all-subgroup-operations = refl

-- the numbers that texts give: 36864 are the capabilities by default, and 28 the stages that run in workgroups
pub capabilities-by-default : default_capabilities ≡ 36864
capabilities-by-default = refl

pub compute-like : COMPUTE_LIKE ≡ 28
compute-like = refl
