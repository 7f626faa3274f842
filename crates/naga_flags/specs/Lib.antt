-- To read first:
-- Bits: the bit of each flag, and the sets of flags that rules name
-- Flags.has: when a set has a flag
-- Flags.capabilities and the other tables: which flags each set of the code consists of
-- Width.width_rule: which scalars are allowed, by is_good_width, and how the others are refused
-- Subgroups.required_operations, Extensions.extension_of: what statements need, and what capabilities stand for
-- ErrorNames.width_error_name, immediate_error_name: the name of each variant of an error
pub mod Bits
pub mod ErrorNames
pub mod Extensions
pub mod Flags
pub mod Subgroups
pub mod Width
