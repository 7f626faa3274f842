-- The greatest numbers of the types that indexes, lengths and widths have.
use Rattle.std.specs.Prelude.{◌^◌, ◌-◌, ℕ}

-- the greatest `u8`
abbrev pub largest_u8 : ℕ
largest_u8 = 2 ^ 8 - 1

-- the greatest `u32`
abbrev pub largest_u32 : ℕ
largest_u32 = 2 ^ 32 - 1

-- the greatest `u64`
abbrev pub largest_u64 : ℕ
largest_u64 = 2 ^ 64 - 1

-- the greatest index of a handle: a place below the greatest `u32`, so that a range's end is one too
abbrev pub largest_handle : ℕ
largest_handle = largest_u32 - 1
