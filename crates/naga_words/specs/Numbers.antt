-- Numbers of 16 and of 64 bits.
use Rattle.std.specs.Prelude.{ℕ, ◌+◌, ◌-◌, ◌*◌, ◌^◌}

-- the greatest `u16`
abbrev pub largest_u16 : ℕ
largest_u16 = 2 ^ 16 - 1

-- a number of 64 bits in two words, the low one first
abbrev pub wide : ℕ → ℕ → ℕ
wide low high = high * 4294967296 + low
