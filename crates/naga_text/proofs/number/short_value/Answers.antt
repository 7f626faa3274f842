use Rattle.std.proofs.Common.{ℕ, ◌^◌, ◌<◌, ◌≤◌, arith, lit<}
use Rattle.std.proofs.Math.Nat.{pow-le-pow_right}
use Rattle.naga_text.proofs.number.short_value.Goals as goal

-- a number that at most 18 digits write is below 10 to the power of 18
below : (value i : ℕ) → value < 10 ^ i → i ≤ 18 → value < 10 ^ 18
below value i h few = let most : 10 ^ i ≤ 10 ^ 18 = pow-le-pow_right {n = 10} (lit< tt) few in omega (arith, h, most)

pub overflow_mul-value : goal.overflow_mul-value
overflow_mul-value c = omega (arith, below c.loop-byte.value c.loop-byte.byte-index c.loop-byte.invariant.fits (omega arith))

pub overflow_add-value : goal.overflow_add-value
overflow_add-value c = omega (arith, below c.loop-byte.value c.loop-byte.byte-index c.loop-byte.invariant.fits (omega arith), c.from.ensures)
