-- Laws of powers of two: twice and four times a number is one exactly if the number is, and of two the
-- greater is a multiple of the less.
use Rattle.std.proofs.Common.{◌≡◌, ◌==◌, ℕ, true, ◌+◌, ◌-◌, ◌*◌, ◌/◌, ◌%◌, ◌^◌, ◌<◌, ◌≤◌, ⊎_elim, count_ones, refl, sym, ap, ◌∙◌, arith}
use Rattle.std.proofs.Math.Nat.{mul-mod_right}
use Rattle.std.proofs.lemmas.Bool.{cases_lt}
use Rattle.std.proofs.lemmas.Nat.{pow-add, pow_below, pow_pos}
use Rattle.std.specs.Int.{IsPowerOfTwo, is_power_of_two}
use Rattle.naga_ir.proofs.Powers.{power_found}
use Rattle.naga_ir.specs.declared.types.VectorSize.{VectorSize}
use Rattle.naga_ir.specs.declared.types.VectorSize.TheVariants.{Bi, Tri, Quad}
use Rattle.naga_ir.specs.Sizes.{vector_alignment}
use lib.Count.{ones, ones_step}

ones-double : (n : ℕ) → count_ones (2 * n) ≡ count_ones n
ones-double n =
    let half : 2 * n / 2 ≡ n = omega arith in
    let low : 2 * n % 2 ≡ 0 = omega arith in
    ones_step (2 * n) ∙ ap (λ x. 2 * n % 2 + count_ones x) half ∙ omega arith

ones-four : (n : ℕ) → count_ones (4 * n) ≡ count_ones n
ones-four n = ap count_ones (let twice : 4 * n ≡ 2 * (2 * n) = omega arith in twice) ∙ ones-double (2 * n) ∙ ones-double n

-- the alignment of a vector is a power of two exactly if the width of its scalars is
pub power_of_vector : (size : VectorSize) (n : ℕ) → is_power_of_two (vector_alignment size * n) ≡ is_power_of_two n
power_of_vector Bi n = ap (λ k. k == 1) (ones-double n)
power_of_vector Tri n = ap (λ k. k == 1) (ones-four n)
power_of_vector Quad n = ap (λ k. k == 1) (ones-four n)

-- 1 is a power of two
pub power_of_one : is_power_of_two 1 ≡ true
unfolding ones
power_of_one = refl

-- of two powers of two the greater is a multiple of the less
pub power-divides : (a b : ℕ) → is_power_of_two a ≡ true → is_power_of_two b ≡ true → a ≤ b → b % a ≡ 0
power-divides a b p q below = by (power_found a p) (power_found b q)
  where
    by : IsPowerOfTwo a → IsPowerOfTwo b → b % a ≡ 0
    by x y = ⊎_elim (λ (h : y.0 < x.0). absurd (omega (arith, x.1, y.1, below, pow_below y.0 x.0 h))) multiple (cases_lt y.0 x.0)
      where
        multiple : x.0 ≤ y.0 → b % a ≡ 0
        multiple h =
            let apart : y.0 ≡ x.0 + (y.0 - x.0) = omega (arith, h) in
            let whole : b ≡ a * 2 ^ (y.0 - x.0) = y.1 ∙ ap (λ k. 2 ^ k) apart ∙ pow-add 2 x.0 (y.0 - x.0) ∙ ap (λ n. n * 2 ^ (y.0 - x.0)) (sym x.1) in
            ap (λ n. n % a) whole ∙ mul-mod_right a (2 ^ (y.0 - x.0))

-- a power of two is at least 1
pub power-positive : (a : ℕ) → is_power_of_two a ≡ true → 1 ≤ a
power-positive a p = let found = power_found a p in omega (arith, found.1, pow_pos found.0)
