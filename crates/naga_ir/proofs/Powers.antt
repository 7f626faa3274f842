-- A number of which one bit is set is a power of two.
use Rattle.std.proofs.Common.{◌≡◌, ℕ, zero, suc, ◌+◌, ◌/◌, ◌%◌, ◌≤◌, true, count_ones, refl, sym, ap, ◌∙◌, arith}
use Rattle.std.specs.Int.{IsPowerOfTwo, is_power_of_two}
use Rattle.std.proofs.lemmas.Nat.{zero_from_ones}
use Rattle.std.proofs.Math.Nat.{pow-suc}
use borrow.Author.Tests.{eqb-true}
use lib.Count.{ones, ones_step}

by_digit : (n d : ℕ) → n % 2 ≡ d → d + count_ones (n / 2) ≡ 1 → (count_ones (n / 2) ≡ 1 → IsPowerOfTwo (n / 2)) → IsPowerOfTwo n
by_digit n zero is rest half =
    let p = half (omega arith) in
    (suc p.0, omega (arith, p.1, pow-suc 2 p.0))
by_digit n (suc d) is rest half = let none = zero_from_ones (n / 2) (omega arith) in (0, omega arith)

one_bit : (fuel n : ℕ) → n ≤ fuel → count_ones n ≡ 1 → IsPowerOfTwo n
unfolding ones
one_bit zero n h one = let none : n ≡ 0 = omega arith in let nothing : count_ones 0 ≡ 0 = refl in absurd (omega (arith, ap count_ones none))
one_bit (suc fuel) n h one =
    by_digit n (n % 2) refl (sym (ones_step n) ∙ one) (λ half. one_bit fuel (n / 2) (omega arith) half)

pub power_found : (n : ℕ) → is_power_of_two n ≡ true → IsPowerOfTwo n
power_found n h = one_bit n n (omega arith) (eqb-true (count_ones n) 1 h)
