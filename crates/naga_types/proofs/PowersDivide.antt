-- Powers of two divide the greater ones.
use Rattle.std.proofs.Common.{◌≡◌, ◌<◌, ◌≤◌, ◌⊎◌, ⊎_elim, inl, inr, ℕ, max, true, refl, ap, ◌∙◌, arith}
use Rattle.std.specs.Int.{is_power_of_two}
use Rattle.std.proofs.lemmas.Bool.{cases_lt}
use Rattle.std.proofs.lemmas.Nat.Gcd.{dvd_of_mod-eq-zero}
use Prim.Native.Nat.{◌∣◌}
use Rattle.naga_typing.proofs.Powers.{power-divides}
use lib.Count.{ones}

-- of two powers of two the greater is a multiple of the other
pub powers_divide : (a b : ℕ) → a ≤ b → is_power_of_two a ≡ true → is_power_of_two b ≡ true → a ∣ b
powers_divide a b below p q = dvd_of_mod-eq-zero a (power-divides a b p q below)

-- the greater of two numbers is one of them
one_of_both : (a b : ℕ) → (max a b ≡ a) ⊎ (max a b ≡ b)
one_of_both a b = ⊎_elim (λ (h : a < b). inr (omega arith)) (λ (h : b ≤ a). inl (omega arith)) (cases_lt a b)

-- the greater of two powers of two is one
pub greater_power : (a b : ℕ) → is_power_of_two a ≡ true → is_power_of_two b ≡ true → is_power_of_two (max a b) ≡ true
greater_power a b p q = ⊎_elim (λ (h : max a b ≡ a). ap is_power_of_two h ∙ p) (λ (h : max a b ≡ b). ap is_power_of_two h ∙ q) (one_of_both a b)

-- 16 is a power of two
pub power_of_16 : is_power_of_two 16 ≡ true
unfolding ones
power_of_16 = refl
