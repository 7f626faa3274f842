-- Counts, which are not 0.
use Rattle.std.proofs.Common.{◌≡◌, ℕ, ◌<◌, zero, suc, Option, None, Some, refl, sym, ap, ◌∙◌, arith}
use Rattle.std.specs.Int.NonZero.{non_zero_u32_get}
use Rattle.std.specs.Option.{MatchOption}
use Rattle.std.specs.declared.num.NonZeroU32.{NonZeroU32}
use Rattle.naga_ir.proofs.SameInner.{non_zero_same}
use Rattle.naga_words.specs.Operands.{count_of}

-- a count is read of its own number
pub count_again : (count : NonZeroU32) → count_of (non_zero_u32_get count) ≡ Some count
count_again count = go count.value count.ok
  where
    go : (n : ℕ) (ok : 0 < n) → count_of n ≡ Some (record { value = n; ok = ok })
    go zero ok = absurd (omega (arith, ok))
    go (suc n) ok = ap Some (non_zero_same _ _ refl)

-- a number that was tested to be no 0 is read as a count
pub counted : (count : Option NonZeroU32) (n : ℕ) → MatchOption count (n ≡ 0) (λ c. non_zero_u32_get c ≡ n) → count ≡ count_of n
counted None n h = sym (ap count_of h)
counted (Some count) n h = sym (ap count_of (sym h) ∙ count_again count)
