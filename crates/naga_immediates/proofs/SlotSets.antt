-- Sets that have exactly the slots of which something holds.
use Rattle.std.proofs.Common.{◌≡◌, ◌<◌, ◌+◌, ◌↔◌, ◌⊎◌, ⊎_elim, ℕ, Option, Some, None, MatchOption, inl, inr, sym, ap, subst, arith}
use Rattle.std.specs.Option.{unwrap_or}
use Rattle.std.specs.Int.{bit_at}
use Rattle.std.specs.Int.RustNames.{bit_or}
use Rattle.std.proofs.lemmas.Bool.{cases_lt}
use Rattle.std.proofs.lemmas.Nat.Bits.{bit_at-lt, same_from_bits}
use Rattle.naga_immediates.proofs.SlotBits.{in_both, same_bit}
use Rattle.naga_immediates.specs.Slots.{IsSetOf, SharesByte, slot_count}
use Rattle.naga_immediates.specs.declared.immediates.ImmediateSlots.{ImmediateSlots}

-- sets have the same slots if the same holds of each slot
pub exactly_too : (P Q : ℕ → Type 0) (slots : ImmediateSlots) → ((k : ℕ) → k < slot_count → P k ↔ Q k) → IsSetOf P slots → IsSetOf Q slots
exactly_too P Q slots same exactly k =
    ((λ has. let h = (exactly k).0 has in (h.0, (same k h.0).0 h.1)), λ h. (exactly k).1 (h.0, (same k h.0).1 h.1))

-- a range of more than 4294967295 bytes has the slots of the first 4294967295
all_bytes : (first size k : ℕ) → 4294967295 < size → k < slot_count → SharesByte first 4294967295 k ↔ SharesByte first size k
all_bytes first size k many within = (there, back)
  where
    there : SharesByte first 4294967295 k → SharesByte first size k
    there (byte, a, b, c, d) = (byte, a, omega arith, c, d)

    back : SharesByte first size k → SharesByte first 4294967295 k
    back (byte, a, b, c, d) = (byte, a, omega arith, c, d)

same_size : (first size size′ k : ℕ) → size ≡ size′ → SharesByte first size k ↔ SharesByte first size′ k
same_size first size size′ k e = (subst (λ n. SharesByte first n k) e, subst (λ n. SharesByte first n k) (sym e))

-- a size past 32 bits may be read as the greatest number of 32 bits
pub greatest_size : (first size : ℕ) (found : Option ℕ) (slots : ImmediateSlots) → MatchOption found (4294967295 < size) (λ n. n ≡ size)
    → IsSetOf (SharesByte first (unwrap_or found 4294967295)) slots → IsSetOf (SharesByte first size) slots
greatest_size first size None slots many = exactly_too _ _ slots (λ k within. all_bytes first size k many within)
greatest_size first size (Some n) slots is = exactly_too _ _ slots (λ k within. same_size first n size k is)

-- bytes of one range or of the next are bytes of both together
shared_by_both : (offset size more k : ℕ) → SharesByte offset (size + more) k ↔ (SharesByte offset size k ⊎ SharesByte (offset + size) more k)
shared_by_both offset size more k = (there, ⊎_elim first second)
  where
    there : SharesByte offset (size + more) k → SharesByte offset size k ⊎ SharesByte (offset + size) more k
    there (byte, a, b, c, d) = ⊎_elim (λ under. inl (byte, a, under, c, d)) (λ past. inr (byte, past, omega arith, c, d)) (cases_lt byte (offset + size))

    first : SharesByte offset size k → SharesByte offset (size + more) k
    first (byte, a, b, c, d) = (byte, a, omega arith, c, d)

    second : SharesByte (offset + size) more k → SharesByte offset (size + more) k
    second (byte, a, b, c, d) = (byte, omega arith, omega arith, c, d)

-- the slots of two ranges of which one begins where the other ends are the slots of both together
pub ranges_join : (offset size more : ℕ) (first second both : ImmediateSlots) → IsSetOf (SharesByte offset size) first → IsSetOf (SharesByte (offset + size) more) second → IsSetOf (SharesByte offset (size + more)) both
    → record { 0 = bit_or first.0 second.0 } ≡ both
ranges_join offset size more first second both one other all = ap (λ n. let slots : ImmediateSlots = record { 0 = n } in slots) (same_from_bits (bit_or first.0 second.0) both.0 same)
  where
    there : (k : ℕ) → bit_at (bit_or first.0 second.0) k ≡ 1 → bit_at both.0 k ≡ 1
    there k has =
        ⊎_elim
        (λ h. let p = (one k).0 h in (all k).1 (p.0, (shared_by_both offset size more k).1 (inl p.1)))
        (λ h. let p = (other k).0 h in (all k).1 (p.0, (shared_by_both offset size more k).1 (inr p.1)))
        ((in_both first.0 second.0 k).0 has)

    back : (k : ℕ) → bit_at both.0 k ≡ 1 → bit_at (bit_or first.0 second.0) k ≡ 1
    back k has =
        let p = (all k).0 has in
        (in_both first.0 second.0 k).1 (⊎_elim (λ h. inl ((one k).1 (p.0, h))) (λ h. inr ((other k).1 (p.0, h))) ((shared_by_both offset size more k).0 p.1))

    same : (k : ℕ) → bit_at (bit_or first.0 second.0) k ≡ bit_at both.0 k
    same k = same_bit (bit_at (bit_or first.0 second.0) k) (bit_at both.0 k) (bit_at-lt (bit_or first.0 second.0) k) (bit_at-lt both.0 k) (there k) (back k)
