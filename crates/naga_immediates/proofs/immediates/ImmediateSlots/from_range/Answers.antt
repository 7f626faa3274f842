use Rattle.std.proofs.Common.{◌≡◌, ◌≤◌, ◌<◌, ◌+◌, ◌-◌, ◌/◌, ◌^◌, ◌↔◌, ℕ, min, ap, subst, sym, ◌∙◌, arith}
use Rattle.std.specs.Int.{bit_at}
use Rattle.naga_immediates.proofs.SlotBits.{before_grows, in_range, less_before}
use Rattle.naga_immediates.specs.Slots.{IsSetOf, SharesByte, slot_count}
use Rattle.naga_immediates.proofs.immediates.ImmediateSlots.from_range.Goals as goal

module _ (offset size first end a b : ℕ) (is_a : a ≡ offset) (is_b : b ≡ size) (is_end : end ≡ 2 ^ min 64 ((a + b - 1) / 4 + 1) - 1) (is_first : first ≡ 2 ^ min 64 (a / 4) - 1) where
  end_is : end ≡ 2 ^ min 64 ((offset + size - 1) / 4 + 1) - 1
  end_is = is_end ∙ ap (λ n. 2 ^ min 64 ((n + b - 1) / 4 + 1) - 1) is_a ∙ ap (λ n. 2 ^ min 64 ((offset + n - 1) / 4 + 1) - 1) is_b

  first_is : first ≡ 2 ^ min 64 (offset / 4) - 1
  first_is = is_first ∙ ap (λ n. 2 ^ min 64 (n / 4) - 1) is_a

  in_order : 0 < size → first ≤ end
  in_order some =
      let more : 2 ^ min 64 (offset / 4) - 1 ≤ 2 ^ min 64 ((offset + size - 1) / 4 + 1) - 1 = before_grows (min 64 (offset / 4)) (min 64 ((offset + size - 1) / 4 + 1)) (omega arith) in
      subst (λ n. n ≤ end) (sym first_is) (subst (λ n. 2 ^ min 64 (offset / 4) - 1 ≤ n) (sym end_is) more)

  bits_are : end - first ≡ 2 ^ min 64 ((offset + size - 1) / 4 + 1) - 2 ^ min 64 (offset / 4)
  bits_are = ap (λ n. n - first) end_is ∙ ap (λ n. (2 ^ min 64 ((offset + size - 1) / 4 + 1) - 1) - n) first_is ∙ less_before (min 64 (offset / 4)) (min 64 ((offset + size - 1) / 4 + 1))

  slots_are : 0 < size → IsSetOf (SharesByte offset size) (record { 0 = end - first })
  slots_are some k = subst (λ n. (bit_at n k ≡ 1) ↔ ((k < slot_count) × SharesByte offset size k)) (sym bits_are) (in_range offset size k some)

pub overflow_sub-result : goal.overflow_sub-result
overflow_sub-result c = in_order _ _ _ _ _ _ c.from-first.ensures c.from.ensures c.below.ensures c.below-2.ensures (omega arith)

pub returns : goal.returns
returns c = slots_are _ _ _ _ _ _ c.from-first.ensures c.from.ensures c.below.ensures c.below-2.ensures (omega arith)
