-- The bits of sets of slots: of one set without another, of both, and of ranges.
use Rattle.std.proofs.Common.{◌≡◌, ◌<◌, ◌≤◌, ◌+◌, ◌-◌, ◌*◌, ◌/◌, ◌^◌, ◌↔◌, ◌⊎◌, ⊎_elim, ℕ, zero, suc, inl, inr, max, min, refl, sym, ap, subst, ◌∙◌, arith}
use Rattle.std.specs.Int.{bit_at, bit_not, w64}
use Rattle.std.specs.Int.RustNames.{bit_or}
use Rattle.std.specs.Prelude.{bit_and}
use Rattle.std.proofs.Math.Nat.{pow-le-pow_right}
use Rattle.std.proofs.lemmas.Bool.{cases_lt}
use Rattle.std.proofs.lemmas.Nat.{pow_pos}
use Rattle.std.proofs.lemmas.Nat.Bits.{bit_at-lt, bit_at-zero, bit_at_above, bit_at_and, bit_at_mask_above, bit_at_mask_below, bit_at_mask_inside, bit_at_not, bit_at_or, same_from_bits}
use Rattle.naga_immediates.specs.Slots.{SharesByte}

-- the slots of one set that aren't in another
abbrev pub without : ℕ → ℕ → ℕ
without slots others = bit_and slots (bit_not w64 others)

pub zero_not_one : ◌≡◌ {A = ℕ} 0 1 → ⊥
zero_not_one e = omega arith

-- a bit is 0 or 1
pub bit_cases : (x : ℕ) → x < 2 → (x ≡ 0) ⊎ (x ≡ 1)
bit_cases zero h = inl refl
bit_cases (suc zero) h = inr refl
bit_cases (suc (suc x)) h = absurd (omega arith)

-- two bits are the same if one is 1 exactly if the other is
pub same_bit : (x y : ℕ) → x < 2 → y < 2 → (x ≡ 1 → y ≡ 1) → (y ≡ 1 → x ≡ 1) → x ≡ y
same_bit x y h h′ there back = ⊎_elim (λ none. ⊎_elim (λ none′. none ∙ sym none′) (λ one. absurd (zero_not_one (sym none ∙ back one))) (bit_cases y h′)) (λ one. one ∙ sym (there one)) (bit_cases x h)

one_without : (x y : ℕ) → x < 2 → y < 2 → (min x (1 - y) ≡ 1) ↔ ((x ≡ 1) × ¬ (y ≡ 1))
one_without x y h h′ = (
  (λ e. (omega arith, λ e′. omega arith)),
  λ p. let h : x ≡ 1 = p.0 in ⊎_elim (λ none. omega arith) (λ one. absurd (p.1 one)) (bit_cases y h′),
)

none_of_none : (x y : ℕ) → x < 2 → (x ≡ 1 → y ≡ 1) → min x (1 - y) ≡ 0
none_of_none x y h all = ⊎_elim (λ none. omega arith) (λ one. let same : y ≡ 1 = all one in omega arith) (bit_cases x h)

one_of_both : (x y : ℕ) → x < 2 → y < 2 → (max x y ≡ 1) ↔ ((x ≡ 1) ⊎ (y ≡ 1))
one_of_both x y h h′ = (
  (λ e. ⊎_elim (λ none. inr (omega arith)) (λ one. inl one) (bit_cases x h)),
  ⊎_elim (λ e. omega arith) (λ e. omega arith),
)

module _ (a b : ℕ) (small : a < 2 ^ 64) (small′ : b < 2 ^ 64) where
  -- a slot is in one set without another if it is in the one and not in the other
  without_bit : (k : ℕ) → bit_at (without a b) k ≡ min (bit_at a k) (1 - bit_at b k)
  without_bit k = bit_at_and a (bit_not w64 b) k ∙ ⊎_elim within past (cases_lt k 64)
    where
      within : k < 64 → min (bit_at a k) (bit_at (bit_not w64 b) k) ≡ min (bit_at a k) (1 - bit_at b k)
      within h = ap (min (bit_at a k)) (bit_at_not w64 b k small′ h)

      past : 64 ≤ k → min (bit_at a k) (bit_at (bit_not w64 b) k) ≡ min (bit_at a k) (1 - bit_at b k)
      past h = let none : bit_at a k ≡ 0 = bit_at_above a 64 k small h in omega (arith, none)

  pub in_difference : (k : ℕ) → (bit_at (without a b) k ≡ 1) ↔ ((bit_at a k ≡ 1) × ¬ (bit_at b k ≡ 1))
  in_difference k =
      subst (λ n. (n ≡ 1) ↔ ((bit_at a k ≡ 1) × ¬ (bit_at b k ≡ 1))) (sym (without_bit k)) (one_without (bit_at a k) (bit_at b k) (bit_at-lt a k) (bit_at-lt b k))

  -- a set has all slots of another exactly if the other without it is empty
  pub none_without : (without a b ≡ 0) ↔ ((k : ℕ) → bit_at a k ≡ 1 → bit_at b k ≡ 1)
  none_without = (there, back)
    where
      there : without a b ≡ 0 → (k : ℕ) → bit_at a k ≡ 1 → bit_at b k ≡ 1
      there none k has =
          ⊎_elim
          (λ no. let one : bit_at (without a b) k ≡ 1 = (in_difference k).1 (has, λ yes. zero_not_one (sym no ∙ yes)) in absurd (zero_not_one (sym (bit_at-zero k) ∙ ap (λ n. bit_at n k) (sym none) ∙ one)))
          (λ one. one)
          (bit_cases (bit_at b k) (bit_at-lt b k))

      back : ((k : ℕ) → bit_at a k ≡ 1 → bit_at b k ≡ 1) → without a b ≡ 0
      back all = same_from_bits (without a b) 0 (λ k. without_bit k ∙ none_of_none (bit_at a k) (bit_at b k) (bit_at-lt a k) (all k) ∙ sym (bit_at-zero k))

-- a slot is in the union of two sets exactly if it is in one of them
pub in_both : (a b k : ℕ) → (bit_at (bit_or a b) k ≡ 1) ↔ ((bit_at a k ≡ 1) ⊎ (bit_at b k ≡ 1))
in_both a b k =
    subst (λ n. (n ≡ 1) ↔ ((bit_at a k ≡ 1) ⊎ (bit_at b k ≡ 1))) (sym (bit_at_or a b k)) (one_of_both (bit_at a k) (bit_at b k) (bit_at-lt a k) (bit_at-lt b k))

-- the slots from one to before another
in_mask : (lo hi k : ℕ) → bit_at (2 ^ hi - 2 ^ lo) k ≡ 1 → (lo ≤ k) × (k < hi)
in_mask lo hi k h = (
  ⊎_elim (λ under. absurd (none (bit_at_mask_below lo hi k under))) (λ over. over) (cases_lt k lo),
  ⊎_elim (λ under. under) (λ over. absurd (none (bit_at_mask_above lo hi k over))) (cases_lt k hi),
)
  where
    none : bit_at (2 ^ hi - 2 ^ lo) k ≡ 0 → ⊥
    none e = zero_not_one (sym e ∙ h)

-- a slot is among the slots of a range exactly if it shares a byte with the range
pub in_range : (first size k : ℕ) → 0 < size → (bit_at (2 ^ min 64 ((first + size - 1) / 4 + 1) - 2 ^ min 64 (first / 4)) k ≡ 1) ↔ ((k < 64) × SharesByte first size k)
in_range first size k some = (there, back)
  where
    there : bit_at (2 ^ min 64 ((first + size - 1) / 4 + 1) - 2 ^ min 64 (first / 4)) k ≡ 1 → (k < 64) × SharesByte first size k
    there h =
        let p : (min 64 (first / 4) ≤ k) × (k < min 64 ((first + size - 1) / 4 + 1)) = in_mask _ _ k h in
        within p.0 p.1
      where
        within : min 64 (first / 4) ≤ k → k < min 64 ((first + size - 1) / 4 + 1) → (k < 64) × SharesByte first size k
        within from to = (omega arith, (max first (4 * k), omega arith, omega arith, omega arith, omega arith))

    back : (k < 64) × SharesByte first size k → bit_at (2 ^ min 64 ((first + size - 1) / 4 + 1) - 2 ^ min 64 (first / 4)) k ≡ 1
    back (within, (byte, a, b, c, d)) = bit_at_mask_inside _ _ k (omega arith) (omega arith)

-- at least as many slots precede a later slot
pub before_grows : (i j : ℕ) → i ≤ j → 2 ^ i - 1 ≤ 2 ^ j - 1
before_grows i j h = let grows : 2 ^ i ≤ 2 ^ j = pow-le-pow_right (omega arith) h in omega arith

-- the slots before one, less those before another
pub less_before : (i j : ℕ) → (2 ^ j - 1) - (2 ^ i - 1) ≡ 2 ^ j - 2 ^ i
less_before i j = let some : 0 < 2 ^ i = pow_pos i in omega arith
