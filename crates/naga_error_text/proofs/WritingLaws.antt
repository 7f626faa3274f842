-- Writing texts after one another.
use Rattle.std.proofs.Common.{arith, ◌≡◌, ◌∙◌, ap, sym, ℕ, List, ◌+◌, ◌-◌, ◌++◌, ◌<◌, ◌≤◌, take, drop, length, get_or, inl, inr}
use Rattle.std.proofs.lemmas.Bool.{cases_lt}
use Rattle.std.proofs.lemmas.List.{same_lists, places}
use Rattle.naga_error_text.specs.Writing.{overwritten}
use Rattle.naga_error_text.specs.steps.Writing.{written_at}

-- a buffer keeps its length
pub length_written : (at : ℕ) (text old : List ℕ) → length (written_at at text old) ≡ length old
length_written at text old = grind (arith, places)

-- a buffer keeps what comes before the text
pub before : (at : ℕ) (text old : List ℕ) (k d : ℕ) → k < at → k < length old → get_or (written_at at text old) k d ≡ get_or old k d
before at text old k d h l = grind (arith, places)

-- a buffer has the text in its place
pub within : (at : ℕ) (text old : List ℕ) (k d : ℕ) → at ≤ k → k < at + length text → k < length old → get_or (written_at at text old) k d ≡ get_or text (k - at) d
within at text old k d h i l = grind (arith, places)

-- a buffer keeps what comes after the text
pub past : (at : ℕ) (text old : List ℕ) (k d : ℕ) → at + length text ≤ k → k < length old → get_or (written_at at text old) k d ≡ get_or old k d
past at text old k d h l = grind (arith, places)

-- the same elements of both, by where `k` is
same_elements : (at : ℕ) (text more old : List ℕ) (k d : ℕ) → k < length old → get_or (written_at (at + length text) more (written_at at text old)) k d ≡ get_or (written_at at (text ++ more) old) k d
same_elements at text more old k d l =
    let kept : k < length (written_at at text old) = grind (arith, l, length_written at text old) in
    elim (cases_lt k (at + length text)) as (λ _. get_or (written_at (at + length text) more (written_at at text old)) k d ≡ get_or (written_at at (text ++ more) old) k d) [
      | inl h ↦ before (at + length text) more (written_at at text old) k d h kept ∙ elim (cases_lt k at) as (λ _. get_or (written_at at text old) k d ≡ get_or (written_at at (text ++ more) old) k d) [
        | inl i ↦ before at text old k d i l ∙ sym (before at (text ++ more) old k d i l)
        | inr i ↦ within at text old k d i h l ∙ grind (arith, places) ∙ sym (within at (text ++ more) old k d i (grind (arith, h, places)) l)
      ]
      | inr h ↦ elim (cases_lt k (at + length text + length more)) as (λ _. get_or (written_at (at + length text) more (written_at at text old)) k d ≡ get_or (written_at at (text ++ more) old) k d) [
        | inl i ↦ within (at + length text) more (written_at at text old) k d h i kept ∙ grind (arith, places) ∙ sym (within at (text ++ more) old k d (grind (arith, h)) (grind (arith, i, places)) l)
        | inr i ↦ past (at + length text) more (written_at at text old) k d i kept ∙ past at text old k d h l ∙ sym (past at (text ++ more) old k d (grind (arith, i, places)) l)
      ]
    ]

-- a text that is written after another one leaves what both leave together
pub written_after : (at : ℕ) (text more old : List ℕ) → written_at (at + length text) more (written_at at text old) ≡ written_at at (text ++ more) old
written_after at text more old =
    let lengths : length (written_at (at + length text) more (written_at at text old)) ≡ length old = length_written (at + length text) more (written_at at text old) ∙ length_written at text old in
    same_lists _ _ (lengths ∙ sym (length_written at (text ++ more) old)) (λ k d h. same_elements at text more old k d (grind (arith, h, lengths)))

-- the first words of a text that is left were written at `at`, so the rest makes the whole text at `next`
pub written_step : (at start next : ℕ) (words rest left whole old new first : List ℕ) → next ≡ at + length words → new ≡ written_at at words old → left ≡ words ++ rest → (at + length left ≡ start + length whole) × (written_at at left old ≡ written_at start whole first) → (next + length rest ≡ start + length whole) × (written_at next rest new ≡ written_at start whole first)
written_step at start next words rest left whole old new first place bytes split h = (
  grind (arith, place, split, h.0, places),
  ap (λ n. written_at n rest new) place ∙ ap (λ w. written_at (at + length words) rest w) bytes ∙ written_after at words rest old ∙ ap (λ w. written_at at w old) (sym split) ∙ h.1,
)

-- nothing comes before the first place
pub from_zero : (n : ℕ) → 0 + n ≡ n
from_zero n = omega arith

-- a text that is written at the first place
written_first : (text old : List ℕ) → written_at 0 text old ≡ overwritten text old
written_first text old =
    let room : length old - 0 ≡ length old = omega arith in
    ap (λ n. take n text ++ drop (0 + length text) old) room ∙ ap (λ n. take (length old) text ++ drop n old) (from_zero (length text))

-- a text that is written at the first place is the whole text
pub written_all : (text whole old new : List ℕ) → text ≡ whole → new ≡ written_at 0 text old → new ≡ overwritten whole old
written_all text whole old new same bytes = bytes ∙ written_first text old ∙ ap (λ t. overwritten t old) same
