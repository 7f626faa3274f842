-- Small sets of slots, their runs, and how they are shown.
use Rattle.std.proofs.Common.{◌≡◌, ℕ, List, [], ◌∷◌, map, refl}
use Rattle.std.specs.Fmt.{digits}
use Rattle.std.specs.Prelude.{codes}
use Rattle.naga_immediates.specs.SlotText.{Run, runs, slot_text}
use Rattle.naga_immediates.specs.declared.immediates.ImmediateSlots.{ImmediateSlots}

-- a set, its runs and its text
pub record Row : Type 0 where
  pub slots : ImmediateSlots
  pub runs : List Run
  pub text : List ℕ

abbrev row : ℕ → List Run → List ℕ → Row
row raw runs text = record { slots = record { 0 = raw }; runs = runs; text = text }

-- the slots from one to before another
abbrev run : ℕ → ℕ → Run
run first end = record { first = first; end = end }

-- no slot, one, two that touch, two apart, and slot 63
abbrev rows : List Row
rows =
    row 0 [] (codes "(none)")
    ∷ row 1 (run 0 1 ∷ []) (codes "0..4")
    ∷ row 3 (run 0 2 ∷ []) (codes "0..8")
    ∷ row 5 (run 0 1 ∷ run 2 3 ∷ []) (codes "0..4, 8..12")
    ∷ row 9223372036854775808 (run 63 64 ∷ []) (codes "252..256")
    ∷ []

pub have-runs : map (λ (r : Row). runs r.slots) rows ≡ map (λ (r : Row). r.runs) rows
have-runs = refl

pub are-shown : map (λ (r : Row). slot_text r.slots) rows ≡ map (λ (r : Row). r.text) rows
unfolding digits
are-shown = refl
