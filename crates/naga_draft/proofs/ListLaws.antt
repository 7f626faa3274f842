-- The first word of words, and those after it.
use Rattle.std.proofs.Common.{◌≡◌, ◌==◌, ◌-◌, ◌∙◌, ℕ, ◌≤◌, Bool as Boolean, true, false, List, [], ◌∷◌, ap, arith, drop, get_or, length, refl, sym, take, take_all, true≢false, eq-eqb, eqb-true}

-- words of which there is one at least are their first and those after it
pub head_and_rest : (words : List ℕ) → 1 ≤ length words → words ≡ get_or words 0 0 ∷ take (length words - 1) (drop 1 words)
head_and_rest [] h = absurd (omega (arith, h))
head_and_rest (w ∷ ws) h = ap (λ ws. w ∷ ws) (sym (take_all (length (w ∷ ws) - 1) ws (omega arith)))

-- words of which there is none are empty
pub empty_is : (words : List ℕ) (empty : Boolean) → empty ≡ (length words == 0) → empty ≡ true → words ≡ []
empty_is [] empty e h = refl
empty_is (w ∷ ws) empty e h = absurd (let n : length (w ∷ ws) ≡ 0 = eqb-true (length (w ∷ ws)) 0 (sym e ∙ h) in omega (arith, n))

-- words of which there is one are not
pub not_empty : (words : List ℕ) (empty : Boolean) → empty ≡ (length words == 0) → empty ≡ false → ¬ (words ≡ [])
not_empty words empty e h is = true≢false (sym (eq-eqb (length words) 0 (ap length is)) ∙ sym e ∙ h)
