-- The text of an error that has another one within, and of a flag.
use Rattle.std.proofs.Common.{arith, ◌≡◌, ◌∙◌, ap, sym, refl, ℕ, zero, suc, Bool, false, List, [], ◌∷◌, ◌+◌, ◌++◌, ◌==◌, Some, bit_and, get_or, if◌then◌else◌, length}
use Rattle.std.proofs.lemmas.Bool.{ne_eqb}
use Rattle.std.specs.List.{concat}
use Rattle.naga_error_text.specs.declared.errors.Error.{Error}
use Rattle.naga_error_text.specs.declared.families.Family.{Family}
use Rattle.naga_error_text.specs.declared.families.Family.TheVariants.{Stage}
use Rattle.naga_error_text.specs.declared.pieces.Values.{Values}
use Rattle.naga_error_text.specs.Errors.{cause_of, error_of, error_parts, values_within}
use Rattle.naga_error_text.specs.Flags.{flag_text, separator}
use Rattle.naga_error_text.specs.Texts.{chain_text, refusal_text, text_of, text_within}
use Rattle.naga_error_text.specs.steps.Writing.{written_at}
use Rattle.naga_error_text.proofs.WritingLaws.{written_after}

-- it is its own text and that of the error within it
pub chain_step : (numbers rest : List ℕ) (n : ℕ) (family cause : Family) (v : Values) (e : Error) (words : List ℕ) → numbers ≡ n ∷ rest → error_of family n ≡ Some e → cause_of e ≡ Some cause → words ≡ concat (error_parts e v) → chain_text numbers family v ≡ words ++ chain_text rest cause (values_within e v)
chain_step numbers rest n family cause v e words more found within own =
    ap (λ ns. chain_text ns family v) more
    ∙ ap (λ o. text_of o v (chain_text rest)) found
    ∙ ap (λ c. concat (error_parts e v) ++ text_within c (values_within e v) (chain_text rest)) within
    ∙ ap (λ w. w ++ chain_text rest cause (values_within e v)) (sym own)

-- a text that is written at `next`, after some words at `at`, makes the whole text with them
pub written_whole : (at next : ℕ) (words rest whole old new last : List ℕ) → next ≡ at + length words → new ≡ written_at at words old → last ≡ written_at next rest new → whole ≡ words ++ rest → last ≡ written_at at whole old
written_whole at next words rest whole old new last place bytes more split =
    more ∙ ap (λ n. written_at n rest new) place ∙ ap (λ b. written_at (at + length words) rest b) bytes
    ∙ written_after at words rest old ∙ ap (λ t. written_at at t old) (sym split)

-- a list of four is its elements
pub four_items : (xs : List ℕ) → length xs ≡ 4 → xs ≡ get_or xs 0 0 ∷ get_or xs 1 0 ∷ get_or xs 2 0 ∷ get_or xs 3 0 ∷ []
four_items [] h = absurd (grind (arith, h))
four_items (a ∷ []) h = absurd (grind (arith, h))
four_items (a ∷ b ∷ []) h = absurd (grind (arith, h))
four_items (a ∷ b ∷ c ∷ []) h = absurd (grind (arith, h))
four_items (a ∷ b ∷ c ∷ d ∷ []) h = refl
four_items (a ∷ b ∷ c ∷ d ∷ e ∷ xs) h = absurd (grind (arith, h))

-- a refusal at another stage than 0 is what its stage says, and then its errors
pub refusal_chain : (stage : ℕ) (errors numbers : List ℕ) (v : Values) → (stage ≡ 0 → ⊥) → numbers ≡ stage ∷ errors → chain_text numbers Stage v ≡ refusal_text stage errors v
refusal_chain zero errors numbers v some more = absurd (some refl)
refusal_chain (suc n) errors numbers v some more = ap (λ ns. chain_text ns Stage v) more

-- the second of two texts, if a condition doesn't hold
second_of : (first : Bool) (a b : List ℕ) → first ≡ false → (if first then a else b) ≡ b
second_of first a b not_first = ap (λ (c : Bool). if c then a else b) not_first

-- what the text of a set says of a flag that it has
pub flag_there : (n : ℕ) (row : ℕ × ℕ × List ℕ) → (bit_and n row.0 ≡ 0 → ⊥) → flag_text n row ≡ separator (bit_and n row.1) ++ row.2
flag_there n row there = second_of (bit_and n row.0 == 0) [] (separator (bit_and n row.1) ++ row.2) (ne_eqb (bit_and n row.0) 0 there)
