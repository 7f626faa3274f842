-- How many items words have, counted head by head.
use Rattle.std.proofs.Common.{◌≡◌, ◌+◌, ◌≤◌, ◌/◌, ℕ, zero, suc, List, [], ◌∷◌, ap, arith, drop, length, refl, subst, sym}
use Rattle.std.proofs.lemmas.List.{length-drop}
use Rattle.naga_c.specs.Options.{item_count, items_within}

-- any two numbers of steps that are enough count the same
same_count : (n k : ℕ) (words : List ℕ) → length words ≤ n → length words ≤ k → items_within n words ≡ items_within k words
same_count zero zero [] h j = refl
same_count zero (suc k) [] h j = refl
same_count (suc n) zero [] h j = refl
same_count (suc n) (suc k) [] h j = refl
same_count zero k (head ∷ rest) h j = absurd (omega arith)
same_count (suc n) zero (head ∷ rest) h j = absurd (omega arith)
same_count (suc n) (suc k) (head ∷ rest) h j =
    let shorter = length-drop (head / 256) rest in
    ap (λ (m : ℕ). 1 + m) (same_count n k (drop (head / 256) rest) (omega (arith, shorter)) (omega (arith, shorter)))

-- one item more is counted
pub counted : (left rest next : List ℕ) (head count all most : ℕ) → left ≡ head ∷ rest → next ≡ drop (head / 256) rest → (count + item_count left ≡ all) × (count + length left ≤ most)
    → (count + 1 + item_count next ≡ all) × (count + 1 + length next ≤ most)
counted left rest next head count all most is then h =
    let shorter = length-drop (head / 256) rest in
    let same : items_within (length rest) (drop (head / 256) rest) ≡ item_count (drop (head / 256) rest) = same_count (length rest) (length (drop (head / 256) rest)) (drop (head / 256) rest) (omega (arith, shorter)) (omega arith) in
    let now : count + item_count (head ∷ rest) ≡ all = subst (λ (ws : List ℕ). count + item_count ws ≡ all) is h.0 in
    let few : count + length (head ∷ rest) ≤ most = subst (λ (ws : List ℕ). count + length ws ≤ most) is h.1 in
    subst (λ (ws : List ℕ). (count + 1 + item_count ws ≡ all) × (count + 1 + length ws ≤ most)) (sym then) (omega (arith, same, now), omega (arith, shorter, few))
