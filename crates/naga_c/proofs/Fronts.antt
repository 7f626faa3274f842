-- Lists that are written from their beginning on.
use Rattle.std.proofs.Common.{◌≡◌, ℕ, ◌+◌, ◌<◌, zero, suc, List, [], ◌∷◌, ◌++◌, Some, add-one, ap, arith, drop, length, slice_get, slice_set, sym, take, ◌∙◌}
use Rattle.std.proofs.lemmas.List.{take_all}
use Rattle.std.proofs.lemmas.Option.{none-some, same_Some}

-- once the element at an index is written, one more of them is
front_suc : {A : Type 0} (all old : List A) (i : ℕ) (v : A) → slice_get all i ≡ Some v → i < length old → slice_set (take i all ++ drop i old) i v ≡ take (suc i) all ++ drop (suc i) old
front_suc [] old i v h lt = absurd (none-some v h)
front_suc (a ∷ all) [] i v h lt = absurd (omega (arith, lt))
front_suc (a ∷ all) (o ∷ old) zero v h lt = ap (λ x. x ∷ old) (sym (same_Some a v h))
front_suc (a ∷ all) (o ∷ old) (suc i) v h lt = ap (λ xs. a ∷ xs) (front_suc all old i v h (omega (arith, lt)))

-- once the element at an index is written, one more of them is
pub front_more : {A : Type 0} (all old : List A) (i : ℕ) (v : A) → slice_get all i ≡ Some v → i < length old → slice_set (take i all ++ drop i old) i v ≡ take (i + 1) all ++ drop (i + 1) old
front_more all old i v h lt = rw add-one (front_suc all old i v h lt)

-- once all of them are written, the list begins with them
pub front_whole : {A : Type 0} (all old : List A) (i : ℕ) → i ≡ length all → take i all ++ drop i old ≡ all ++ drop (length all) old
front_whole all old i e = ap (λ n. take n all ++ drop n old) e ∙ ap (λ front. front ++ drop (length all) old) (take_all (length all) all (omega arith))
