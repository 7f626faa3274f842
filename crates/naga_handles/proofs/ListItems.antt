-- What holds of all items of lists that are made from others.
use Rattle.std.proofs.Common.{◌≡◌, ◌∙◌, ◌+◌, ℕ, zero, suc, List, [], ◌∷◌, Some, All, Contains, ap, slice_get, subst, refl, arith}
use Rattle.std.specs.List.{enumerate_from, flat_map}
use Rattle.std.proofs.lemmas.List.Elements.{All-append, All-contains, All-cons, All-nil, All-tail, Contains-append_right}
use Rattle.std.proofs.lemmas.Option.{same_Some}
use Rattle.naga_arena.proofs.Elements.{all-of}
use Rattle.naga_ir.proofs.ReferencesOfItems.{within_all}

-- what holds of all that the items of a list give
pub all-flat : {X Y : Type 0} (P : Y → Type 0) (f : X → List Y) (xs : List X) → All (λ x. All P (f x)) xs → All P (flat_map f xs)
all-flat P f [] all = All-nil P
all-flat P f (x ∷ xs) all = All-append P (f x) (flat_map f xs) (All-contains (λ y. All P (f y)) (x ∷ xs) x all (0, omega arith, refl)) (all-flat P f xs (All-tail (λ y. All P (f y)) x xs all))

-- what holds of all that the items of a list give holds of all that one of them gives
pub all-unflat : {X Y : Type 0} (P : Y → Type 0) (f : X → List Y) (xs : List X) (k : ℕ) (x : X) → slice_get xs k ≡ Some x → All P (flat_map f xs) → All P (f x)
all-unflat P f xs k x at all = all-of P (f x) (λ y h. All-contains P (flat_map f xs) y all (within_all f xs k x y at h))

-- what holds of the item of each index holds of all
pub all-places : {X : Type 0} (P : X → Type 0) (xs : List X) → ((k : ℕ) (x : X) → slice_get xs k ≡ Some x → P x) → All P xs
all-places P [] f = All-nil P
all-places P (x ∷ xs) f = All-cons P x xs (f 0 x refl) (all-places P xs (λ k y at. f (suc k) y at))

-- what holds of each item, with its index from `n` on, holds of all
from-places : {X : Type 0} (P : ℕ × X → Type 0) (n : ℕ) (xs : List X) → ((k : ℕ) (x : X) → slice_get xs k ≡ Some x → P (n + k, x)) → All P (enumerate_from n xs)
from-places P n [] f = All-nil P
from-places P n (x ∷ xs) f =
    let zero_more : n + 0 ≡ n = omega arith in
    All-cons P (n, x) (enumerate_from (n + 1) xs) (subst (λ k. P (k, x)) zero_more (f 0 x refl))
    (from-places P (n + 1) xs (λ k y at. let one_more : n + suc k ≡ (n + 1) + k = omega arith in subst (λ j. P (j, y)) one_more (f (suc k) y at)))

-- what holds of each item with its index
pub all-enumerated : {X : Type 0} (P : ℕ × X → Type 0) (xs : List X) → ((k : ℕ) (x : X) → slice_get xs k ≡ Some x → P (k, x)) → All P (enumerate_from 0 xs)
all-enumerated P xs f = from-places P 0 xs (λ k x at. let none_more : k ≡ 0 + k = omega arith in subst (λ j. P (j, x)) none_more (f k x at))

-- an item that is counted from a number on
at-place : {X : Type 0} (n : ℕ) (xs : List X) (k : ℕ) (x : X) → slice_get xs k ≡ Some x → slice_get (enumerate_from n xs) k ≡ Some (n + k, x)
at-place n [] k x at = cc
at-place n (y ∷ xs) zero x at = let zero_more : n ≡ n + 0 = omega arith in ap (λ z. Some (n, z)) (same_Some y x at) ∙ ap (λ k. Some (k, x)) zero_more
at-place n (y ∷ xs) (suc k) x at = let one_more : (n + 1) + k ≡ n + suc k = omega arith in at-place (n + 1) xs k x at ∙ ap (λ j. Some (j, x)) one_more

-- an item with its index
pub enumerated : {X : Type 0} (xs : List X) (k : ℕ) (x : X) → slice_get xs k ≡ Some x → slice_get (enumerate_from 0 xs) k ≡ Some (k, x)
enumerated xs k x at = let none_more : 0 + k ≡ k = omega arith in at-place 0 xs k x at ∙ ap (λ j. Some (j, x)) none_more

-- the item of an index is in the list
pub contains-at : {X : Type 0} (xs : List X) (k : ℕ) (x : X) → slice_get xs k ≡ Some x → Contains xs x
contains-at [] k x at = cc
contains-at (y ∷ ys) zero x at = subst (Contains (y ∷ ys)) (same_Some y x at) (0, omega arith, refl)
contains-at (y ∷ ys) (suc k) x at = Contains-append_right (y ∷ []) ys x (contains-at ys k x at)
