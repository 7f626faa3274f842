-- What holds of all items of a list.
use Rattle.std.proofs.Common.{◌≡◌, ◌++◌, ℕ, List, [], ◌∷◌, Some, All, Contains, map, slice_get, subst, refl, arith}
use Rattle.std.proofs.lemmas.List.Elements.{All-cons, All-contains, All-contains_itself, All-nil, All-weaker, Contains-append_left, Contains-append_right}
use Rattle.std.proofs.lemmas.Option.{get_or_from_slice_get, slice_get_within}

-- what holds of all items holds of the one of an index
pub all_at : {X : Type 0} (P : X → Type 0) (xs : List X) (i : ℕ) (x : X) → All P xs → slice_get xs i ≡ Some x → P x
all_at P xs i x all at = subst P (get_or_from_slice_get xs i x x at) (all i x (slice_get_within xs i x at))

-- what holds of each item that a list has holds of all
pub all-of : {X : Type 0} (P : X → Type 0) (xs : List X) → ((x : X) → Contains xs x → P x) → All P xs
all-of P xs f = All-weaker (Contains xs) P f xs (All-contains_itself xs)

-- what holds of all items of two lists holds of all of the first
pub all-left : {X : Type 0} (P : X → Type 0) (xs ys : List X) → All P (xs ++ ys) → All P xs
all-left P xs ys all = all-of P xs (λ x h. All-contains P (xs ++ ys) x all (Contains-append_left xs ys x h))

-- what holds of all items of two lists holds of all of the second
pub all-right : {X : Type 0} (P : X → Type 0) (xs ys : List X) → All P (xs ++ ys) → All P ys
all-right P xs ys all = all-of P ys (λ x h. All-contains P (xs ++ ys) x all (Contains-append_right xs ys x h))

-- the images of all items are in the list of images
all-images : {X Y : Type 0} (f : X → Y) (xs : List X) → All (λ x. Contains (map f xs) (f x)) xs
all-images f [] = All-nil (λ x. Contains (map f []) (f x))
all-images f (x ∷ xs) =
    All-cons (λ y. Contains (map f (x ∷ xs)) (f y)) x xs (0, omega arith, refl)
    (All-weaker (λ y. Contains (map f xs) (f y)) (λ y. Contains (map f (x ∷ xs)) (f y)) (λ y h. Contains-append_right (f x ∷ []) (map f xs) (f y) h) xs (all-images f xs))

-- what a list has the other has too that is made of it item by item
pub contains-map : {X Y : Type 0} (f : X → Y) (xs : List X) (x : X) → Contains xs x → Contains (map f xs) (f x)
contains-map f xs x h = All-contains (λ y. Contains (map f xs) (f y)) xs x (all-images f xs) h

-- what holds of all that is made of a list holds so of its items
pub all-unmap : {X Y : Type 0} (P : Y → Type 0) (f : X → Y) (xs : List X) → All P (map f xs) → All (λ x. P (f x)) xs
all-unmap P f xs all = all-of (λ x. P (f x)) xs (λ x h. All-contains P (map f xs) (f x) all (contains-map f xs x h))
