-- The greatest of some alignments, computed one item after another.
use Rattle.std.proofs.Common.{◌≡◌, ℕ, ◌+◌, ◌<◌, ◌≤◌, ⊎_elim, max, All, Contains, List, [], ◌∷◌, ◌++◌, map, length, take, get_or, refl, sym, ap, ◌∙◌, arith}
use Rattle.std.proofs.Math.Nat.{le-max_left, le-max_right, max-le, max_comm}
use Rattle.std.proofs.lemmas.Bool.{cases_lt}
use Rattle.std.proofs.lemmas.List.{map-append, take_more}
use Rattle.std.proofs.lemmas.List.Elements.{All-cons, All-nil, All-tail, All-weaker, Contains-append_right}
use Rattle.naga_typing.specs.Layout.{greatest}

max_assoc : (a b c : ℕ) → max a (max b c) ≡ max (max a b) c
max_assoc a b c =
    let left : max a b ≤ max (max a b) c = le-max_left (max a b) c in
    let below_left : a ≤ max a b = le-max_left a b in
    let below_right : b ≤ max a b = le-max_right a b in
    let right : max b c ≤ max a (max b c) = le-max_right a (max b c) in
    let inner_left : b ≤ max b c = le-max_left b c in
    let inner_right : c ≤ max b c = le-max_right b c in
    let there : max a (max b c) ≤ max (max a b) c =
    max-le (omega (arith, left, below_left)) (max-le (omega (arith, left, below_right)) (le-max_right (max a b) c)) in
    let back : max (max a b) c ≤ max a (max b c) =
    max-le (max-le (le-max_left a (max b c)) (omega (arith, right, inner_left))) (omega (arith, right, inner_right)) in
    omega (arith, there, back)

one_more : (xs : List ℕ) (a : ℕ) → greatest (xs ++ a ∷ []) ≡ max (greatest xs) a
one_more [] a = max_comm a 1
one_more (x ∷ xs) a = ap (max x) (one_more xs a) ∙ max_assoc x (greatest xs) a

-- with one more item, the greatest is the greater of the greatest so far and the alignment of the item
pub greatest_more : {X : Type 0} (f : X → ℕ) (xs : List X) (i : ℕ) (x : X) (a : ℕ) → i < length xs → x ≡ get_or xs i x → a ≡ greatest (map f (take i xs))
    → max a (f x) ≡ greatest (map f (take (i + 1) xs))
greatest_more f xs i x a h e so_far =
    ap (λ g. max g (f x)) so_far
    ∙ sym (one_more (map f (take i xs)) (f x))
    ∙ ap greatest (sym (map-append f (take i xs) (x ∷ [])))
    ∙ ap (λ y. greatest (map f (take i xs ++ y ∷ []))) e
    ∙ ap (λ ys. greatest (map f ys)) (sym (take_more xs i x h))

-- no item's number is above the greatest
pub greatest-bounds : {X : Type 0} (f : X → ℕ) (xs : List X) → All (λ x. f x ≤ greatest (map f xs)) xs
greatest-bounds f [] = All-nil (λ x. f x ≤ greatest (map f []))
greatest-bounds f (x ∷ xs) =
    let here : f x ≤ greatest (map f (x ∷ xs)) = le-max_left (f x) (greatest (map f xs)) in
    let there : greatest (map f xs) ≤ greatest (map f (x ∷ xs)) = le-max_right (f x) (greatest (map f xs)) in
    All-cons (λ y. f y ≤ greatest (map f (x ∷ xs))) x xs here
    (All-weaker (λ y. f y ≤ greatest (map f xs)) (λ y. f y ≤ greatest (map f (x ∷ xs))) (λ y below. omega (arith, below, there)) xs (greatest-bounds f xs))

-- what is at least 1 and above no item's number is not below the greatest
pub greatest-least : {X : Type 0} (f : X → ℕ) (xs : List X) (bound : ℕ) → 1 ≤ bound → All (λ x. f x ≤ bound) xs → greatest (map f xs) ≤ bound
greatest-least f [] bound unary all = unary
greatest-least f (x ∷ xs) bound unary all =
    max-le (all 0 x (omega arith)) (greatest-least f xs bound unary (All-tail (λ y. f y ≤ bound) x xs all))

-- the greatest is the number of an item, if there is one and none has a number below 1
pub greatest-among : {X : Type 0} (f : X → ℕ) (xs : List X) → 0 < length xs → All (λ x. 1 ≤ f x) xs → (x : X) × Contains xs x × (f x ≡ greatest (map f xs))
greatest-among f [] some all = absurd (omega (arith, some))
greatest-among f (x ∷ []) some all = (x, (0, omega arith, refl), omega (arith, all 0 x (omega arith)))
greatest-among f (x ∷ y ∷ xs) some all =
    let rest = greatest-among f (y ∷ xs) (omega arith) (All-tail (λ z. 1 ≤ f z) x (y ∷ xs) all) in
    ⊎_elim
    (λ (h : f x < f rest.0). (rest.0, Contains-append_right (x ∷ []) (y ∷ xs) rest.0 rest.1, omega (arith, rest.2, h)))
    (λ (h : f rest.0 ≤ f x). (x, (0, omega arith, refl), omega (arith, rest.2, h)))
    (cases_lt (f x) (f rest.0))
