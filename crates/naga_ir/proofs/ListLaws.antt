-- Lists that grow at their end.
use Rattle.std.proofs.Common.{◌≡◌, ℕ, ◌<◌, ◌≤◌, ◌⊎◌, inl, inr, suc, zero, List, [], ◌∷◌, ◌++◌, Option, None, Some, Contains, filter_map, length, length-append, slice_get, refl, sym, ap, ◌∙◌, subst, arith, append_assoc, append-nil}
use Rattle.std.proofs.lemmas.List.Elements.{filter_map-append}
use Rattle.std.proofs.lemmas.Option.{get_or_from_slice_get, slice_get-get_or, slice_get_within}
use Rattle.std.specs.List.{cons_option}
use Rattle.naga_arena.proofs.InOrder.{get_stays}
use Rattle.naga_arena.proofs.Progress.{slice_get-seam}
use Rattle.naga_ir.specs.Distinct.{AllDistinct}

-- an item of a list that grew was there before, or is the one that came
slice_get_push : {X : Type 0} (xs : List X) (x : X) (i : ℕ) (y : X) → slice_get (xs ++ x ∷ []) i ≡ Some y → (slice_get xs i ≡ Some y) ⊎ ((i ≡ length xs) × (x ≡ y))
slice_get_push [] x zero y h = inr (refl, cc)
slice_get_push [] x (suc i) y h = cc
slice_get_push (a ∷ xs) x zero y h = inl h
slice_get_push (a ∷ xs) x (suc i) y h = elim (slice_get_push xs x i y h) [ inl p ↦ inl p | inr p ↦ inr (ap suc p.0, p.1) ]

-- an item at an index is in the list
contains_at : {X : Type 0} (xs : List X) (i : ℕ) (x : X) → slice_get xs i ≡ Some x → Contains xs x
contains_at xs i x h =
    let within : i < length xs = slice_get_within xs i x h in
    (i, within, get_or_from_slice_get xs i x x h)

-- a list of different items stays one when an item comes that is not in it
pub distinct_push : {X : Type 0} (xs : List X) (x : X) → AllDistinct xs → ¬ (Contains xs x) → AllDistinct (xs ++ x ∷ [])
distinct_push {X} xs x distinct new i j y h k = go (slice_get_push xs x i y h) (slice_get_push xs x j y k)
  where
    go : (slice_get xs i ≡ Some y) ⊎ ((i ≡ length xs) × (x ≡ y)) → (slice_get xs j ≡ Some y) ⊎ ((j ≡ length xs) × (x ≡ y)) → i ≡ j
    go (inl p) (inl q) = distinct i j y p q
    go (inl p) (inr q) = absurd (new (subst (Contains xs) (sym q.1) (contains_at xs i y p)))
    go (inr p) (inl q) = absurd (new (subst (Contains xs) (sym p.1) (contains_at xs j y q)))
    go (inr p) (inr q) = p.0 ∙ sym q.0

-- an item of a list can't come after it in a list of different items
pub distinct_once : {X : Type 0} (xs ys : List X) (x : X) → Contains xs x → ¬ (AllDistinct (xs ++ x ∷ ys))
distinct_once xs ys x present distinct =
    let at : slice_get xs present.0 ≡ Some x = slice_get-get_or xs present.0 x present.1 ∙ ap Some present.2 in
    let same = distinct present.0 (length xs) x (get_stays xs (x ∷ ys) present.0 present.1 ∙ at) (slice_get-seam xs ys x) in
    let within : present.0 < length xs = present.1 in
    omega arith

-- items, and one more if there is one
abbrev pub with_option : {A : Type 0} → List A → Option A → List A
with_option items None = items
with_option items (Some a) = items ++ a ∷ []

-- an item adds what is picked of it to what is picked
pub pick_more : {X A : Type 0} (pick : X → Option A) (xs : List X) (x : X) → filter_map pick (xs ++ x ∷ []) ≡ with_option (filter_map pick xs) (pick x)
pick_more {X} {A} pick xs x = filter_map-append pick xs (x ∷ []) ∙ go (pick x)
  where
    go : (o : Option A) → filter_map pick xs ++ cons_option o [] ≡ with_option (filter_map pick xs) o
    go None = append-nil (filter_map pick xs)
    go (Some a) = refl

-- what is picked of a list begins with what is picked of its front
pub pick_front : {X A : Type 0} (pick : X → Option A) (xs : List X) (x : X) (ys : List X) (a : A) → pick x ≡ Some a → filter_map pick (xs ++ x ∷ [] ++ ys) ≡ filter_map pick xs ++ a ∷ filter_map pick ys
pick_front pick xs x ys a h =
    filter_map-append pick (xs ++ x ∷ []) ys ∙ ap (λ l. l ++ filter_map pick ys) (pick_more pick xs x ∙ ap (with_option (filter_map pick xs)) h) ∙ append_assoc (filter_map pick xs) (a ∷ []) (filter_map pick ys)

-- if as much is picked of the front as may be, nothing more is
pub pick_too_many : {X A : Type 0} (pick : X → Option A) (most : ℕ) (xs : List X) (x : X) (ys : List X) (a : A) → pick x ≡ Some a → most ≤ length (filter_map pick xs) → ¬ (length (filter_map pick (xs ++ x ∷ [] ++ ys)) ≤ most)
pick_too_many {X} {A} pick most xs x ys a h full few =
    let long : length (filter_map pick xs ++ a ∷ filter_map pick ys) ≤ most = subst (λ (l : List A). length l ≤ most) (pick_front pick xs x ys a h) few in
    omega (arith, simp length-append at long)
