-- What holds of each of some references holds of all of them.
use Rattle.std.proofs.Common.{◌≡◌, ℕ, suc, List, [], ◌∷◌, Option, Some, None, All, Contains, map, slice_get, refl, sym, subst, option_to_list}
use Rattle.std.specs.List.{flat_map}
use Rattle.std.proofs.lemmas.List.Concat.{flat_map-cons}
use Rattle.std.proofs.lemmas.List.Elements.{All-append, All-cons, All-contains_itself, All-map, All-nil}
use Rattle.naga_ir.specs.declared.reference.Reference.{Reference}

-- what holds of each list holds of all lists together
pub all_within : {X A : Type 0} (P : A → Type 0) (f : X → List A) (xs : List X) → ((k : ℕ) (x : X) → slice_get xs k ≡ Some x → All P (f x)) → All P (flat_map f xs)
all_within P f [] each = All-nil P
all_within P f (x ∷ xs) each =
    subst (All P) (sym (flat_map-cons f x xs)) (All-append P (f x) (flat_map f xs) (each 0 x refl) (all_within P f xs (λ k y at. each (suc k) y at)))

-- what holds of an item, if there is one, holds of all of an option
pub all_of_option : {A : Type 0} (P : A → Type 0) (o : Option A) → ((a : A) → o ≡ Some a → P a) → All P (option_to_list o)
all_of_option P None h = All-nil P
all_of_option P (Some a) h = All-cons P a [] (h a refl) (All-nil P)

-- what holds of a reference to an item, if there is one, holds of all references of an option
pub all_named : (P : Reference → Type 0) (to_kind : ℕ → Reference) (o : Option ℕ) → ((a : ℕ) → o ≡ Some a → P (to_kind a)) → All P (map to_kind (option_to_list o))
all_named P to_kind o h = All-map P to_kind (option_to_list o) (all_of_option (λ a. P (to_kind a)) o h)

-- what holds of a reference to each item of a list holds of all references of the list
pub all_in : (P : Reference → Type 0) (to_kind : ℕ → Reference) (xs : List ℕ) → ((a : ℕ) → Contains xs a → P (to_kind a)) → All P (map to_kind xs)
all_in P to_kind xs h = All-map P to_kind xs (λ k d within. h _ (All-contains_itself xs k d within))
