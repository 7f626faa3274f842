-- Which condition of a list is broken first.
use Rattle.std.proofs.Common.{◌≡◌, ◌∙◌, ℕ, zero, suc, List, [], ◌∷◌, Option, Some, None, get_or, refl, take}
use Rattle.std.specs.Prelude.{Ok, Err}
use Rattle.naga_types.specs.Checks.{ok_unless, first_error_or}

-- a check is passed that a condition decides
abbrev pub IsPassed : {E : Type 0} → Option E → Type 0
IsPassed o = Ok (tt {0}) ≡ ok_unless o (tt {0})

-- all checks are passed that some conditions decide
abbrev pub ArePassed : {E : Type 0} → List (Option E) → Type 0
ArePassed [] = Unit {0}
ArePassed (o ∷ os) = IsPassed o × ArePassed os

-- a condition whose check is passed leaves the result to the conditions after it
after : {A E : Type 0} (o : Option E) (rest : List (Option E)) (a : A) → IsPassed o → first_error_or (o ∷ rest) a ≡ first_error_or rest a
after None rest a h = refl
after (Some x) rest a h = cc h

-- the first condition whose check returns an error gives the result
pub broken_at : {A E : Type 0} (os : List (Option E)) (n : ℕ) (a : A) (e : E) → ArePassed (take n os) → Err e ≡ ok_unless (get_or os n None) (tt {0}) → first_error_or os a ≡ Err e
broken_at [] n a e passed h = cc h
broken_at (None ∷ os) zero a e passed h = cc h
broken_at (Some x ∷ os) zero a e passed h = cc h
broken_at (o ∷ os) (suc n) a e passed h = after o os a passed.0 ∙ broken_at os n a e passed.1 h

-- what passes all checks is granted
pub none_broken : {A E : Type 0} (os : List (Option E)) (a : A) → ArePassed os → first_error_or os a ≡ Ok a
none_broken [] a passed = refl
none_broken (o ∷ os) a passed = after o os a passed.0 ∙ none_broken os a passed.1

-- the second of two conditions decides if the first is kept
pub second_decides : {A E : Type 0} (o p : Option E) (a : A) → IsPassed o → ok_unless p a ≡ first_error_or (o ∷ p ∷ []) a
second_decides None None a h = refl
second_decides None (Some x) a h = refl
second_decides (Some y) p a h = cc h
