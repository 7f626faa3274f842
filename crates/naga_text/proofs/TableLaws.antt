-- The values that tests and tables choose.
use Rattle.std.proofs.Common.{◌≡◌, ℕ, Bool as Boolean, true, false, cond, List, [], ◌∷◌, Option, Some, refl, subst, sym, bytes_eq}
use Rattle.std.proofs.lemmas.Option.{none-some, same_Some}
use Rattle.std.proofs.lemmas.Slice.Eq.{bytes_eq-Decides}
use Rattle.std.specs.List.{AllByRecursion}
use Rattle.naga_text.specs.Tables.{chosen}

-- a value that a test chose
pub by_test : {B P : Type 0} (b : Boolean) (x y : Option B) (s : B) → cond b x y ≡ Some s → (b ≡ true → x ≡ Some s → P) → (y ≡ Some s → P) → P
by_test true x y s h here there = here refl h
by_test false x y s h here there = there h

-- a value that the test of a number chose
pub by_number : {A : Type 0} (P : A → Type 0) (b : Boolean) (a : A) (rest : Option A) (s : A) → cond b (Some a) rest ≡ Some s → (b ≡ true → P a) → (rest ≡ Some s → P s) → P s
by_number P b a rest s h here there = by_test b (Some a) rest s h (λ e p. subst P (same_Some a s p) (here e)) there

-- a test that failed chose the rest
pub passed_by : {A : Type 0} (b : Boolean) (x y : A) → b ≡ false → cond b x y ≡ y
passed_by true x y h = cc
passed_by false x y h = refl

-- what holds of each row of a table holds of a word and its value
pub chosen_holds : {A : Type 0} (P : List ℕ → A → Type 0) (table : List (List ℕ × A)) (w : List ℕ) (a : A) → AllByRecursion (λ row. P row.0 row.1) table → chosen table w ≡ Some a → P w a
chosen_holds P [] w a rows h = absurd (none-some a h)
chosen_holds P (row ∷ table) w a rows h =
    by_test (bytes_eq w row.0) (Some row.1) (chosen table w) a h
    (λ same is. subst (P w) (same_Some row.1 a is) (subst (λ v. P v row.1) (sym ((bytes_eq-Decides w row.0).0 same)) rows.0))
    (chosen_holds P table w a rows.1)
