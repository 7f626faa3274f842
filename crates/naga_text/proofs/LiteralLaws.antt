-- The reader of a literal returns the one literal with its two words.
use Rattle.std.proofs.Common.{◌≡◌, ◌==◌, ℕ, ◌≤◌, zero, suc, true, false, List, [], ◌∷◌, Option, None, Some, cond, refl, ap, ◌∙◌, subst, codes, arith}
use Rattle.std.proofs.lemmas.Option.{none-some, option_and_then_some, same_Some}
use Rattle.std.specs.List.{AllByRecursion}
use Rattle.std.specs.Option.{option_map}
use Rattle.naga_arena.specs.Numbers.{largest_u32, largest_u64}
use Rattle.naga_ir.specs.declared.expression.Expression.TheVariants as expr
use Rattle.naga_ir.specs.declared.expression.Literal.{Literal}
use Rattle.naga_ir.specs.declared.expression.Literal.TheVariants.{F64, F32, F16, U16, I16, U32, I32, U64, I64, Bool, AbstractInt, AbstractFloat}
use Rattle.naga_text.specs.Forms.{Matches, literal_form}
use Rattle.naga_text.specs.Tables.{chosen}
use Rattle.naga_text.specs.Words.{integer_up_to, largest_i16, largest_i32, largest_i64, largest_u16, number_up_to}
use Rattle.naga_text.specs.ExpressionReaders.{literal_expression_of, literal_of, literal_readers}
use Rattle.naga_text.proofs.PartLaws.{HoldsFilled, by_parts}
use Rattle.naga_text.proofs.TableLaws.{chosen_holds}
use Rattle.naga_text.proofs.WordLaws.{within}

-- what a reader reads of a value's word has the form of a literal of this type
abbrev HasForm : List ℕ → (List ℕ → Option Literal) → Type 0
HasForm ty reader = (w : List ℕ) (l : Literal) → reader w ≡ Some l → Matches (literal_form l) (ty ∷ w ∷ [])

-- what holds of each literal that is made of a value that was read holds of the one that was made
made : {V : Type 0} (make : V → Literal) (read : Option V) (P : Literal → Type 0) (l : Literal) → option_map make read ≡ Some l → ((v : V) → read ≡ Some v → P (make v)) → P l
made make None P l h each = absurd (none-some l h)
made make (Some v) P l h each = subst P (same_Some (make v) l h) (each v refl)

-- a reader that makes literals of values has their form
of_value : {V : Type 0} (ty : List ℕ) (make : V → Literal) (reader : List ℕ → Option V) → ((w : List ℕ) (v : V) → reader w ≡ Some v → Matches (literal_form (make v)) (ty ∷ w ∷ [])) → HasForm ty (λ w. option_map make (reader w))
of_value ty make reader filled w l h = made make (reader w) (λ l. Matches (literal_form l) (ty ∷ w ∷ [])) l h (filled w)

-- a number up to 1 is the number of its bool
bit_of : (n : ℕ) → n ≤ 1 → n ≡ cond (n == 1) 1 0
bit_of zero h = refl
bit_of (suc zero) h = refl
bit_of (suc (suc n)) h = absurd (omega (arith, h))

i16_found : HasForm (codes "i16") (λ w. option_map I16 (integer_up_to largest_i16 w))
i16_found = of_value (codes "i16") I16 (integer_up_to largest_i16) (λ w v e. (refl, (e, tt)))

u16_found : HasForm (codes "u16") (λ w. option_map U16 (number_up_to largest_u16 w))
u16_found = of_value (codes "u16") U16 (number_up_to largest_u16) (λ w v e. (refl, (e, tt)))

i32_found : HasForm (codes "i32") (λ w. option_map I32 (integer_up_to largest_i32 w))
i32_found = of_value (codes "i32") I32 (integer_up_to largest_i32) (λ w v e. (refl, (e, tt)))

u32_found : HasForm (codes "u32") (λ w. option_map U32 (number_up_to largest_u32 w))
u32_found = of_value (codes "u32") U32 (number_up_to largest_u32) (λ w v e. (refl, (e, tt)))

i64_found : HasForm (codes "i64") (λ w. option_map I64 (integer_up_to largest_i64 w))
i64_found = of_value (codes "i64") I64 (integer_up_to largest_i64) (λ w v e. (refl, (e, tt)))

u64_found : HasForm (codes "u64") (λ w. option_map U64 (number_up_to largest_u64 w))
u64_found = of_value (codes "u64") U64 (number_up_to largest_u64) (λ w v e. (refl, (e, tt)))

f16_found : HasForm (codes "f16") (λ w. option_map F16 (number_up_to largest_u16 w))
f16_found = of_value (codes "f16") F16 (number_up_to largest_u16) (λ w v e. (refl, (e, tt)))

f32_found : HasForm (codes "f32") (λ w. option_map F32 (number_up_to largest_u32 w))
f32_found = of_value (codes "f32") F32 (number_up_to largest_u32) (λ w v e. (refl, (e, tt)))

f64_found : HasForm (codes "f64") (λ w. option_map F64 (number_up_to largest_u64 w))
f64_found = of_value (codes "f64") F64 (number_up_to largest_u64) (λ w v e. (refl, (e, tt)))

bool_found : HasForm (codes "bool") (λ w. option_map (λ n. Bool (n == 1)) (number_up_to 1 w))
bool_found = of_value (codes "bool") (λ n. Bool (n == 1)) (number_up_to 1) (λ w n e. (refl, (e ∙ ap Some (bit_of n (within 1 w n e)), tt)))

aint_found : HasForm (codes "aint") (λ w. option_map AbstractInt (integer_up_to largest_i64 w))
aint_found = of_value (codes "aint") AbstractInt (integer_up_to largest_i64) (λ w v e. (refl, (e, tt)))

afloat_found : HasForm (codes "afloat") (λ w. option_map AbstractFloat (number_up_to largest_u64 w))
afloat_found = of_value (codes "afloat") AbstractFloat (number_up_to largest_u64) (λ w v e. (refl, (e, tt)))

-- what is read of two words is a literal of this form
pub literal_found : (t v : List ℕ) (l : Literal) → literal_of t v ≡ Some l → Matches (literal_form l) (t ∷ v ∷ [])
literal_found t v l h =
    option_and_then_some _ (chosen literal_readers t) l h λ reader e h.
    let each_row : AllByRecursion (λ row. HasForm row.0 row.1) literal_readers =
    (i16_found, (u16_found, (i32_found, (u32_found, (i64_found, (u64_found, (f16_found, (f32_found, (f64_found, (bool_found, (aint_found, (afloat_found, tt)))))))))))) in
    chosen_holds HasForm literal_readers t reader each_row e v l h

-- words that fill the parts of a literal are read as it
filled : (l : Literal) → HoldsFilled (literal_form l) (λ ws. literal_expression_of ws ≡ Some (expr.Literal l))
filled (F64 bits) = λ t e v f. rw (e, f) refl
filled (F32 bits) = λ t e v f. rw (e, f) refl
filled (F16 bits) = λ t e v f. rw (e, f) refl
filled (U16 value) = λ t e v f. rw (e, f) refl
filled (I16 value) = λ t e v f. rw (e, f) refl
filled (U32 value) = λ t e v f. rw (e, f) refl
filled (I32 value) = λ t e v f. rw (e, f) refl
filled (U64 value) = λ t e v f. rw (e, f) refl
filled (I64 value) = λ t e v f. rw (e, f) refl
filled (Bool false) = λ t e v f. rw (e, f) refl
filled (Bool true) = λ t e v f. rw (e, f) refl
filled (AbstractInt value) = λ t e v f. rw (e, f) refl
filled (AbstractFloat bits) = λ t e v f. rw (e, f) refl

pub literal_again : (ws : List (List ℕ)) (l : Literal) → Matches (literal_form l) ws → literal_expression_of ws ≡ Some (expr.Literal l)
literal_again ws l h = by_parts (literal_form l) ws (λ ws. literal_expression_of ws ≡ Some (expr.Literal l)) h (filled l)
