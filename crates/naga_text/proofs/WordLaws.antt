-- The reader of a word returns the one value with that word.
use Rattle.std.proofs.Common.{◌≡◌, ◌==◌, ℕ, ◌<◌, ◌≤◌, zero, suc, true, false, List, [], ◌∷◌, Option, None, Some, refl, sym, ap, ◌∙◌, subst, codes, bytes_eq, inl, inr, arith, length, nat_lt, nat_le, ◌&&◌}
use Rattle.std.proofs.lemmas.Bool.{and_parts, cases_Bool, leb-true, ne_eqb, true≢false}
use Rattle.std.proofs.lemmas.Option.{option_and_then_some, same_Some}
use Rattle.std.proofs.lemmas.Slice.Eq.{bytes_eq-Decides}
use Rattle.std.specs.Char.{is_ascii_digit}
use Rattle.std.specs.Int.NonZero.{non_zero_u32_get}
use Rattle.std.specs.Option.{MatchOption}
use Rattle.std.specs.Str.{all_ascii_digits}
use Rattle.std.specs.declared.num.NonZeroU32.{NonZeroU32}
use borrow.Author.Tests.{eqb-true}
use Rattle.naga_arena.specs.Numbers.{largest_handle, largest_u32}
use Rattle.naga_ir.proofs.SameInner.{non_zero_same}
use Rattle.naga_ir.specs.Sizes.{components, cooperative_components}
use Rattle.naga_ir.specs.declared.types.ArraySize.{ArraySize}
use Rattle.naga_ir.specs.declared.types.ArraySize.TheVariants.{Constant, Pending, Dynamic}
use Rattle.naga_ir.specs.declared.types.CooperativeSize.{CooperativeSize}
use Rattle.naga_ir.specs.declared.types.CooperativeSize.TheVariants.{Eight, Sixteen}
use Rattle.naga_ir.specs.declared.types.VectorSize.{VectorSize}
use Rattle.naga_ir.specs.declared.types.VectorSize.TheVariants.{Bi, Tri, Quad}
use Rattle.naga_text.specs.Bytes.{letter_o, minus}
use Rattle.naga_text.specs.Words.{handle_of, largest_u16, most_digits, number_of, number_up_to, value_after}
use Rattle.naga_text.specs.Forms.{array_size_part, handle, optional, pointed_components, up_to}
use Rattle.naga_text.specs.WordForms.{◌>>=◌, array_size_of, bounded_size_of, cooperative_size_at, cooperative_size_of, count_at, count_of, optional_of, pointed_size_at, pointed_size_of, size_at, size_of}
use Rattle.naga_text.proofs.TableLaws.{by_number, by_test, passed_by}

-- a size has only its own number, and the number of each size is the number of that size
size_at_found : (n : ℕ) (size : VectorSize) → size_at n ≡ Some size → n ≡ components size
size_at_found n size h =
    let P = λ (size : VectorSize). n ≡ components size in
    by_number P (n == 2) _ _ size h (eqb-true n 2) (λ h.
    by_number P (n == 3) _ _ size h (eqb-true n 3) (λ h.
    by_number P (n == 4) _ _ size h (eqb-true n 4) (λ h. cc)))

size_at_again : (size : VectorSize) → size_at (components size) ≡ Some size
size_at_again Bi = refl
size_at_again Tri = refl
size_at_again Quad = refl

-- a size is read of a word that writes its number, and of each such word
pub size_found : (w : List ℕ) (size : VectorSize) → size_of w ≡ Some size → number_up_to 4 w ≡ Some (components size)
size_found w size h = option_and_then_some size_at (number_up_to 4 w) size h λ n e h. e ∙ ap Some (size_at_found n size h)

pub size_again : (w : List ℕ) (size : VectorSize) → number_up_to 4 w ≡ Some (components size) → size_of w ≡ Some size
size_again w size h = ap (λ n. n >>= size_at) h ∙ size_at_again size

-- the size of a value pointer is read of a word that writes its number, and of each such word
pointed_size_at_found : (n : ℕ) (size : Option VectorSize) → pointed_size_at n ≡ Some size → n ≡ pointed_components size
pointed_size_at_found n size h =
    by_number (λ (size : Option VectorSize). n ≡ pointed_components size) (n == 0) _ _ size h (eqb-true n 0) (λ h.
    option_and_then_some _ (size_at n) size h λ s e h. size_at_found n s e ∙ ap pointed_components (same_Some (Some s) size h))

pointed_size_at_again : (size : Option VectorSize) → pointed_size_at (pointed_components size) ≡ Some size
pointed_size_at_again None = refl
pointed_size_at_again (Some Bi) = refl
pointed_size_at_again (Some Tri) = refl
pointed_size_at_again (Some Quad) = refl

pub pointed_size_found : (w : List ℕ) (size : Option VectorSize) → pointed_size_of w ≡ Some size → number_up_to 4 w ≡ Some (pointed_components size)
pointed_size_found w size h = option_and_then_some pointed_size_at (number_up_to 4 w) size h λ n e h. e ∙ ap Some (pointed_size_at_found n size h)

pub pointed_size_again : (w : List ℕ) (size : Option VectorSize) → number_up_to 4 w ≡ Some (pointed_components size) → pointed_size_of w ≡ Some size
pointed_size_again w size h = ap (λ n. n >>= pointed_size_at) h ∙ pointed_size_at_again size

-- the size of a cooperative matrix is read of a word that writes its number, and of each such word
cooperative_size_at_found : (n : ℕ) (size : CooperativeSize) → cooperative_size_at n ≡ Some size → n ≡ cooperative_components size
cooperative_size_at_found n size h =
    let P = λ (size : CooperativeSize). n ≡ cooperative_components size in
    by_number P (n == 8) _ _ size h (eqb-true n 8) (λ h.
    by_number P (n == 16) _ _ size h (eqb-true n 16) (λ h. cc))

cooperative_size_at_again : (size : CooperativeSize) → cooperative_size_at (cooperative_components size) ≡ Some size
cooperative_size_at_again Eight = refl
cooperative_size_at_again Sixteen = refl

pub cooperative_size_found : (w : List ℕ) (size : CooperativeSize) → cooperative_size_of w ≡ Some size → number_up_to 16 w ≡ Some (cooperative_components size)
cooperative_size_found w size h = option_and_then_some cooperative_size_at (number_up_to 16 w) size h λ n e h. e ∙ ap Some (cooperative_size_at_found n size h)

pub cooperative_size_again : (w : List ℕ) (size : CooperativeSize) → number_up_to 16 w ≡ Some (cooperative_components size) → cooperative_size_of w ≡ Some size
cooperative_size_again w size h = ap (λ n. n >>= cooperative_size_at) h ∙ cooperative_size_at_again size

-- a count has only its own number, and the number of each count is the number of that count
count_at_found : (n : ℕ) (count : NonZeroU32) → count_at n ≡ Some count → n ≡ non_zero_u32_get count
count_at_found zero count h = cc
count_at_found (suc n) count h = ap non_zero_u32_get (same_Some _ count h)

count_at_again : (count : NonZeroU32) → count_at (non_zero_u32_get count) ≡ Some count
count_at_again count = go count.value count.ok
  where
    go : (n : ℕ) (ok : 0 < n) → count_at n ≡ Some (record { value = n; ok = ok })
    go zero ok = absurd (omega (arith, ok))
    go (suc n) ok = ap Some (non_zero_same _ _ refl)

-- a number that was tested to be no 0 is read as a count
pub counted : (count : Option NonZeroU32) (n : ℕ) → MatchOption count (n ≡ 0) (λ c. non_zero_u32_get c ≡ n) → count ≡ count_at n
counted None n h = sym (ap count_at h)
counted (Some count) n h = sym (ap count_at (sym h) ∙ count_at_again count)

-- a word that writes a number is digits, and the number is at most its limit
digits_of : (most : ℕ) (w : List ℕ) (n : ℕ) → number_up_to most w ≡ Some n → (all_ascii_digits w ≡ true) × (n ≤ most)
digits_of most w n h =
    by_test (nat_lt 0 (length w) && nat_le (length w) most_digits && all_ascii_digits w && nat_le (value_after 0 w) most) (Some (value_after 0 w)) None n h
    (λ e p.
    let tests = and_parts (nat_lt 0 (length w) && nat_le (length w) most_digits && all_ascii_digits w) (nat_le (value_after 0 w) most) e in (
      (and_parts (nat_lt 0 (length w) && nat_le (length w) most_digits) (all_ascii_digits w) tests.0).1,
      subst (λ n. n ≤ most) (same_Some (value_after 0 w) n p) (leb-true (value_after 0 w) most tests.1),
    ))
    (λ h. cc)

pub within : (most : ℕ) (w : List ℕ) (n : ℕ) → number_up_to most w ≡ Some n → n ≤ most
within most w n h = (digits_of most w n h).1

-- a word that begins with this byte, which is not a digit, writes no number
no_digit : (most byte : ℕ) (cs : List ℕ) (n : ℕ) → is_ascii_digit byte ≡ false → number_up_to most (byte ∷ cs) ≡ Some n → ⊥
no_digit most byte cs n none h = true≢false (sym (and_parts (is_ascii_digit byte) (all_ascii_digits cs) (digits_of most (byte ∷ cs) n h).0).0 ∙ none)

-- a size of an array is read of a word that writes it, and of each such word
bounded_size_found : (w : List ℕ) (size : ArraySize) → bounded_size_of w ≡ Some size → array_size_part size w
bounded_size_found [] size h = cc
bounded_size_found (c ∷ cs) size h =
    let P = λ (size : ArraySize). array_size_part size (c ∷ cs) in
    by_test (c == letter_o) _ _ size h
    (λ same h.
    option_and_then_some _ (handle_of cs) size h λ handle e h.
    subst P (same_Some (Pending handle) size h) (cs, ap (λ c. c ∷ cs) (eqb-true c letter_o same), e))
    (λ h.
    option_and_then_some _ (count_of (c ∷ cs)) size h λ count e h.
    option_and_then_some count_at (number_of (c ∷ cs)) count e λ n f e.
    subst P (same_Some (Constant count) size h) (f ∙ ap Some (count_at_found n count e)))

pub array_size_found : (w : List ℕ) (size : ArraySize) → array_size_of w ≡ Some size → array_size_part size w
array_size_found w size h =
    by_number (λ (size : ArraySize). array_size_part size w) (bytes_eq w (codes "dyn")) Dynamic (bounded_size_of w) size h (bytes_eq-Decides w (codes "dyn")).0 (bounded_size_found w size)

count_again : (w : List ℕ) (count : NonZeroU32) → number_of w ≡ Some (non_zero_u32_get count) → array_size_of w ≡ Some (Constant count)
count_again [] count h = cc
count_again (c ∷ cs) count h =
    let no_override : (c == letter_o) ≡ false = ne_eqb c letter_o (λ e. no_digit largest_u32 letter_o cs _ refl (ap (λ c. number_of (c ∷ cs)) (sym e) ∙ h)) in
    let no_word : bytes_eq (c ∷ cs) (codes "dyn") ≡ false = elim (cases_Bool (bytes_eq (c ∷ cs) (codes "dyn"))) [
      | inl e ↦ absurd (no_digit largest_u32 100 (121 ∷ 110 ∷ []) _ refl (ap number_of (sym ((bytes_eq-Decides (c ∷ cs) (codes "dyn")).0 e)) ∙ h))
      | inr e ↦ e
    ] in
    passed_by _ _ _ no_word ∙ passed_by _ _ _ no_override ∙ ap (λ n. (n >>= count_at) >>= (λ count. Some (Constant count))) h ∙ ap (λ c. c >>= (λ count. Some (Constant count))) (count_at_again count)

pub array_size_again : (w : List ℕ) (size : ArraySize) → array_size_part size w → array_size_of w ≡ Some size
array_size_again w (Constant count) h = count_again w count h
array_size_again w (Pending size) h = ap array_size_of h.1 ∙ ap (λ n. n >>= (λ size. Some (Pending size))) h.2
array_size_again w Dynamic h = ap array_size_of h

-- a value is read of a word that writes it or of a minus if there is none, and of each such word,
-- if no value is read of a minus
module _ {A : Type 0} (reader : List ℕ → Option A) where
  abbrev Writes : A → List ℕ → Type 0
  Writes a w = reader w ≡ Some a

  optional_found : (w : List ℕ) (a : Option A) → optional_of reader w ≡ Some a → optional Writes a w
  optional_found w a h =
      by_test (bytes_eq w (codes "-")) (Some None) _ a h
      (λ same h. subst (λ (a : Option A). optional Writes a w) (same_Some None a h) ((bytes_eq-Decides w (codes "-")).0 same))
      (λ h. option_and_then_some _ (reader w) a h λ value e h. subst (λ (a : Option A). optional Writes a w) (same_Some (Some value) a h) e)

  optional_again : ((a : A) → ¬ (reader (codes "-") ≡ Some a)) → (w : List ℕ) (a : Option A) → optional Writes a w → optional_of reader w ≡ Some a
  optional_again none w None h = ap (optional_of reader) h
  optional_again none w (Some a) h =
      let no_minus : bytes_eq w (codes "-") ≡ false = elim (cases_Bool (bytes_eq w (codes "-"))) [
        | inl e ↦ absurd (none a (ap reader (sym ((bytes_eq-Decides w (codes "-")).0 e)) ∙ h))
        | inr e ↦ e
      ] in
      passed_by _ _ _ no_minus ∙ ap (λ read. read >>= (λ a. Some (Some a))) h

-- a handle that may be absent is read of a word that writes it or of a minus, and of each such word
pub optional_handle_found : (w : List ℕ) (index : Option ℕ) → optional_of handle_of w ≡ Some index → optional handle index w
optional_handle_found w index h = optional_found handle_of w index h

pub optional_handle_again : (w : List ℕ) (index : Option ℕ) → optional handle index w → optional_of handle_of w ≡ Some index
optional_handle_again w index h = optional_again handle_of (λ n e. no_digit largest_handle minus [] n refl e) w index h

-- a number that may be absent is read of a word that writes it or of a minus, and of each such word
pub optional_number_found : (w : List ℕ) (n : Option ℕ) → optional_of (number_up_to largest_u16) w ≡ Some n → optional (up_to largest_u16) n w
optional_number_found w n h = optional_found (number_up_to largest_u16) w n h

pub optional_number_again : (w : List ℕ) (n : Option ℕ) → optional (up_to largest_u16) n w → optional_of (number_up_to largest_u16) w ≡ Some n
optional_number_again w n h = optional_again (number_up_to largest_u16) (λ n e. no_digit largest_u16 minus [] n refl e) w n h
