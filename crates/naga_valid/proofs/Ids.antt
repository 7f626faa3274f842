-- The numbers of the overrides so far.
use Rattle.std.proofs.Common.{◌≡◌, ◌+◌, ◌<◌, ◌==◌, ◌||◌, ℕ, Bool, true, false, not, List, Option, Some, None, length, take, slice_get, unwrap_or, refl, sym, ap, ◌∙◌}
use Rattle.std.specs.List.{list_any}
use Rattle.std.specs.Option.{option_map}
use Rattle.std.proofs.Math.Bool.{or-false, or_comm}
use Rattle.std.proofs.lemmas.List.Folds.{list_any_more}
use Rattle.std.proofs.lemmas.Option.{get_or_from_slice_get, slice_get_within}
use Rattle.naga_ir.specs.declared.ir.Override.{Override}
use Rattle.naga_valid.specs.Values.{has_number, is_taken}
use Rattle.naga_valid.specs.steps.Ids.{HasNone, IsChecked, has_id}

twice : (b : Bool) → not (not b) ≡ b
twice true = refl
twice false = refl

-- the set `seen` has exactly the numbers of the first `count` overrides
pub AreNoted : List Override → ℕ → List Bool → Type 0
AreNoted overrides count seen = (id : ℕ) → has_id seen id ≡ list_any (has_number id) (take count overrides)

-- a set without numbers has exactly the numbers of no override
pub none_noted : (overrides : List Override) (seen : List Bool) → HasNone seen → AreNoted overrides 0 seen
unfolding AreNoted
none_noted overrides seen none = none

module _ (overrides : List Override) (count : ℕ) (seen : List Bool) (noted : AreNoted overrides count seen) (o : Override) (at : slice_get overrides count ≡ Some o) where
  within : count < length overrides
  within = slice_get_within overrides count o at

  more : (id : ℕ) → list_any (has_number id) (take (count + 1) overrides) ≡ (list_any (has_number id) (take count overrides) || has_number id o)
  more id = list_any_more (has_number id) overrides count o within ∙ ap (λ x. list_any (has_number id) (take count overrides) || has_number id x) (get_or_from_slice_get overrides count o o at)

  -- whether it has a number, by its own
  number-is : (id : ℕ) (own : Option ℕ) → o.id ≡ own → has_number id o ≡ unwrap_or (option_map (λ (n : ℕ). id == n) own) false
  number-is id own is = ap (λ (i : Option ℕ). unwrap_or (option_map (λ (n : ℕ). id == n) i) false) is

  -- one override more: its number is taken exactly if it was noted before
  pub one_checked : (new : List Bool) (is_duplicate : Bool) → IsChecked seen o.id new is_duplicate → (is_duplicate ≡ is_taken (take count overrides) o.id) × AreNoted overrides (count + 1) new
  unfolding AreNoted
  one_checked new is_duplicate checked = by_number o.id refl checked
    where
      by_number : (own : Option ℕ) → o.id ≡ own → IsChecked seen own new is_duplicate → (is_duplicate ≡ is_taken (take count overrides) o.id) × AreNoted overrides (count + 1) new
      by_number None is unchanged = (
        unchanged.1 ∙ sym (ap (is_taken (take count overrides)) is),
        λ id.
            let before = list_any (has_number id) (take count overrides) in
            ap (λ s. has_id s id) unchanged.0 ∙ noted id ∙ sym (more id ∙ ap (λ b. before || b) (number-is id None is) ∙ or-false before),
      )
      by_number (Some id) is inserted = (
        sym (twice is_duplicate) ∙ ap not inserted.is_new_if ∙ twice (has_id seen id) ∙ noted id ∙ sym (ap (is_taken (take count overrides)) is),
        λ other.
            let before = list_any (has_number other) (take count overrides) in
            inserted.has_both other ∙ ap (λ b. other == id || b) (noted other) ∙ or_comm (other == id) before
            ∙ sym (more other ∙ ap (λ b. before || b) (number-is other (Some id) is)),
      )
