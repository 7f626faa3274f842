-- Checks items in their order, each with its index, up to the first that is refused.
use Rattle.std.proofs.Common.{◌≡◌, ◌+◌, ℕ, zero, suc, List, [], ◌∷◌, ◌++◌, Some, All, IsOk, Ok, Err, Result, length, map, slice_get, refl, ap, ◌∙◌, arith, length-append}
use Rattle.std.specs.List.{enumerate_from}
use Rattle.std.proofs.lemmas.List.{length-map}
use Rattle.std.proofs.lemmas.List.FromFn.{length-enumerate_from}
use Rattle.std.proofs.lemmas.Option.{same_Some, slice_get_within}
use Rattle.naga_arena.proofs.Progress.{Progress, accepted_ok, begun, ended, number, refused, stands, went_on}
use Rattle.naga_arena.specs.Results.{IsFirstError}
use Rattle.naga_valid.specs.Values.{results_of}
use Rattle.naga_valid.specs.declared.error.ValidationError.{ValidationError}

-- what the rule gives for the item of an index
at-index : {X Y : Type 0} (rule : ℕ × X → Y) (items : List X) (first n : ℕ) (x : X) → slice_get items n ≡ Some x → slice_get (map rule (enumerate_from first items)) n ≡ Some (rule (first + n, x))
at-index rule [] first n x there = absurd (omega (arith, slice_get_within [] n x there))
at-index rule (y ∷ items) first zero x there =
    let here : first ≡ first + 0 = omega arith in
    ap (λ k. Some (rule (k, y))) here ∙ ap (λ z. Some (rule (first + 0, z))) (same_Some y x there)
at-index rule (y ∷ items) first (suc n) x there =
    let here : (first + 1) + n ≡ first + suc n = omega arith in
    at-index rule items (first + 1) n x there ∙ ap (λ k. Some (rule (k, x))) here

as-many : {X Y : Type 0} (rule : ℕ × X → Y) (items : List X) → length (map rule (enumerate_from 0 items)) ≡ length items
as-many rule items = length-map (enumerate_from 0 items) rule ∙ length-enumerate_from 0 items

-- what isn't an error is accepted
pub accepted_unless : {E : Type 0} (r : Result (Unit {0}) E) → ((e : E) → r ≡ Err e → ⊥) → r ≡ Ok tt
accepted_unless (Ok u) other = refl
accepted_unless (Err e) other = absurd (other e refl)

module _ {X : Type 0} (rule : ℕ × X → Result (Unit {0}) ValidationError) (items : List X) where
  -- `count` items are accepted, and `left` are left, each with its index
  pub record Checks (count : ℕ) (left : List (ℕ × X)) : Type 0 where
    done : List (Unit {0})
    progress : Progress items (results_of rule items) done left
    as_many_done : length done ≡ count

  pub begin : (left : List (ℕ × X)) → left ≡ enumerate_from 0 items → Checks 0 left
  begin left all = record { done = []; progress = begun items (results_of rule items) [] left refl all; as_many_done = refl }

  module _ (count : ℕ) (left : List (ℕ × X)) (n : ℕ) (x : X) (more : List (ℕ × X)) (w : Checks count left) (e : left ≡ (n, x) ∷ more) where
    -- the next item is the one of the index that it comes with
    pub next_item : slice_get items n ≡ Some x
    next_item = stands items (results_of rule items) w.done left n x more w.progress e

    -- the index of the next item is the number of the items so far
    pub next_index : n ≡ count
    next_index = number items (results_of rule items) w.done left n x more w.progress e ∙ w.as_many_done

    result-is : (r : Result (Unit {0}) ValidationError) → rule (n, x) ≡ r → slice_get (results_of rule items) n ≡ Some r
    result-is r is = let here : 0 + n ≡ n = omega arith in at-index rule items 0 n x next_item ∙ ap (λ k. Some (rule (k, x))) here ∙ ap Some is

    -- one more item is accepted
    pub one_more : rule (n, x) ≡ Ok tt → Checks (count + 1) more
    one_more accepted = record {
      done = w.done ++ tt ∷ [];
      progress = went_on items (results_of rule items) w.done left n x more tt (w.done ++ tt ∷ []) w.progress e (result-is (Ok tt) accepted) refl;
      as_many_done = length-append w.done (tt ∷ []) ∙ ap (λ k. k + 1) w.as_many_done;
    }

    -- the next item is the first that is refused
    pub first_refused : (error : ValidationError) → rule (n, x) ≡ Err error → IsFirstError (results_of rule items) n error
    first_refused error is = refused items (results_of rule items) w.done left n x more error w.progress e (result-is (Err error) is)

  -- no item is left, so all are accepted
  pub all_accepted : (count : ℕ) (left : List (ℕ × X)) → Checks count left → left ≡ [] → All IsOk (results_of rule items)
  all_accepted count left w e = accepted_ok (results_of rule items) w.done (ended items (results_of rule items) w.done left (as-many rule items) w.progress e)
