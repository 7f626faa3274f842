-- Iterating over items in their order, as far as a rule accepts them.
use Rattle.std.proofs.Common.{◌≡◌, ◌+◌, ℕ, List, [], ◌∷◌, ◌++◌, Some, All, IsOk, Ok, Err, Result, length, map, slice_get, take, refl, sym, subst, ap, ◌∙◌, length-append}
use Rattle.std.specs.List.{enumerate_from}
use Rattle.std.specs.Option.{option_map}
use Rattle.std.proofs.lemmas.List.{length-map}
use Rattle.std.proofs.lemmas.Option.{slice_get-map}
use Rattle.naga_arena.proofs.InOrder.{none_follow, one_more_follows}
use Rattle.naga_arena.proofs.Progress.{AllAccepted, Progress, accepted_before, accepted_ok, begun, ended, number, refused, stands, went_on}
use Rattle.naga_arena.specs.InOrder.{AllAcceptedInOrder, FollowInOrder, RuleInOrder, given_at}
use Rattle.naga_arena.specs.Results.{IsFirstError}

-- a rule that accepts every item
abbrev pub accepts_all : {X : Type 0} → X → Result (Unit {0}) (Unit {0})
accepts_all x = Ok tt

module _ {X E : Type 0} (accepts : X → Result (Unit {0}) E) (items : List X) where
  -- for each item whether it is accepted
  abbrev results : List (Result (Unit {0}) E)
  results = map accepts items

  -- `count` items are accepted, and `left` are left, each with its index
  pub record Iterating (count : ℕ) (left : List (ℕ × X)) : Type 0 where
    done : List (Unit {0})
    progress : Progress items results done left
    as_many : length done ≡ count

  pub begin : (left : List (ℕ × X)) → left ≡ enumerate_from 0 items → Iterating 0 left
  begin left all = record { done = []; progress = begun items results [] left refl all; as_many = refl }

  module _ (count : ℕ) (left : List (ℕ × X)) (n : ℕ) (x : X) (more : List (ℕ × X)) (w : Iterating count left) (e : left ≡ (n, x) ∷ more) where
    -- the next item is the one of the index that it comes with
    pub next_item : slice_get items n ≡ Some x
    next_item = stands items results w.done left n x more w.progress e

    -- the index of the next item is the number of the items so far
    pub next_index : n ≡ count
    next_index = number items results w.done left n x more w.progress e ∙ w.as_many

    -- the result of the next item
    pub next_result : (r : Result (Unit {0}) E) → accepts x ≡ r → slice_get results n ≡ Some r
    next_result r is = slice_get-map accepts items n ∙ ap (option_map accepts) next_item ∙ ap Some is

    -- if it is accepted, one more item is
    pub one_more : accepts x ≡ Ok tt → Iterating (count + 1) more
    one_more accepted = record {
      done = w.done ++ tt ∷ [];
      progress = went_on items results w.done left n x more tt (w.done ++ tt ∷ []) w.progress e (next_result (Ok tt) accepted) refl;
      as_many = length-append w.done (tt ∷ []) ∙ ap (λ k. k + 1) w.as_many;
    }

    -- the items before it are accepted
    pub before_accepted : All IsOk (take n results)
    before_accepted = accepted_before items results w.done left n x more w.progress e

    -- if it is refused, it is the first that is
    pub first_refused : (error : E) → accepts x ≡ Err error → IsFirstError results n error
    first_refused error is = refused items results w.done left n x more error w.progress e (next_result (Err error) is)

  module _ (count : ℕ) (left : List (ℕ × X)) (w : Iterating count left) (e : left ≡ []) where
    same : length results ≡ length items
    same = length-map items accepts

    all : AllAccepted results w.done
    all = ended items results w.done left same w.progress e

    -- if no item is left, all are accepted
    pub all_accepted : All IsOk results
    all_accepted = accepted_ok results w.done all

    -- if no item is left, `count` is the number of items
    pub all_counted : count ≡ length items
    all_counted = let ok : Unit {0} → Result (Unit {0}) E = λ u. Ok u in sym w.as_many ∙ sym (ap length all ∙ length-map w.done ok) ∙ same

module _ {X V E : Type 0} (rule : List V → X → V) (accepts : X → Result (Unit {0}) E) (items : List X) where
  -- a value for each item, by the values of those before it
  abbrev in_order : RuleInOrder X V ⊥
  in_order before k x = Ok (rule before x)

  -- the items so far are accepted and have these values, and these items are left
  pub record Computing (values : List V) (left : List (ℕ × X)) : Type 0 where
    pub iterating : Iterating accepts items (length values) left
    pub follow : FollowInOrder in_order items values

  pub start : (values : List V) (left : List (ℕ × X)) → values ≡ [] → left ≡ enumerate_from 0 items → Computing values left
  start values left none all = subst (λ v. Computing v left) (sym none) (record { iterating = begin accepts items left all; follow = none_follow in_order items [] refl })

  -- if the next item is accepted, its value is appended
  pub one_more_value : (values : List V) (left : List (ℕ × X)) (n : ℕ) (x : X) (more : List (ℕ × X)) (now : List V)
      → Computing values left → left ≡ (n, x) ∷ more → accepts x ≡ Ok tt → now ≡ values ++ rule values x ∷ [] → Computing now more
  one_more_value values left n x more now w e accepted is =
      let there : slice_get items (length values) ≡ Some x =
      ap (slice_get items) (sym (next_index accepts items (length values) left n x more w.iterating e)) ∙ next_item accepts items (length values) left n x more w.iterating e in
      let given : given_at in_order items values (length values) ≡ Some (Ok (rule values x)) = ap (option_map (in_order values (length values))) there in
      record {
        iterating =
            subst (λ k. Iterating accepts items k more) (sym (ap length is ∙ length-append values (rule values x ∷ [])))
            (one_more accepts items (length values) left n x more w.iterating e accepted);
        follow = one_more_follows in_order items values now (rule values x) w.follow given is;
      }

  -- if no item is left, these are the values of all
  pub all_values : (values : List V) (left : List (ℕ × X)) → Computing values left → left ≡ [] → AllAcceptedInOrder in_order items values
  all_values values left w e = record { as_many = all_counted accepts items (length values) left w.iterating e; follow = w.follow }
