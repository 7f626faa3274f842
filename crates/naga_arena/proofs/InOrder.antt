-- Values that a rule gives in order are the only ones.
use Rattle.std.proofs.Common.{◌≡◌, ◌<◌, ◌≤◌, ⊎_elim, ℕ, zero, suc, List, [], ◌∷◌, ◌++◌, Option, Some, None, Ok, Err, Result, get_or, length, slice_get, take, refl, sym, ap, ◌∙◌, arith, length-append}
use Rattle.std.proofs.Math.Nat.{eq-or-lt_of_le}
use Rattle.std.proofs.Math.Seq.{take-suc}
use Rattle.std.proofs.lemmas.List.{take-append-le, take_all}
use Rattle.std.proofs.lemmas.Option.{same_Some, slice_get-get_or, slice_get_within}
use Rattle.naga_arena.proofs.Progress.{slice_get-seam}
use Rattle.naga_arena.specs.InOrder.{AllAcceptedInOrder, FollowInOrder, IsFirstErrorInOrder, RuleInOrder, given_at}

-- an item of a list keeps its index when the list grows
pub get_stays : {V : Type 0} (values more : List V) (k : ℕ) → k < length values → slice_get (values ++ more) k ≡ slice_get values k
get_stays [] more k within = absurd (omega (arith, within))
get_stays (v ∷ values) more zero within = refl
get_stays (v ∷ values) more (suc k) within = get_stays values more k (omega (arith, within))

-- a list has an item of each index below its length
pub found_at : {A : Type 0} (xs : List A) (k : ℕ) → k < length xs → (x : A) × (slice_get xs k ≡ Some x)
found_at [] k within = absurd (omega (arith, within))
found_at (x ∷ xs) zero within = (x, refl)
found_at (x ∷ xs) (suc k) within = found_at xs k (omega (arith, within))

-- an item before an index is the same in the whole list and in the list up to that index
pub get_before : {V : Type 0} (values : List V) (n k : ℕ) → k < n → slice_get (take n values) k ≡ slice_get values k
get_before values zero k within = absurd (omega (arith, within))
get_before [] (suc n) k within = refl
get_before (v ∷ values) (suc n) zero within = refl
get_before (v ∷ values) (suc n) (suc k) within = get_before values n k (omega (arith, within))

module _ {X V E : Type 0} (rule : RuleInOrder X V E) (items : List X) where
  -- no values follow
  pub none_follow : (values : List V) → values ≡ [] → FollowInOrder rule items values
  none_follow values none k v at = absurd (omega (arith, slice_get_within values k v at, ap length none))

  -- values follow still with the next one behind them
  pub one_more_follows : (values now : List V) (v : V) → FollowInOrder rule items values → given_at rule items values (length values) ≡ Some (Ok v) → now ≡ values ++ v ∷ [] → FollowInOrder rule items now
  one_more_follows values now v follow next is k w at =
      let whole : slice_get (values ++ v ∷ []) k ≡ Some w = ap (λ l. slice_get l k) (sym is) ∙ at in
      let reached : k ≤ length values = omega (arith, slice_get_within (values ++ v ∷ []) k w whole, length-append values (v ∷ [])) in
      let before : take k now ≡ take k values = ap (take k) is ∙ take-append-le k values (v ∷ []) reached in
      ap (λ l. given_at rule items l k) before
      ∙ ⊎_elim
      (λ (e : k ≡ length values).
      let same : v ≡ w = same_Some v w (sym (slice_get-seam values [] v) ∙ ap (slice_get (values ++ v ∷ [])) (sym e) ∙ whole) in
      ap (λ n. given_at rule items (take n values) n) e ∙ ap (λ l. given_at rule items l (length values)) (take_all (length values) values (omega arith)) ∙ next ∙ ap (λ u. Some (Ok u)) same)
      (λ (earlier : k < length values). follow k w (sym (get_stays values (v ∷ []) k earlier) ∙ whole))
      (eq-or-lt_of_le reached)

  -- two lists that follow begin alike
  pub begin_alike : (us vs : List V) → FollowInOrder rule items us → FollowInOrder rule items vs → (n : ℕ) → n ≤ length us → n ≤ length vs → take n us ≡ take n vs
  begin_alike us vs u v zero in_us in_vs = refl
  begin_alike us vs u v (suc n) in_us in_vs =
      let before : take n us ≡ take n vs = begin_alike us vs u v n (omega (arith, in_us)) (omega (arith, in_vs)) in
      let x = found_at us n (omega (arith, in_us)) in
      let y = found_at vs n (omega (arith, in_vs)) in
      let given : Some (Ok x.0) ≡ Some (Ok y.0) = sym (u n x.0 x.1) ∙ ap (λ l. given_at rule items l n) before ∙ v n y.0 y.1 in
      let same : x.0 ≡ y.0 = same_ok x.0 y.0 given in
      take-suc us n x.0 (omega (arith, in_us))
      ∙ ap (λ w. take n us ++ w ∷ []) (read us n x.0 x.1 x.0 ∙ same ∙ sym (read vs n y.0 y.1 x.0))
      ∙ ap (λ l. l ++ get_or vs n x.0 ∷ []) before
      ∙ sym (take-suc vs n x.0 (omega (arith, in_vs)))
    where
      same_ok : (a b : V) → (let left : Result V E = Ok a in Some left ≡ Some (Ok b)) → a ≡ b
      same_ok a b e = cc e

      read : (values : List V) (k : ℕ) (a : V) → slice_get values k ≡ Some a → (d : V) → get_or values k d ≡ a
      read values k a at d = same_Some _ _ (sym (slice_get-get_or values k d (slice_get_within values k a at)) ∙ at)

  -- there is one list of values at most
  pub accepted_once : (us vs : List V) → AllAcceptedInOrder rule items us → AllAcceptedInOrder rule items vs → us ≡ vs
  accepted_once us vs u v =
      sym (take_all (length items) us (omega (arith, u.as_many)))
      ∙ begin_alike us vs u.follow v.follow (length items) (omega (arith, u.as_many)) (omega (arith, v.as_many))
      ∙ take_all (length items) vs (omega (arith, v.as_many))

  -- if an item is refused, not all are accepted
  pub refused_not_accepted : (values : List V) (place : ℕ) (error : E) → IsFirstErrorInOrder rule items place error → AllAcceptedInOrder rule items values → ⊥
  refused_not_accepted values place error r all = by_item (slice_get items place) refl
    where
      at_place : (x : X) → slice_get items place ≡ Some x → ⊥
      at_place x there =
          let within : place < length values = omega (arith, all.as_many, slice_get_within items place x there) in
          let v = found_at values place within in
          let before : take place r.before ≡ take place values = begin_alike r.before values r.follow all.follow place (omega (arith, r.as_many)) (omega (arith, within)) in
          let same : r.before ≡ take place values = sym (take_all place r.before (omega (arith, r.as_many))) ∙ before in
          no_both v.0 (sym (all.follow place v.0 v.1) ∙ ap (λ l. given_at rule items l place) (sym same) ∙ r.refused)
        where
          no_both : (v : V) → (let left : Result V E = Ok v in Some left ≡ Some (Err error)) → ⊥
          no_both v e = cc e

      by_item : (found : Option X) → slice_get items place ≡ found → ⊥
      by_item None none = absurd (cc (r.refused, none))
      by_item (Some x) there = at_place x there
