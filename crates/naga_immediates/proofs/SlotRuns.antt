-- The maximal runs of a set of slots: they have all its slots, and no others.
use Rattle.std.proofs.Common.{◌≡◌, ◌<◌, ◌≤◌, ◌+◌, ◌-◌, ◌^◌, ⊎_elim, ℕ, zero, suc, List, [], ◌∷◌, Some, All, Bool, true, false, true≢false, not, cond, Contains, refl, sym, zero-add, ap, subst, ◌∙◌, arith}
use Rattle.std.specs.Int.{bit_at}
use Rattle.std.specs.List.{filter, find, range_with_len}
use Rattle.std.specs.Option.{unwrap_or}
use Rattle.std.proofs.lemmas.Bool.{and_from, cases_lt, eq-eqb, eqb-true, not-false, not-true}
use Rattle.std.proofs.lemmas.List.Elements.{All-cons, All-contains, All-filter, All-from_get_or, All-map, All-nil, All-weaker, Contains-append_right}
use Rattle.std.proofs.lemmas.List.FromFn.{get_or-range_with_len, length-range_with_len}
use Rattle.std.proofs.lemmas.Nat.Bits.{bit_at-lt, same_from_bits_below}
use Rattle.naga_arena.proofs.Elements.{contains-map}
use Rattle.naga_immediates.proofs.SlotBits.{same_bit}
use Rattle.naga_immediates.specs.SlotText.{Run, begins_run, end_of_run, has_slot, runs}
use Rattle.naga_immediates.specs.Slots.{slot_count}
use Rattle.naga_immediates.specs.declared.immediates.ImmediateSlots.{ImmediateSlots}

-- what a search through the numbers from one on finds: the first that passes, or the end if none does
pub record IsFirst (p : ℕ → Bool) (from end found : ℕ) : Type 0 where
  pub later : from ≤ found
  pub within : found ≤ end
  pub none_before : (k : ℕ) → from ≤ k → k < found → p k ≡ false
  pub passes : found < end → p found ≡ true

first_found : (p : ℕ → Bool) (from n end : ℕ) → from + n ≡ end → IsFirst p from end (unwrap_or (find p (range_with_len from n)) end)
first_found p from zero end e = record { later = omega arith; within = omega arith; none_before = λ k a b. absurd (omega arith); passes = λ h. absurd (omega arith) }
first_found p from (suc n) end e = by_test (first_found p (from + 1) n end (omega arith)) (p from) refl
  where
    by_test : IsFirst p (from + 1) end (unwrap_or (find p (range_with_len (from + 1) n)) end) → (b : Bool) → p from ≡ b → IsFirst p from end (unwrap_or (cond b (Some from) (find p (range_with_len (from + 1) n))) end)
    by_test rest true is = record { later = omega arith; within = omega arith; none_before = λ k a b. absurd (omega arith); passes = λ h. is }
    by_test rest false is =
        record {
          later = let h = rest.later in omega arith;
          within = rest.within;
          none_before = λ k a b. ⊎_elim (λ after. rest.none_before k (omega arith) b) (λ upto. subst (λ n. p n ≡ false) (let same : from ≡ k = omega arith in same) is) (cases_lt from k);
          passes = rest.passes;
        }

module _ (slots : ImmediateSlots) where
  -- where a run ends
  pub run_end : (first : ℕ) → first ≤ slot_count → IsFirst (λ k. not (has_slot slots k)) first slot_count (end_of_run slots first)
  run_end first h = first_found (λ k. not (has_slot slots k)) first (slot_count - first) slot_count (omega arith)

  -- a slot has a run that begins at it or before, if all slots between them are in the set
  pub record RunsUpTo (k : ℕ) : Type 0 where
    pub first : ℕ
    pub before : first ≤ k
    pub begins : begins_run slots first ≡ true
    pub all : (j : ℕ) → first ≤ j → j ≤ k → has_slot slots j ≡ true

  -- each slot in the set has a run that begins at it or before
  runs_up_to : (k : ℕ) → has_slot slots k ≡ true → RunsUpTo k
  runs_up_to zero has = record { first = 0; before = omega arith; begins = has; all = λ j a b. subst (λ n. has_slot slots n ≡ true) (let same : 0 ≡ j = omega arith in same) has }
  runs_up_to (suc k) has = by_test (runs_up_to k) (has_slot slots k) refl
    where
      by_test : (has_slot slots k ≡ true → RunsUpTo k) → (b : Bool) → has_slot slots k ≡ b → RunsUpTo (suc k)
      by_test upto false is =
          record {
            first = suc k;
            before = omega arith;
            begins = and_from (has_slot slots (suc k)) (not (has_slot slots k)) has (ap not is);
            all = λ j a b. subst (λ n. has_slot slots n ≡ true) (let same : suc k ≡ j = omega arith in same) has;
          }
      by_test upto true is =
          let r = upto is in
          record {
            first = r.first;
            before = let h = r.before in omega arith;
            begins = r.begins;
            all = λ j a b. ⊎_elim (λ early. r.all j a (omega arith)) (λ past. subst (λ n. has_slot slots n ≡ true) (let same : suc k ≡ j = omega arith in same) has) (cases_lt j (suc k));
          }

  -- the run that begins with a slot
  abbrev pub run_from : ℕ → Run
  run_from first = record { first = first; end = end_of_run slots first }

  -- a slot is in a run
  pub record IsInRun (k : ℕ) (run : Run) : Type 0 where
    pub from : run.first ≤ k
    pub to : k < run.end

  -- slot `k` is in one of the runs of the set
  pub record IsInRunOf (k : ℕ) : Type 0 where
    pub run : Run
    pub is_its : Contains (runs slots) run
    pub is_in : IsInRun k run

  -- a list made by a test has what passes it
  kept : {X : Type 0} (p : X → Bool) (xs : List X) → All (λ x. p x ≡ true → Contains (filter p xs) x) xs
  kept {X = X} p [] = All-nil (λ x. p x ≡ true → Contains (filter p []) x)
  kept {X = X} p (x ∷ xs) =
      All-cons (λ y. p y ≡ true → Contains (filter p (x ∷ xs)) y) x xs (λ e. subst (λ b. Contains (cond b (x ∷ filter p xs) (filter p xs)) x) (sym e) (0, omega arith, refl))
      (All-weaker (λ y. p y ≡ true → Contains (filter p xs) y) (λ y. p y ≡ true → Contains (filter p (x ∷ xs)) y) (λ y h e. further y (h e)) xs (kept p xs))
    where
      further : (y : X) → Contains (filter p xs) y → Contains (cond (p x) (x ∷ filter p xs) (filter p xs)) y
      further y h = elim (p x) as (λ b. Contains (cond b (x ∷ filter p xs) (filter p xs)) y) [ true ↦ Contains-append_right (x ∷ []) (filter p xs) y h | false ↦ h ]

  all_slots_contain : (k : ℕ) → k < slot_count → Contains (range_with_len 0 slot_count) k
  all_slots_contain k h = (k, omega (arith, length-range_with_len 0 slot_count), get_or-range_with_len 0 slot_count k k h ∙ zero-add k)

  -- each slot of the set is in a run
  pub slot_in_run : (k : ℕ) → k < slot_count → has_slot slots k ≡ true → IsInRunOf k
  slot_in_run k within has =
      let r = runs_up_to k has in
      let before = r.before in
      let its = run_end r.first (omega arith) in
      record {
        run = run_from r.first;
        is_its = contains-map run_from (filter (begins_run slots) (range_with_len 0 slot_count)) r.first (All-contains (λ n. begins_run slots n ≡ true → Contains (filter (begins_run slots) (range_with_len 0 slot_count)) n) (range_with_len 0 slot_count) r.first (kept (begins_run slots) (range_with_len 0 slot_count)) (all_slots_contain r.first (omega arith)) r.begins);
        is_in = record { from = before; to = ⊎_elim (λ under. under) (λ past. absurd (true≢false (sym (r.all (end_of_run slots r.first) its.later past) ∙ not-true (has_slot slots (end_of_run slots r.first)) (its.passes (omega arith))))) (cases_lt k (end_of_run slots r.first)) };
      }

  -- what is true of the runs of a set: they are within the slots that there are, and have only slots of the set
  pub record IsRunOf (run : Run) : Type 0 where
    pub first_within : run.first < slot_count
    pub end_within : run.end ≤ slot_count
    pub only : (k : ℕ) → IsInRun k run → has_slot slots k ≡ true

  is_run_from : (first : ℕ) → first < slot_count → IsRunOf (run_from first)
  is_run_from first within =
      let its = run_end first (omega arith) in
      record { first_within = within; end_within = its.within; only = λ k h. not-false (has_slot slots k) (its.none_before k h.from h.to) }

  pub are_runs : All IsRunOf (runs slots)
  are_runs =
      All-map IsRunOf run_from (filter (begins_run slots) (range_with_len 0 slot_count))
      (All-filter (begins_run slots) (λ first. IsRunOf (run_from first)) (range_with_len 0 slot_count)
      (All-from_get_or (λ first. IsRunOf (run_from first)) (range_with_len 0 slot_count) 0 (λ i h.
      let within : i < slot_count = omega (arith, length-range_with_len 0 slot_count) in
      subst (λ n. IsRunOf (run_from n)) (sym (get_or-range_with_len 0 slot_count i 0 within ∙ zero-add i)) (is_run_from i within))))

  -- a slot is in the set if it is in one of the runs
  pub run_has_slots : (k : ℕ) → IsInRunOf k → has_slot slots k ≡ true
  run_has_slots k h = (All-contains IsRunOf (runs slots) h.run are_runs h.is_its).only k h.is_in

-- sets of the same runs are equal
pub same_from_runs : (slots others : ImmediateSlots) → slots.0 < 2 ^ 64 → others.0 < 2 ^ 64 → runs slots ≡ runs others → slots ≡ others
same_from_runs slots others small small′ alike = ap (λ n. let set : ImmediateSlots = record { 0 = n } in set) (same_from_bits_below 64 slots.0 others.0 small small′ same)
  where
    goes : (xs ys : ImmediateSlots) → runs xs ≡ runs ys → (k : ℕ) → k < slot_count → has_slot xs k ≡ true → has_slot ys k ≡ true
    goes xs ys e k within has =
        let h = slot_in_run xs k within has in
        run_has_slots ys k (record { run = h.run; is_its = subst (λ rs. Contains rs h.run) e h.is_its; is_in = record { from = h.is_in.from; to = h.is_in.to } })

    same : (k : ℕ) → k < 64 → bit_at slots.0 k ≡ bit_at others.0 k
    same k within =
        same_bit (bit_at slots.0 k) (bit_at others.0 k) (bit_at-lt slots.0 k) (bit_at-lt others.0 k) (λ one. eqb-true _ _ (goes slots others alike k within (eq-eqb _ _ one)))
        (λ one. eqb-true _ _ (goes others slots (sym alike) k within (eq-eqb _ _ one)))
