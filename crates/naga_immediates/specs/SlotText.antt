-- How sets of slots are shown: by their maximal runs.
use Rattle.std.specs.Prelude.{◌==◌, ◌&&◌, ◌-◌, ◌*◌, ℕ, zero, suc, Bool, not, List, [], ◌∷◌, ◌++◌, codes, decimal, filter, map, unwrap_or}
use Rattle.std.specs.Int.{bit_at}
use Rattle.std.specs.List.{find, flat_map, range_with_len}
use Rattle.naga_immediates.specs.Slots.{slot_count, slot_size}
use Rattle.naga_immediates.specs.declared.immediates.ImmediateSlots.{ImmediateSlots}

-- a run of neighbours: its first slot, and the one after its last
pub record Run : Type 0 where
  pub first : ℕ
  pub end : ℕ

-- slot `k` is in the set `slots`
abbrev pub has_slot : ImmediateSlots → ℕ → Bool
has_slot slots k = bit_at slots.0 k == 1

-- a run of `slots` begins with a slot: it is in the set, and the slot before it isn't
abbrev pub begins_run : ImmediateSlots → ℕ → Bool
begins_run slots zero = has_slot slots 0
begins_run slots (suc before) = has_slot slots (suc before) && not (has_slot slots before)

-- the run that begins with a slot ends before the first slot from there on that isn't in the set
abbrev pub end_of_run : ImmediateSlots → ℕ → ℕ
end_of_run slots first =
    unwrap_or (find (λ k. not (has_slot slots k)) (range_with_len first (slot_count - first))) slot_count

-- the maximal runs of a set, rising: one from each slot with which a run begins
abbrev pub runs : ImmediateSlots → List Run
runs slots =
    map (λ first. let run : Run = record { first = first; end = end_of_run slots first } in run)
    (filter (begins_run slots) (range_with_len 0 slot_count))

-- a run as its first byte and the byte after its last
abbrev pub run_text : Run → List ℕ
run_text run = decimal (slot_size * run.first) ++ (codes ".." ++ decimal (slot_size * run.end))

-- runs with a comma between each two, or `(none)` if there are none
abbrev pub runs_text : List Run → List ℕ
runs_text [] = codes "(none)"
runs_text (run ∷ rest) = run_text run ++ flat_map (λ next. codes ", " ++ run_text next) rest

-- what is shown of a set
abbrev pub slot_text : ImmediateSlots → List ℕ
slot_text slots = runs_text (runs slots)
