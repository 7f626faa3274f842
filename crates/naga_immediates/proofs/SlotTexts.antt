-- The texts of sets of slots: how they are written, and that different sets have different ones.
use Rattle.std.proofs.Common.{true, false, cond, ◌≡◌, ◌<◌, ◌≤◌, ◌+◌, ◌*◌, ◌%◌, ◌^◌, ◌≢◌, ℕ, lit<, List, [], ◌∷◌, ◌++◌, All, length, map, append_assoc, append-nil, refl, sym, ap, subst, ◌∙◌, arith}
use Rattle.std.specs.List.{filter, flat_map, range_with_len}
use Rattle.std.specs.Prelude.{⊤, codes, decimal}
use Rattle.std.proofs.lemmas.Fmt.{decimal_by_steps, decimal_injective, decimal_nonempty}
use Rattle.std.proofs.lemmas.List.{map-append, map-id}
use Rattle.std.proofs.lemmas.List.Concat.{flat_map-append}
use Rattle.std.proofs.lemmas.List.Elements.{All-head, All-tail, All-weaker, filter-append}
use Rattle.std.proofs.lemmas.List.FromFn.{map-range_with_len_more}
use Rattle.naga_immediates.proofs.SlotRuns.{IsRunOf, are_runs, run_from, same_from_runs}
use Rattle.naga_immediates.specs.SlotText.{Run, begins_run, end_of_run, run_text, runs, runs_text, slot_text}
use Rattle.naga_immediates.specs.Slots.{slot_count, slot_size}
use Rattle.naga_immediates.specs.declared.immediates.ImmediateSlots.{ImmediateSlots}

-- the text of runs that come after another
abbrev pub more_text : List Run → List ℕ
more_text rest = flat_map (λ next. codes ", " ++ run_text next) rest

-- what is written once some runs are
abbrev pub written : List Run → List ℕ
written [] = []
written (run ∷ rest) = run_text run ++ more_text rest

-- what is written before the next run, once some runs are
abbrev pub separator : List Run → List ℕ
separator [] = []
separator (run ∷ rest) = codes ", "

pub written_more : (before : List Run) (run : Run) → written before ++ (separator before ++ run_text run) ≡ written (before ++ run ∷ [])
written_more [] run = sym (append-nil (run_text run))
written_more (first ∷ rest) run =
    append_assoc (run_text first) (more_text rest) (codes ", " ++ run_text run)
    ∙ ap (λ text. run_text first ++ text) (ap (λ text. more_text rest ++ text) (sym (append-nil (codes ", " ++ run_text run))) ∙ sym (flat_map-append (λ next. codes ", " ++ run_text next) rest (run ∷ [])))

pub separator_more : (before : List Run) (run : Run) → codes ", " ≡ separator (before ++ run ∷ [])
separator_more [] run = refl
separator_more (first ∷ rest) run = refl

pub written_all : (all : List Run) → all ≢ [] → written all ≡ runs_text all
written_all [] some = absurd (some refl)
written_all (run ∷ rest) some = refl

-- all of a text are digits, or codes above them
AreDigits : List ℕ → Type 0
AreDigits [] = ⊤
AreDigits (d ∷ ds) = (48 ≤ d) × AreDigits ds

-- a text begins with no digit
BeginsOtherwise : List ℕ → Type 0
BeginsOtherwise [] = ⊤
BeginsOtherwise (c ∷ cs) = c < 48

digits_more : (ds : List ℕ) (d : ℕ) → 48 ≤ d → AreDigits ds → AreDigits (ds ++ d ∷ [])
unfolding AreDigits
digits_more [] d h all = (h, tt)
digits_more (e ∷ ds) d h (here, rest) = (here, digits_more ds d h rest)

decimal_digits : (n : ℕ) → n < 2 ^ 64 → AreDigits (decimal n)
unfolding AreDigits
decimal_digits = decimal_by_steps (λ n ds. AreDigits ds) (λ n h. (omega arith, tt)) (λ n ds h all. digits_more ds (48 + n % 10) (omega arith) all)

-- digits end where something else begins
digits_end : (ds es r s : List ℕ) → AreDigits ds → AreDigits es → BeginsOtherwise r → BeginsOtherwise s → ds ++ r ≡ es ++ s → (ds ≡ es) × (r ≡ s)
unfolding AreDigits BeginsOtherwise
digits_end [] [] r s all all′ begins begins′ e = (refl, e)
digits_end [] (x ∷ es) r s all (here, rest) begins begins′ e = let h : BeginsOtherwise (x ∷ (es ++ s)) = subst BeginsOtherwise e begins in let small : x < 48 = h in absurd (omega arith)
digits_end (x ∷ ds) [] r s (here, rest) all′ begins begins′ e = let h : BeginsOtherwise (x ∷ (ds ++ r)) = subst BeginsOtherwise (sym e) begins′ in let small : x < 48 = h in absurd (omega arith)
digits_end (x ∷ ds) (y ∷ es) r s (here, rest) (here′, rest′) begins begins′ e =
    let same : x ≡ y = cc in
    let h = digits_end ds es r s rest rest′ begins begins′ cc in
    (ap (λ n. n ∷ ds) same ∙ ap (λ ds. y ∷ ds) h.0, h.1)

-- a run is small enough for its text to determine it
abbrev IsSmall : Run → Type 0
IsSmall run = (slot_size * run.first < 2 ^ 64) × (slot_size * run.end < 2 ^ 64)

-- a run's text and what comes after it
text_ends : (run : Run) (r : List ℕ) → run_text run ++ r ≡ decimal (slot_size * run.first) ++ (codes ".." ++ (decimal (slot_size * run.end) ++ r))
text_ends run r =
    append_assoc (decimal (slot_size * run.first)) (codes ".." ++ decimal (slot_size * run.end)) r ∙ ap (λ t. decimal (slot_size * run.first) ++ t) (append_assoc (codes "..") (decimal (slot_size * run.end)) r)

-- a run and what comes after it are determined by their text
run_ends : (run other : Run) (r s : List ℕ) → IsSmall run → IsSmall other → BeginsOtherwise r → BeginsOtherwise s → run_text run ++ r ≡ run_text other ++ s → (run ≡ other) × (r ≡ s)
unfolding BeginsOtherwise
run_ends run other r s small small′ begins begins′ e =
    let firsts = digits_end (decimal (slot_size * run.first)) (decimal (slot_size * other.first)) (codes ".." ++ (decimal (slot_size * run.end) ++ r)) (codes ".." ++ (decimal (slot_size * other.end) ++ s)) (decimal_digits _ small.0) (decimal_digits _ small′.0) (lit< tt) (lit< tt)
    (sym (text_ends run r) ∙ e ∙ text_ends other s) in
    let ends = digits_end (decimal (slot_size * run.end)) (decimal (slot_size * other.end)) r s (decimal_digits _ small.1) (decimal_digits _ small′.1) begins begins′ (after_dots firsts.1) in
    let first : slot_size * run.first ≡ slot_size * other.first = decimal_injective _ _ small.0 small′.0 firsts.0 in
    let end : slot_size * run.end ≡ slot_size * other.end = decimal_injective _ _ small.1 small′.1 ends.0 in
    (same_run run other (omega arith) (omega arith), ends.1)
  where
    after_dots : {xs ys : List ℕ} → codes ".." ++ xs ≡ codes ".." ++ ys → xs ≡ ys
    after_dots e = cc

    same_run : (run other : Run) → run.first ≡ other.first → run.end ≡ other.end → run ≡ other
    same_run run other e e′ = ap (λ n. let r : Run = record { first = n; end = run.end } in r) e ∙ ap (λ n. let r : Run = record { first = other.first; end = n } in r) e′

more_begins : (rest : List Run) → BeginsOtherwise (more_text rest)
unfolding BeginsOtherwise
more_begins [] = tt
more_begins (run ∷ rest) = lit< tt

after_comma : {xs ys : List ℕ} → codes ", " ++ xs ≡ codes ", " ++ ys → xs ≡ ys
after_comma e = cc

-- runs that come after another are determined by their text
more_tells : (rest others : List Run) → All IsSmall rest → All IsSmall others → more_text rest ≡ more_text others → rest ≡ others
more_tells [] [] small small′ e = refl
more_tells [] (other ∷ others) small small′ e = absurd cc
more_tells (run ∷ rest) [] small small′ e = absurd cc
more_tells (run ∷ rest) (other ∷ others) small small′ e =
    let h = run_ends run other (more_text rest) (more_text others) (All-head IsSmall run rest small) (All-head IsSmall other others small′) (more_begins rest) (more_begins others) (after_comma (sym (append_assoc (codes ", ") (run_text run) (more_text rest)) ∙ e ∙ append_assoc (codes ", ") (run_text other) (more_text others))) in
    ap (λ r. r ∷ rest) h.0 ∙ ap (λ rs. other ∷ rs) (more_tells rest others (All-tail IsSmall run rest small) (All-tail IsSmall other others small′) h.1)

-- no runs are shown otherwise than any
none_tells : (run : Run) (rest : List Run) → IsSmall run → codes "(none)" ≡ run_text run ++ more_text rest → ⊥
unfolding AreDigits BeginsOtherwise
none_tells run rest small e =
    let h = digits_end [] (decimal (slot_size * run.first)) (codes "(none)") (codes ".." ++ (decimal (slot_size * run.end) ++ more_text rest)) tt (decimal_digits _ small.0) (lit< tt) (lit< tt)
    (e ∙ text_ends run (more_text rest)) in
    let some : 0 < length (decimal (slot_size * run.first)) = decimal_nonempty (slot_size * run.first) small.0 in
    let none : 0 ≡ length (decimal (slot_size * run.first)) = ap length h.0 in
    omega arith

runs_tell : (all others : List Run) → All IsSmall all → All IsSmall others → runs_text all ≡ runs_text others → all ≡ others
runs_tell [] [] small small′ e = refl
runs_tell [] (other ∷ others) small small′ e = absurd (none_tells other others (All-head IsSmall other others small′) e)
runs_tell (run ∷ rest) [] small small′ e = absurd (none_tells run rest (All-head IsSmall run rest small) (sym e))
runs_tell (run ∷ rest) (other ∷ others) small small′ e =
    let h = run_ends run other (more_text rest) (more_text others) (All-head IsSmall run rest small) (All-head IsSmall other others small′) (more_begins rest) (more_begins others) e in
    ap (λ r. r ∷ rest) h.0 ∙ ap (λ rs. other ∷ rs) (more_tells rest others (All-tail IsSmall run rest small) (All-tail IsSmall other others small′) h.1)

-- sets of one text are equal
pub same_from_text : (slots others : ImmediateSlots) → slots.0 < 2 ^ 64 → others.0 < 2 ^ 64 → slot_text slots ≡ slot_text others → slots ≡ others
same_from_text slots others small small′ e = same_from_runs slots others small small′ (runs_tell (runs slots) (runs others) (are_small slots) (are_small others) e)
  where
    is_small : (slots : ImmediateSlots) (run : Run) → IsRunOf slots run → IsSmall run
    is_small slots run h = let first = h.first_within in let end = h.end_within in (omega arith, omega arith)

    are_small : (slots : ImmediateSlots) → All IsSmall (runs slots)
    are_small slots = All-weaker (IsRunOf slots) IsSmall (is_small slots) (runs slots) (are_runs slots)

-- the runs that begin before a slot
abbrev pub runs_before : ImmediateSlots → ℕ → List Run
runs_before slots k = map (run_from slots) (filter (begins_run slots) (range_with_len 0 k))

numbers_more : (k : ℕ) → range_with_len 0 (k + 1) ≡ range_with_len 0 k ++ k ∷ []
numbers_more k = sym (map-id (range_with_len 0 (k + 1))) ∙ map-range_with_len_more (λ n. n) 0 k k (omega arith) ∙ ap (λ ns. ns ++ k ∷ []) (map-id (range_with_len 0 k))

before_more : (slots : ImmediateSlots) (k : ℕ) → runs_before slots (k + 1) ≡ runs_before slots k ++ map (run_from slots) (filter (begins_run slots) (k ∷ []))
before_more slots k =
    ap (λ ns. map (run_from slots) (filter (begins_run slots) ns)) (numbers_more k)
    ∙ ap (map (run_from slots)) (filter-append (begins_run slots) (range_with_len 0 k) (k ∷ []))
    ∙ map-append (run_from slots) (filter (begins_run slots) (range_with_len 0 k)) (filter (begins_run slots) (k ∷ []))

-- one more run if it begins with the slot
pub one_more : (slots : ImmediateSlots) (k : ℕ) → begins_run slots k ≡ true → runs_before slots k ++ run_from slots k ∷ [] ≡ runs_before slots (k + 1)
one_more slots k begins = sym (before_more slots k ∙ ap (λ b. runs_before slots k ++ map (run_from slots) (cond b (k ∷ []) [])) begins)

-- no more runs if none begins with the slot
pub no_more : (slots : ImmediateSlots) (k : ℕ) → begins_run slots k ≡ false → runs_before slots k ≡ runs_before slots (k + 1)
no_more slots k none = sym (before_more slots k ∙ ap (λ b. runs_before slots k ++ map (run_from slots) (cond b (k ∷ []) [])) none ∙ append-nil (runs_before slots k))

-- a set of any slots has runs
pub has_runs : (slots : ImmediateSlots) → slots.0 < 2 ^ 64 → (slots.0 ≡ 0 → ⊥) → runs slots ≢ []
has_runs slots small some none = some (ap (λ (set : ImmediateSlots). set.0) (same_from_runs slots (record { 0 = 0 }) small (lit< tt) (none ∙ refl)))

pub all_written : (slots : ImmediateSlots) (k : ℕ) → slots.0 < 2 ^ 64 → (slots.0 ≡ 0 → ⊥) → k ≡ slot_count → written (runs_before slots k) ≡ slot_text slots
all_written slots k small some all = ap (λ n. written (runs_before slots n)) all ∙ written_all (runs slots) (has_runs slots small some)

-- what is written with the run that begins with a slot
pub run_written : (slots : ImmediateSlots) (k end : ℕ) (before : List ℕ) → begins_run slots k ≡ true → before ≡ separator (runs_before slots k) → end ≡ end_of_run slots k
    → written (runs_before slots k) ++ (before ++ (decimal (slot_size * k) ++ (codes ".." ++ decimal (slot_size * end)))) ≡ written (runs_before slots (k + 1))
run_written slots k end before begins is_before is_end =
    ap (λ text. written (runs_before slots k) ++ (text ++ (decimal (slot_size * k) ++ (codes ".." ++ decimal (slot_size * end))))) is_before
    ∙ ap (λ n. written (runs_before slots k) ++ (separator (runs_before slots k) ++ (decimal (slot_size * k) ++ (codes ".." ++ decimal (slot_size * n))))) is_end
    ∙ written_more (runs_before slots k) (run_from slots k)
    ∙ ap written (one_more slots k begins)
