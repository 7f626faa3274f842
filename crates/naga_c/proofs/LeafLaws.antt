-- Leaves that are found and written one after another.
use Rattle.std.proofs.Common.{◌≡◌, ℕ, ◌+◌, ◌-◌, ◌<◌, suc, List, [], ◌∷◌, ◌++◌, Some, ap, append_assoc, arith, drop, drop-drop, length, length-append, length-drop, map, refl, slice_get, slice_set, subst, sym, take, ◌∙◌}
use Rattle.std.specs.List.{AllZip}
use Rattle.std.proofs.lemmas.List.{append-nil}
use Rattle.std.proofs.lemmas.Option.{none-some, same_Some}
use Rattle.naga_leaves.specs.Found.{Found}
use Rattle.naga_c.specs.Buffers.{BeginsWith}
use Rattle.naga_c.specs.declared.results.Counts.{Counts}
use Rattle.naga_c.specs.declared.results.LeafRow.{LeafRow}
use Rattle.naga_c.specs.Leaves.{Answer, AreWritten, Buffers, answer_to, answers_from, paths_of, row_of, rows_from}
use Rattle.naga_c.specs.steps.Leaves.{AddsAnswers}

-- the rows of one answer more
rows_push : (at : ℕ) (answers : List Answer) (a : Answer) → rows_from at (answers ++ a ∷ []) ≡ rows_from at answers ++ row_of (at + length (paths_of answers)) a ∷ []
rows_push at [] a = let e : at + 0 ≡ at = omega arith in rw e refl
rows_push at (b ∷ answers) a =
    let e : at + length b.found.path + length (paths_of answers) ≡ at + length (b.found.path ++ paths_of answers) = omega (arith, length-append b.found.path (paths_of answers)) in
    ap (λ (rows : List LeafRow). row_of at b ∷ rows) (rows_push (at + length b.found.path) answers a ∙ ap (λ (n : ℕ). rows_from (at + length b.found.path) answers ++ row_of n a ∷ []) e)

-- the paths of one answer more
paths_push : (answers : List Answer) (a : Answer) → paths_of (answers ++ a ∷ []) ≡ paths_of answers ++ a.found.path
paths_push [] a = append-nil a.found.path
paths_push (b ∷ answers) a = ap (λ (ps : List ℕ). b.found.path ++ ps) (paths_push answers a) ∙ sym (append_assoc b.found.path (paths_of answers) a.found.path)

-- as many rows as answers
length_rows : (at : ℕ) (answers : List Answer) → length (rows_from at answers) ≡ length answers
length_rows at [] = refl
length_rows at (a ∷ answers) = ap suc (length_rows (at + length a.found.path) answers)

-- an element after a front
begins_set : {A : Type 0} (front old : List A) (v : A) → length front < length old → slice_set (front ++ drop (length front) old) (length front) v ≡ (front ++ v ∷ []) ++ drop (length (front ++ v ∷ [])) old
begins_set [] [] v lt = absurd (omega (arith, lt))
begins_set [] (o ∷ old) v lt = refl
begins_set (f ∷ front) [] v lt = absurd (omega (arith, lt))
begins_set {A} (f ∷ front) (o ∷ old) v lt = ap (λ (xs : List A). f ∷ xs) (begins_set front old v (omega (arith, lt)))

-- a list between a front and what follows it
paste : {A : Type 0} (front rest more : List A) → take (length front) (front ++ rest) ++ (more ++ drop (length front + length more) (front ++ rest)) ≡ (front ++ more) ++ drop (length more) rest
paste {A} [] rest more = let e : 0 + length more ≡ length more = omega arith in ap (λ (n : ℕ). more ++ drop n rest) e
paste {A} (f ∷ front) rest more =
    let e : suc (length front) + length more ≡ suc (length front + length more) = omega arith in
    ap (λ (n : ℕ). f ∷ (take (length front) (front ++ rest) ++ (more ++ drop n (f ∷ (front ++ rest))))) e ∙ ap (λ (xs : List A). f ∷ xs) (paste front rest more)

-- a list after a front
begins_paste : {A : Type 0} (front more old : List A) → take (length front) (front ++ drop (length front) old) ++ (more ++ drop (length front + length more) (front ++ drop (length front) old)) ≡ (front ++ more) ++ drop (length (front ++ more)) old
begins_paste {A} front more old =
    let e : length front + length more ≡ length (front ++ more) = omega (arith, length-append front more) in
    paste front (drop (length front) old) more ∙ ap (λ (xs : List A). (front ++ more) ++ xs) (drop-drop (length more) (length front) old ∙ ap (λ (n : ℕ). drop n old) e)

-- buffers have no more elements than those of which they begin with answers, or no room
within_old : {A : Type 0} (front old new : List A) (n : ℕ) → BeginsWith front old new → n ≡ length front → n < length new → n < length old
within_old front old new n begins same lt =
    let long : length new ≡ length front + (length old - length front) = ap length begins ∙ length-append front (drop (length front) old) ∙ ap (λ (k : ℕ). length front + k) (length-drop (length front) old) in
    omega arith

module _ (answers : List Answer) (first old : Buffers) (written : AreWritten answers first old) (a : Answer) where
  -- how many leaves are written
  leaf_count : old.counts.leaves ≡ length (rows_from 0 answers)
  leaf_count = ap (λ (c : Counts). c.leaves) written.as_many ∙ sym (length_rows 0 answers)

  -- how many indexes of paths are written
  path_count : old.counts.paths ≡ length (paths_of answers)
  path_count = ap (λ (c : Counts). c.paths) written.as_many

  -- one answer more is written
  written_push : (new : Buffers)
      → new.leaves ≡ slice_set old.leaves old.counts.leaves (row_of old.counts.paths a) → old.counts.leaves < length old.leaves
      → new.paths ≡ take old.counts.paths old.paths ++ (a.found.path ++ drop (old.counts.paths + length a.found.path) old.paths)
      → new.counts ≡ record { leaves = old.counts.leaves + 1; paths = old.counts.paths + length a.found.path }
      → AreWritten (answers ++ a ∷ []) first new
  written_push new set_is lt pasted counted = record {
    leaves = set_is ∙ ap (λ (rows : List LeafRow). slice_set rows old.counts.leaves (row_of old.counts.paths a)) written.leaves
        ∙ ap (λ (n : ℕ). slice_set (rows_from 0 answers ++ drop (length (rows_from 0 answers)) first.leaves) n (row_of old.counts.paths a)) leaf_count
        ∙ begins_set (rows_from 0 answers) first.leaves (row_of old.counts.paths a) (subst (λ n. n < length first.leaves) leaf_count (within_old (rows_from 0 answers) first.leaves old.leaves old.counts.leaves written.leaves leaf_count lt))
        ∙ ap (λ (rows : List LeafRow). rows ++ drop (length rows) first.leaves)
        (ap (λ (n : ℕ). rows_from 0 answers ++ row_of n a ∷ []) (path_count ∙ zero_more) ∙ sym (rows_push 0 answers a));
    paths = pasted ∙ ap (λ (n : ℕ). take n old.paths ++ (a.found.path ++ drop (n + length a.found.path) old.paths)) path_count
        ∙ ap (λ (ps : List ℕ). take (length (paths_of answers)) ps ++ (a.found.path ++ drop (length (paths_of answers) + length a.found.path) ps)) written.paths
        ∙ begins_paste (paths_of answers) a.found.path first.paths
        ∙ ap (λ (ps : List ℕ). ps ++ drop (length ps) first.paths) (sym (paths_push answers a));
    as_many = counted ∙ ap (λ (n : ℕ). let c : Counts = record { leaves = n; paths = old.counts.paths + length a.found.path } in c) leaves_more
        ∙ ap (λ (n : ℕ). let c : Counts = record { leaves = length (answers ++ a ∷ []); paths = n } in c) paths_more;
  }
    where
      zero_more : length (paths_of answers) ≡ 0 + length (paths_of answers)
      zero_more = omega arith

      leaves_more : old.counts.leaves + 1 ≡ length (answers ++ a ∷ [])
      leaves_more = omega (arith, leaf_count, length_rows 0 answers, length-append answers (a ∷ []))

      paths_more : old.counts.paths + length a.found.path ≡ length (paths_of (answers ++ a ∷ []))
      paths_more = omega (arith, path_count, length-append (paths_of answers) a.found.path) ∙ ap length (sym (paths_push answers a))

-- one answer is added
pub adds_one : (a : Answer) (old new : Buffers)
    → new.leaves ≡ slice_set old.leaves old.counts.leaves (row_of old.counts.paths a) → old.counts.leaves < length old.leaves
    → new.paths ≡ take old.counts.paths old.paths ++ (a.found.path ++ drop (old.counts.paths + length a.found.path) old.paths)
    → new.counts ≡ record { leaves = old.counts.leaves + 1; paths = old.counts.paths + length a.found.path }
    → AddsAnswers (a ∷ []) old new
adds_one a old new set_is lt pasted counted = λ answers first written. written_push answers first old written a new set_is lt pasted counted

-- no answer is added
pub adds_none : (old : Buffers) → AddsAnswers [] old old
adds_none old = λ answers first written. subst (λ (all : List Answer). AreWritten all first old) (sym (append-nil answers)) written

-- answers are added after answers
pub adds_more : (some more : List Answer) (old between new : Buffers) → AddsAnswers some old between → AddsAnswers more between new → AddsAnswers (some ++ more) old new
adds_more some more old between new f g = λ answers first written.
    subst (λ (all : List Answer). AreWritten all first new) (append_assoc answers some more) (g (answers ++ some) first (f answers first written))

-- before the first answer nothing is written
pub written_none : (old : Buffers) → old.counts ≡ record { leaves = 0; paths = 0 } → AreWritten [] old old
written_none old none = record { leaves = refl; paths = refl; as_many = none }

-- the leaves of one type more are answered
pub answers_push : (query : ℕ) (found : List (List Found)) (last : List Found) → answers_from query (found ++ last ∷ []) ≡ answers_from query found ++ map (answer_to (query + length found)) last
answers_push query [] last = append-nil (map (answer_to query) last) ∙ (let e : query ≡ query + 0 = omega arith in ap (λ (q : ℕ). map (answer_to q) last) e)
answers_push query (f ∷ found) last =
    let e : query + 1 + length found ≡ query + suc (length found) = omega arith in
    ap (λ (rest : List Answer). map (answer_to query) f ++ rest) (answers_push (query + 1) found last ∙ ap (λ (q : ℕ). answers_from (query + 1) found ++ map (answer_to q) last) e)
    ∙ sym (append_assoc (map (answer_to query) f) (answers_from (query + 1) found) (map (answer_to (query + suc (length found))) last))

-- the answers of a leaf more
pub answers_more : (query : ℕ) (found : List Found) (next : Found) → map (answer_to query) (found ++ next ∷ []) ≡ map (answer_to query) found ++ answer_to query next ∷ []
answers_more query [] next = refl
answers_more query (f ∷ found) next = ap (λ (rest : List Answer). answer_to query f ∷ rest) (answers_more query found next)

-- a relation holds of one pair more
zip_suc : {A B : Type 0} (R : A → B → Type 0) (xs : List A) (ys : List B) (x : A) (y : B) → AllZip R (take (length ys) xs) ys → slice_get xs (length ys) ≡ Some x → R x y → AllZip R (take (suc (length ys)) xs) (ys ++ y ∷ [])
zip_suc R [] [] x y h is r = absurd (none-some x is)
zip_suc R (z ∷ xs) [] x y h is r = (subst (λ v. R v y) (sym (same_Some z x is)) r, tt)
zip_suc R [] (w ∷ ys) x y h is r = absurd (none-some x is)
zip_suc R (z ∷ xs) (w ∷ ys) x y h is r = (h.0, zip_suc R xs ys x y h.1 is r)

-- a relation holds of one pair more
pub zip_more : {A B : Type 0} (R : A → B → Type 0) (xs : List A) (ys : List B) (x : A) (y : B) (n : ℕ) → length ys ≡ n → AllZip R (take n xs) ys → slice_get xs n ≡ Some x → R x y → AllZip R (take (n + 1) xs) (ys ++ y ∷ [])
zip_more R xs ys x y n same h is r =
    let e : suc (length ys) ≡ n + 1 = omega arith in
    subst (λ (k : ℕ). AllZip R (take k xs) (ys ++ y ∷ [])) e (zip_suc R xs ys x y (subst (λ (k : ℕ). AllZip R (take k xs) ys) (sym same) h) (subst (λ (k : ℕ). slice_get xs k ≡ Some x) (sym same) is) r)
