-- Leaves of a type that a cursor comes to, and that are written one after another.
use Rattle.std.proofs.Common.{◌≡◌, ◌+◌, ◌<◌, ◌≤◌, ℕ, List, [], ◌∷◌, ◌++◌, Some, arith, length, length-append, map, refl, slice_get, subst, sym, take}
use Rattle.std.proofs.lemmas.List.{take_all}
use Rattle.naga_arena.specs.Numbers.{largest_u32}
use Rattle.naga_ir.specs.ItemReferences.{global_lists}
use Rattle.naga_ir.specs.declared.ir.Module.{Module}
use Rattle.naga_leaves.proofs.FoundLaws.{IsUpTo, Remains, are_first, cursor_end, cursor_first, cursor_more, cursor_start, found_at}
use Rattle.naga_leaves.specs.Cursor.{IsAtEnd, IsCursor, IsNext, YieldsAll, path_of}
use Rattle.naga_leaves.specs.Found.{AreAll, Found, IsLeafOf}
use Rattle.naga_leaves.specs.declared.cursor.Leaves.{Leaves}
use Rattle.naga_typing.specs.Leaves.{LeafBytes, elements}
use Rattle.naga_c.specs.Leaves.{Answer, AreLeavesOfEach, Buffers, HasNoRoom, HasTypes, StopsAfter, all, answer_to, answers_from, full, no_memory, over, some, too_many}
use Rattle.naga_c.specs.steps.Leaves.{AddsAnswers, EndsAfter, WritesAll, WritesType, done, stopped}
use Rattle.naga_c.specs.declared.status.Status.{Status}
use Rattle.naga_c.specs.declared.status.Status.TheVariants.{Done, Limit, OutOfMemory, Room}
use Rattle.naga_c.proofs.LeafLaws.{adds_more, adds_none, answers_more, answers_push, zip_more}

module _ (m : Module) (n ty most query : ℕ) (old : Buffers) where
  -- the leaves before a cursor are written
  pub record IsWriting (cursor : Leaves) (new : Buffers) : Type 0 where
    pub is_cursor : IsCursor cursor
    pub found : List Found
    pub up_to : IsUpTo (IsLeafOf (global_lists m) n ty) (Remains cursor) found
    pub added : AddsAnswers (map (answer_to query) found) old new

  -- before the first leaf nothing is written
  pub writing_start : (cursor : Leaves) → IsCursor cursor → YieldsAll (global_lists m) (elements (global_lists m) n) ty cursor → IsWriting cursor old
  writing_start cursor is yields = record {
    is_cursor = is;
    found = [];
    up_to = cursor_start (global_lists m) n ty cursor yields;
    added = adds_none old;
  }

  -- one leaf more is written
  pub writing_more : (before now : Leaves) (between new : Buffers) (path : List ℕ) (leaf : LeafBytes) → IsWriting before between → IsCursor now → IsNext before now leaf → path ≡ path_of now
      → AddsAnswers (answer_to query (found_at path leaf) ∷ []) between new → IsWriting now new
  writing_more before now between new path leaf w is next same adds = record {
    is_cursor = is;
    found = w.found ++ found_at (path_of now) leaf ∷ [];
    up_to = cursor_more (global_lists m) n ty before now w.found leaf w.up_to next;
    added =
        let one = subst (λ (p : List ℕ). AddsAnswers (answer_to query (found_at p leaf) ∷ []) between new) same adds in
        subst (λ (answers : List Answer). AddsAnswers answers old new) (sym (answers_more query w.found (found_at (path_of now) leaf)))
        (adds_more (map (answer_to query) w.found) (answer_to query (found_at (path_of now) leaf) ∷ []) old between new w.added one);
  }

  -- there is no room for the next leaf
  pub writing_full : (before now : Leaves) (between new : Buffers) (path : List ℕ) (leaf : LeafBytes) → IsWriting before between → IsNext before now leaf → path ≡ path_of now
      → between.counts.leaves < most → HasNoRoom between path → new ≡ between → WritesType m n ty most query old new Room
  writing_full before now between new path leaf w next same few room unmoved =
      subst (λ (b : Buffers). WritesType m n ty most query old b Room) (sym unmoved)
      (record {
        found = w.found;
        added = w.added;
        ends = stopped (full (found_at (path_of now) leaf)
            (cursor_first (global_lists m) n ty before now w.found leaf w.up_to next)
            few (subst (λ (p : List ℕ). HasNoRoom between p) same room) refl);
      })

  -- with the next leaf there are more than may be written
  pub writing_over : (before now : Leaves) (new : Buffers) (leaf : LeafBytes) → IsWriting before new → IsNext before now leaf → most ≤ new.counts.leaves → WritesType m n ty most query old new Limit
  writing_over before now new leaf w next many = record {
    found = w.found;
    added = w.added;
    ends = stopped (over (found_at (path_of now) leaf)
        (cursor_first (global_lists m) n ty before now w.found leaf w.up_to next) many refl);
  }

  -- all leaves are written
  pub writing_done : (before now : Leaves) (new : Buffers) → IsWriting before new → IsAtEnd before now → WritesType m n ty most query old new Done
  writing_done before now new w end = record {
    found = w.found;
    added = w.added;
    ends = done (cursor_end (global_lists m) n ty before now w.found w.up_to end) refl;
  }

  -- memory was refused
  pub writing_undecided : (before : Leaves) (new : Buffers) → IsWriting before new → WritesType m n ty most query old new OutOfMemory
  writing_undecided before new w = record {
    found = w.found;
    added = w.added;
    ends = stopped (no_memory (are_first (IsLeafOf (global_lists m) n ty) (Remains before) w.found w.up_to) refl);
  }

module _ (m : Module) (types : List ℕ) (n most : ℕ) (old : Buffers) where
  -- the leaves of the first `k` of some types are written
  pub record IsAnswering (k : ℕ) (new : Buffers) : Type 0 where
    pub found : List (List Found)
    pub as_many : length found ≡ k
    pub each : AreLeavesOfEach m n (take k types) found
    pub added : AddsAnswers (answers_from 0 found) old new

  -- before the first type nothing is written
  pub answering_start : IsAnswering 0 old
  answering_start = record { found = []; as_many = refl; each = tt; added = adds_none old }

  -- the answers of one type more
  adds_type : (k : ℕ) (between new : Buffers) (found : List (List Found)) (last : List Found) → length found ≡ k → AddsAnswers (answers_from 0 found) old between → AddsAnswers (map (answer_to k) last) between new
      → AddsAnswers (answers_from 0 (found ++ last ∷ [])) old new
  adds_type k between new found last same first then =
      let e : k ≡ 0 + length found = omega arith in
      subst (λ (answers : List Answer). AddsAnswers answers old new) (sym (answers_push 0 found last))
      (adds_more (answers_from 0 found) (map (answer_to (0 + length found)) last) old between new first (subst (λ (q : ℕ). AddsAnswers (map (answer_to q) last) between new) e then))

  -- all leaves of a type were found if the status says so
  ended : (IsLeaf : Found → Type 0) (found : List Found) (b : Buffers) (s : Status) → s ≡ Done → EndsAfter most IsLeaf found b s → AreAll IsLeaf found
  ended IsLeaf found b s is (done h e) = h
  ended IsLeaf found b s is (stopped (over next h many e)) = let no : ⊥ = cc in absurd no
  ended IsLeaf found b s is (stopped (full next h few room e)) = let no : ⊥ = cc in absurd no
  ended IsLeaf found b s is (stopped (no_memory h e)) = let no : ⊥ = cc in absurd no

  -- not all were found if it says something else
  not_ended : (IsLeaf : Found → Type 0) (found : List Found) (b : Buffers) (s : Status) → ¬ (s ≡ Done) → EndsAfter most IsLeaf found b s → StopsAfter most IsLeaf found b s
  not_ended IsLeaf found b s is_not (done h e) = absurd (is_not e)
  not_ended IsLeaf found b s is_not (stopped h) = h

  -- the leaves of one type more are written
  pub answering_more : (k place ty : ℕ) (between new : Buffers) → IsAnswering k between → slice_get types k ≡ Some ty → place ≡ k → WritesType m n ty most place between new Done → IsAnswering (k + 1) new
  answering_more k place ty between new w there same wrote = record {
    found = w.found ++ wrote.found ∷ [];
    as_many = let e : length (w.found ++ wrote.found ∷ []) ≡ length w.found + 1 = simp length-append in omega (arith, e, w.as_many);
    each = zip_more (λ (t : ℕ) (f : List Found). AreAll (IsLeafOf (global_lists m) n t) f) types w.found ty wrote.found k w.as_many w.each there (ended (IsLeafOf (global_lists m) n ty) wrote.found new Done refl wrote.ends);
    added = adds_type k between new w.found wrote.found w.as_many w.added (subst (λ (q : ℕ). AddsAnswers (map (answer_to q) wrote.found) between new) same wrote.added);
  }

  -- the leaves of all types are written
  pub answering_all : (k : ℕ) (new : Buffers) → IsAnswering k new → HasTypes m types → length types ≤ k → WritesAll m types n most old new Done
  answering_all k new w has past = record {
    answers = answers_from 0 w.found;
    added = w.added;
    reported = all has w.found (subst (λ (ts : List ℕ). AreLeavesOfEach m n ts w.found) (take_all k types past) w.each) refl refl;
  }

  -- the leaves of a type are written up to one
  pub answering_some : (k place ty : ℕ) (between new : Buffers) (s : Status) → IsAnswering k between → HasTypes m types → slice_get types k ≡ Some ty → place ≡ k → ¬ (s ≡ Done) → WritesType m n ty most place between new s → WritesAll m types n most old new s
  answering_some k place ty between new s w has there same is_not wrote = record {
    answers = answers_from 0 (w.found ++ wrote.found ∷ []);
    added = adds_type k between new w.found wrote.found w.as_many w.added (subst (λ (q : ℕ). AddsAnswers (map (answer_to q) wrote.found) between new) same wrote.added);
    reported = some has w.found ty wrote.found (subst (λ (j : ℕ). AreLeavesOfEach m n (take j types) w.found) (sym w.as_many) w.each) (subst (λ (j : ℕ). slice_get types j ≡ Some ty) (sym w.as_many) there) refl
        (not_ended (IsLeafOf (global_lists m) n ty) wrote.found new s is_not wrote.ends);
  }

  -- there are more types than a row can say
  pub answering_too_many : (k : ℕ) (new : Buffers) → IsAnswering k new → HasTypes m types → largest_u32 < k → k < length types → WritesAll m types n most old new Room
  answering_too_many k new w has large within = record {
    answers = answers_from 0 w.found;
    added = w.added;
    reported = too_many has w.found (subst (λ (j : ℕ). AreLeavesOfEach m n (take j types) w.found) (sym w.as_many) w.each)
        (subst (λ (j : ℕ). largest_u32 < j) (sym w.as_many) large) (subst (λ (j : ℕ). j < length types) (sym w.as_many) within) refl refl;
  }
