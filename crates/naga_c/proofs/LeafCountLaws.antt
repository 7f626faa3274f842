-- Leaves of types that are counted one after another.
use Rattle.std.proofs.Common.{◌≡◌, ◌+◌, ◌≤◌, ℕ, List, [], ◌∷◌, ◌++◌, Err, Ok, Some, ap, arith, length, length-append, refl, slice_get, subst, sym, take, ◌∙◌}
use Rattle.std.proofs.lemmas.List.{take_all}
use Rattle.naga_ir.specs.ItemReferences.{global_lists}
use Rattle.naga_ir.specs.declared.ir.Module.{Module}
use Rattle.naga_leaves.proofs.FoundLaws.{IsUpTo, Remains, cursor_end, cursor_first, cursor_more, cursor_start, found_at}
use Rattle.naga_leaves.specs.Cursor.{IsAtEnd, IsCursor, IsNext, YieldsAll, path_of}
use Rattle.naga_leaves.specs.Found.{AreAll, Found, IsLeafOf}
use Rattle.naga_leaves.specs.declared.cursor.Leaves.{Leaves}
use Rattle.naga_typing.specs.Leaves.{LeafBytes, elements}
use Rattle.naga_c.specs.LeafCounts.{CannotCountType, CountsAll, IsTooMuch, at_type, over, path_total, with_each, with_found}
use Rattle.naga_c.specs.steps.LeafCounts.{CountsType}
use Rattle.naga_c.specs.Leaves.{AreLeavesOfEach, HasTypes, no_counts}
use Rattle.naga_c.specs.declared.results.Counts.{Counts}
use Rattle.naga_c.specs.declared.status.Status.{Status}
use Rattle.naga_c.specs.declared.status.Status.TheVariants.{Limit}
use Rattle.naga_c.proofs.LeafLaws.{zip_more}

-- counts are equal if both their numbers are
same_counts : (a b : Counts) → a.leaves ≡ b.leaves → a.paths ≡ b.paths → a ≡ b
same_counts a b leaves paths = λ j. record { leaves = leaves j; paths = paths j }

-- the indexes of one path more
total_more : (found : List Found) (f : Found) → path_total (found ++ f ∷ []) ≡ path_total found + length f.path
total_more [] f = omega arith
total_more (g ∷ found) f = let more = total_more found f in omega (arith, more)

-- one leaf more is counted
found_more : (before : Counts) (found : List Found) (f : Found) (more : Counts)
    → more ≡ record { leaves = (with_found before found).leaves + 1; paths = (with_found before found).paths + length f.path } → more ≡ with_found before (found ++ f ∷ [])
found_more before found f more is =
    let total = total_more found f in
    let count : length (found ++ f ∷ []) ≡ length found + 1 = simp length-append in
    is ∙ same_counts _ _ (omega (arith, count)) (omega (arith, total))

-- the leaves of one type more are counted
each_more : (before : Counts) (found : List (List Found)) (last : List Found) → with_each before (found ++ last ∷ []) ≡ with_found (with_each before found) last
each_more before [] last = refl
each_more before (first ∷ found) last = each_more (with_found before first) found last

module _ (m : Module) (n ty most : ℕ) (before : Counts) where
  -- the leaves before a cursor are counted
  pub record IsCounting (cursor : Leaves) (counts : Counts) : Type 0 where
    pub is_cursor : IsCursor cursor
    pub found : List Found
    pub up_to : IsUpTo (IsLeafOf (global_lists m) n ty) (Remains cursor) found
    pub counts_are : counts ≡ with_found before found

  -- before the first leaf nothing is counted
  pub counting_start : (cursor : Leaves) → IsCursor cursor → YieldsAll (global_lists m) (elements (global_lists m) n) ty cursor → IsCounting cursor before
  counting_start cursor is yields = record {
    is_cursor = is;
    found = [];
    up_to = cursor_start (global_lists m) n ty cursor yields;
    counts_are = same_counts _ _ (omega arith) (omega arith);
  }

  -- one leaf more is counted
  pub counting_more : (last now : Leaves) (counts more : Counts) (path : List ℕ) (leaf : LeafBytes) → IsCounting last counts → IsCursor now → IsNext last now leaf → path ≡ path_of now
      → more ≡ record { leaves = counts.leaves + 1; paths = counts.paths + length path } → IsCounting now more
  counting_more last now counts more path leaf w is next same added = record {
    is_cursor = is;
    found = w.found ++ found_at (path_of now) leaf ∷ [];
    up_to = cursor_more (global_lists m) n ty last now w.found leaf w.up_to next;
    counts_are = found_more before w.found (found_at (path_of now) leaf) more
        (added ∙ ap (λ (p : List ℕ). let c : Counts = record { leaves = counts.leaves + 1; paths = counts.paths + length p } in c) same
        ∙ ap (λ (k : Counts). let c : Counts = record { leaves = k.leaves + 1; paths = k.paths + length (path_of now) } in c) w.counts_are);
  }

  -- with the next leaf there are too many
  pub counting_over : (last now : Leaves) (counts : Counts) (path : List ℕ) (leaf : LeafBytes) → IsCounting last counts → IsNext last now leaf → path ≡ path_of now → IsTooMuch most counts (length path) → CannotCountType m n ty most before Limit
  counting_over last now counts path leaf w next same much =
      over w.found (found_at (path_of now) leaf) (cursor_first (global_lists m) n ty last now w.found leaf w.up_to next)
      (subst (λ (p : List ℕ). IsTooMuch most (with_found before w.found) (length p)) same (subst (λ (c : Counts). IsTooMuch most c (length path)) w.counts_are much)) refl

  -- all leaves are counted
  pub counting_done : (last now : Leaves) (counts : Counts) → IsCounting last counts → IsAtEnd last now → CountsType m n ty most before (Ok counts)
  counting_done last now counts w end = (w.found, cursor_end (global_lists m) n ty last now w.found w.up_to end, w.counts_are)

module _ (m : Module) (types : List ℕ) (n most : ℕ) where
  -- the leaves of the first `k` types are counted
  pub record AreCounted (k : ℕ) (counts : Counts) : Type 0 where
    pub found : List (List Found)
    pub as_many : length found ≡ k
    pub each : AreLeavesOfEach m n (take k types) found
    pub counts_are : counts ≡ with_each no_counts found

  -- before the first type nothing is counted
  pub counted_none : (counts : Counts) → counts ≡ no_counts → AreCounted 0 counts
  counted_none counts is = record { found = []; as_many = refl; each = tt; counts_are = is }

  -- the leaves of one type more are counted
  pub counted_more : (k ty : ℕ) (counts more : Counts) → AreCounted k counts → slice_get types k ≡ Some ty → CountsType m n ty most counts (Ok more) → AreCounted (k + 1) more
  counted_more k ty counts more w there counted = record {
    found = w.found ++ counted.0 ∷ [];
    as_many = let e : length (w.found ++ counted.0 ∷ []) ≡ length w.found + 1 = simp length-append in omega (arith, e, w.as_many);
    each = zip_more (λ (t : ℕ) (f : List Found). AreAll (IsLeafOf (global_lists m) n t) f) types w.found ty counted.0 k w.as_many w.each there counted.1;
    counts_are = counted.2 ∙ ap (λ (c : Counts). with_found c counted.0) w.counts_are ∙ sym (each_more no_counts w.found counted.0);
  }

  -- the leaves of all types are counted
  pub counted_all : (k : ℕ) (counts : Counts) → AreCounted k counts → length types ≤ k → CountsAll m types n most (Ok counts)
  counted_all k counts w past = (w.found, subst (λ (ts : List ℕ). AreLeavesOfEach m n ts w.found) (take_all k types past) w.each, w.counts_are)

  -- the leaves of a type can't be counted after those of the types before it
  pub not_counted : (k ty : ℕ) (counts : Counts) (why : Status) → AreCounted k counts → HasTypes m types → slice_get types k ≡ Some ty → CountsType m n ty most counts (Err why) → CountsAll m types n most (Err why)
  not_counted k ty counts why w has there cannot =
      at_type has w.found ty (subst (λ (j : ℕ). AreLeavesOfEach m n (take j types) w.found) (sym w.as_many) w.each) (subst (λ (j : ℕ). slice_get types j ≡ Some ty) (sym w.as_many) there)
      (subst (λ (c : Counts). CannotCountType m n ty most c why) w.counts_are cannot)
