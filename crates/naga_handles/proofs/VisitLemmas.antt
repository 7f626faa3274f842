-- What is known of the types that expressions name, and of the types before one.
use Rattle.std.proofs.Common.{◌≡◌, ◌<◌, ◌≤◌, ◌+◌, ◌⊎◌, inl, inr, ℕ, max, List, [], ◌∷◌, ◌++◌, Option, Some, None, length, slice_get, refl, sym, ap, subst, ◌∙◌, arith, length-append}
use Rattle.std.proofs.lemmas.Bool.{cases_lt}
use Rattle.std.proofs.lemmas.Option.{same_Some, slice_get_within}
use Rattle.naga_ir.specs.Handles.{Exists, NamesType, module_counts, size_initialiser}
use Rattle.naga_ir.specs.ItemReferences.{GlobalLists, global_lists}
use Rattle.naga_ir.specs.Ranks.{reach}
use Rattle.naga_ir.specs.References.{named_type}
use Rattle.naga_ir.specs.declared.expression.Expression.{Expression}
use Rattle.naga_ir.specs.declared.ir.Module.{Module}
use Rattle.naga_ir.specs.declared.reference.Reference.TheVariants as to
use Rattle.naga_ir.specs.declared.types.«Type».{«Type»}
use Rattle.naga_handles.specs.Faults.{IsOrderFault, forward, missing, size_not_first, not_visited, type_}
use Rattle.naga_handles.specs.steps.VisitState.{ExpressionOk, ExpressionsOk, SizeResolvesFirst, IsGreatest, IsTable, TypeOk, Visited}
use Rattle.naga_handles.specs.declared.walk.Walker.{Walker}
use Rattle.naga_handles.specs.declared.walk.reader.Reader.{Reader}
use Rattle.naga_handles.proofs.GrowingOrder.{get_last, get_old}
use Rattle.naga_handles.proofs.OrderFaults.{size_within}

reach_same : (one other : Option ℕ) → reach one ≡ reach other → one ≡ other
reach_same None None h = refl
reach_same None (Some v) h = absurd (omega (arith, h))
reach_same (Some u) None h = absurd (omega (arith, h))
reach_same (Some u) (Some v) h = ap Some (omega (arith, h))

module _ (g : GlobalLists) where
  -- no expression names a type
  pub greatest_none : IsGreatest g 0 None
  greatest_none = record { covers = λ e u h named. absurd (omega (arith, h)); named = λ u h. absurd (cc) }

  pub table_none : (room : ℕ) → IsTable g [] 0 room
  table_none room = record { each = λ e entry at. absurd (cc); long = omega arith }

  module _ (c : ℕ) (x : Expression) (before named after : Option ℕ) (at : slice_get g.expressions c ≡ Some x) (names : named_type x ≡ named) (was : IsGreatest g c before)
      (greatest : reach after ≡ max (reach before) (reach named)) where
    covers_more : (e u : ℕ) → e < c + 1 → NamesType g e u → u < reach after
    covers_more e u h n = by_place (cases_lt e c)
      where
        by_place : (e < c) ⊎ (c ≤ e) → u < reach after
        by_place (inl l) = omega (arith, was.covers e u l n, greatest)
        by_place (inr l) =
            let place : e ≡ c = omega (arith, h, l) in
            let same : n.0 ≡ x = same_Some n.0 x (sym n.1 ∙ ap (slice_get g.expressions) place ∙ at) in
            let here : reach named ≡ u + 1 = ap reach (sym names ∙ sym (ap named_type same) ∙ n.2) in
            omega (arith, here, greatest)

    named_more : (u : ℕ) → after ≡ Some u → (e : ℕ) × (e < c + 1) × NamesType g e u
    named_more u h = by_reach (cases_lt (reach before) (reach named))
      where
        by_reach : (reach before < reach named) ⊎ (reach named ≤ reach before) → (e : ℕ) × (e < c + 1) × NamesType g e u
        by_reach (inl l) = (c, omega arith, (x, at, names ∙ sym (reach_same after named (omega (arith, greatest, l))) ∙ h))
        by_reach (inr l) = let old = was.named u (sym (reach_same after before (omega (arith, greatest, l))) ∙ h) in (old.0, omega (arith, old.1), old.2)

    -- the next expression names a type, or none
    pub greatest_more : IsGreatest g (c + 1) after
    greatest_more = record { covers = covers_more; named = named_more }

  -- the table gets an entry as long as there is room
  pub table_more : (entries : List (Option ℕ)) (c room : ℕ) (greatest : Option ℕ) → IsTable g entries c room → length entries < room → IsGreatest g (c + 1) greatest → IsTable g (entries ++ greatest ∷ []) (c + 1) room
  table_more entries c room greatest was l is = record {
    each = λ e entry at. by_place e entry at (cases_lt e (length entries));
    long = omega (arith, length-append entries (greatest ∷ []), was.long, l);
  }
    where
      by_place : (e : ℕ) (entry : Option ℕ) → slice_get (entries ++ greatest ∷ []) e ≡ Some entry → (e < length entries) ⊎ (length entries ≤ e) → IsGreatest g (e + 1) entry
      by_place e entry at (inl b) = was.each e entry (get_old entries greatest entry e b at)
      by_place e entry at (inr b) =
          let within = slice_get_within (entries ++ greatest ∷ []) e entry at in
          let place : e ≡ length entries = omega (arith, within, length-append entries (greatest ∷ []), b) in
          let here : c ≡ e = omega (arith, place, was.long, l) in
          let same : greatest ≡ entry = same_Some greatest entry (sym (get_last entries greatest e place) ∙ at) in
          subst (λ (k : ℕ). IsGreatest g (k + 1) entry) here (subst (IsGreatest g (c + 1)) same is)

  pub table_full : (entries : List (Option ℕ)) (c room : ℕ) → IsTable g entries c room → room ≤ length entries → IsTable g entries (c + 1) room
  table_full entries c room was l = record { each = was.each; long = omega (arith, was.long, l) }

module _ (m : Module) where
  pub right_none : ExpressionsOk m 0
  unfolding ExpressionsOk
  right_none e x h at = absurd (omega (arith, h))

  -- one more expression is right
  pub right_more : (c : ℕ) (x : Expression) → ExpressionsOk m c → slice_get m.global_expressions c ≡ Some x → ExpressionOk m c x → ExpressionsOk m (c + 1)
  unfolding ExpressionsOk
  right_more c x before at here e y h there = by_place (cases_lt e c)
    where
      by_place : (e < c) ⊎ (c ≤ e) → ExpressionOk m e y
      by_place (inl l) = before e y l there
      by_place (inr l) =
          let place : c ≡ e = omega (arith, h, l) in
          let same : x ≡ y = same_Some x y (sym at ∙ ap (slice_get m.global_expressions) place ∙ there) in
          subst (λ (k : ℕ). ExpressionOk m k y) place (subst (ExpressionOk m c) same here)

  -- a size that needs no expression
  pub resolves_none : (t : ℕ) → size_initialiser (global_lists m) t ≡ None → SizeResolvesFirst m t
  unfolding SizeResolvesFirst
  resolves_none t none n e u begins l names = absurd (cc)

  module _ (t n : ℕ) (entry : Option ℕ) (sized : size_initialiser (global_lists m) t ≡ Some n) (is : IsGreatest (global_lists m) (n + 1) entry) where
    -- a size whose expressions name types before the type alone
    pub resolves_passed : reach entry ≤ t → SizeResolvesFirst m t
    unfolding SizeResolvesFirst
    resolves_passed before k e u begins l names =
        let same : n ≡ k = same_Some n k (sym sized ∙ begins) in
        omega (arith, is.covers e u (omega (arith, l, same)) names, before)

    -- one whose expressions name the type itself or a later one
    pub resolves_refused : (u : ℕ) → entry ≡ Some u → t ≤ u → IsOrderFault m (forward (to.Type_ t) (to.Type_ u))
    resolves_refused u at late =
        let by = is.named u at in
        size_not_first t n by.0 u sized (omega (arith, by.1)) by.2 late

  -- one more type was visited, with one more look
  pub visited_more : (t : ℕ) (x : «Type») (w : Walker) (reader : Reader) → Visited m t w → slice_get m.types t ≡ Some x → TypeOk m t x.inner → SizeResolvesFirst m t → reader.looks ≡ w.reader.looks + 1
      → Visited m (t + 1) (record { reader = reader; visited = w.visited; kept = w.kept; greatest = w.greatest; table = w.table })
  visited_more t x w reader v at stands first counted = record {
    inside = v.inside;
    right = v.right;
    kept = v.kept;
    names = v.names;
    room = v.room;
    types = λ k y h there. type_at k y h there (cases_lt k t);
    sizes = λ k h. waiting_at k h (cases_lt k t);
    few = omega (arith, v.few, counted);
    looks = λ all. omega (arith, v.looks all, counted);
  }
    where
      type_at : (k : ℕ) (y : «Type») → k < t + 1 → slice_get m.types k ≡ Some y → (k < t) ⊎ (t ≤ k) → TypeOk m k y.inner
      type_at k y h there (inl l) = v.types k y l there
      type_at k y h there (inr l) =
          let place : t ≡ k = omega (arith, h, l) in
          let same : x ≡ y = same_Some x y (sym at ∙ ap (slice_get m.types) place ∙ there) in
          subst (λ (j : ℕ). TypeOk m j y.inner) place (subst (λ (z : «Type»). TypeOk m t z.inner) same stands)

      waiting_at : (k : ℕ) → k < t + 1 → (k < t) ⊎ (t ≤ k) → SizeResolvesFirst m k
      waiting_at k h (inl l) = v.sizes k l
      waiting_at k h (inr l) = let place : t ≡ k = omega (arith, h, l) in subst (SizeResolvesFirst m) place first

  -- after all types, if the greatest type that an expression names is missing, that is a
  -- fault: no size needs the expression
  pub missing_type : (w : Walker) (u : ℕ) → Visited m (length m.types) w → w.greatest ≡ Some u → (Exists (module_counts m) (to.Type_ u) → ⊥) → IsOrderFault m (missing (to.Type_ u))
  unfolding SizeResolvesFirst
  missing_type w u v named absent =
      let by = v.names.0.named u named in
      let unsized : (t n : ℕ) → size_initialiser (global_lists m) t ≡ Some n → by.0 ≤ n → ⊥ = λ t n begins l.
      let there = size_within (global_lists m) t n begins in
      let before = v.sizes t there n by.0 u begins l by.2 in
      omega (arith, there, before, absent) in
      not_visited (to.Type_ u) (type_ by.0 u by.2 unsized) absent
