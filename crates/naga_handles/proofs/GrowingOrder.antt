-- The order as it grows.
use Rattle.std.proofs.Common.{◌≡◌, ℕ, ◌+◌, ◌<◌, ◌≤◌, ◌⊎◌, inl, inr, List, [], ◌∷◌, ◌++◌, length, slice_get, Some, arith, sym, refl, subst, ◌∙◌, length-append}
use Rattle.std.proofs.lemmas.Bool.{cases_lt}
use Rattle.std.proofs.lemmas.Option.{gets, same_Some, slice_get_within}
use Rattle.std.proofs.lemmas.Grind.{common_steps}
use Rattle.naga_arena.proofs.InOrder.{get_stays}
use Rattle.naga_ir.specs.ItemReferences.{GlobalLists}
use Rattle.naga_ir.specs.Ranks.{first_waiting, rank_of_expression, rank_of_type, top_before}
use Rattle.naga_handles.specs.Order.{IsOrder, rank_of, reference_to}
use Rattle.naga_handles.specs.steps.VisitState.{Placed}
use Rattle.naga_handles.specs.declared.order.Item.{Item}
use Rattle.naga_handles.specs.declared.order.Item.TheVariants as item

-- an item of a list keeps its index when the list grows
get_front : {X : Type 0} (xs ys : List X) (k : ℕ) (x : X) → slice_get xs k ≡ Some x → slice_get (xs ++ ys) k ≡ Some x
get_front xs ys k x at = get_stays xs ys k (slice_get_within xs k x at) ∙ at

-- the added item has the last index
pub get_last : {X : Type 0} (xs : List X) (x : X) (k : ℕ) → k ≡ length xs → slice_get (xs ++ x ∷ []) k ≡ Some x
get_last xs x k h = grind (arith, common_steps, gets)

-- an item before the added one was in the list
pub get_old : {X : Type 0} (xs : List X) (x y : X) (k : ℕ) → k < length xs → slice_get (xs ++ x ∷ []) k ≡ Some y → slice_get xs k ≡ Some y
get_old xs x y k l h = grind (arith, common_steps, gets)

module _ (g : GlobalLists) where
  ranked_more : (order : List Item) (i : Item) → ((k : ℕ) (j : Item) → slice_get order k ≡ Some j → rank_of g (reference_to j) ≡ k) → rank_of g (reference_to i) ≡ length order
      → (k : ℕ) (j : Item) → slice_get (order ++ i ∷ []) k ≡ Some j → rank_of g (reference_to j) ≡ k
  ranked_more order i before here k j at = by_place (cases_lt k (length order))
    where
      by_place : (k < length order) ⊎ (length order ≤ k) → rank_of g (reference_to j) ≡ k
      by_place (inl l) = before k j (get_old order i j k l at)
      by_place (inr l) =
          let within : k < length (order ++ i ∷ []) = slice_get_within _ _ _ at in
          let longer = length-append order (i ∷ []) in
          let last : k ≡ length order = omega (arith, within, longer, l) in
          let same : i ≡ j = same_Some i j (sym (get_last order i k last) ∙ at) in
          subst (λ (z : Item). rank_of g (reference_to z) ≡ k) same (here ∙ sym last)

  pub placed_none : Placed g [] 0 0
  placed_none = record {
    ranked = λ k i h. let l : k < 0 = slice_get_within [] k i h in absurd (omega (arith, l));
    types = λ k h. absurd (omega (arith, h));
    expressions = λ k h. absurd (omega (arith, h));
    long = refl;
  }

  -- an expression comes next
  pub placed_expression : (order : List Item) (t c : ℕ) → Placed g order t c → first_waiting g c ≡ t → Placed g (order ++ item.Expression c ∷ []) t (c + 1)
  placed_expression order t c p waits = record {
    ranked = ranked_more order (item.Expression c) p.ranked here;
    types = λ k l. get_front order _ _ _ (p.types k l);
    expressions = λ e l. by_place e l (cases_lt e c);
    long = omega (arith, length-append order (item.Expression c ∷ []), p.long);
  }
    where
      here : c + first_waiting g c ≡ length order
      here = omega (arith, p.long, waits)

      by_place : (e : ℕ) → e < c + 1 → (e < c) ⊎ (c ≤ e) → slice_get (order ++ item.Expression c ∷ []) (rank_of_expression g e) ≡ Some (item.Expression e)
      by_place e l (inl b) = get_front order _ _ _ (p.expressions e b)
      by_place e l (inr b) =
          let same : c ≡ e = omega (arith, l, b) in
          subst (λ (k : ℕ). slice_get (order ++ item.Expression c ∷ []) (rank_of_expression g k) ≡ Some (item.Expression k)) same (get_last order (item.Expression c) (rank_of_expression g c) here)

  -- a type comes next
  pub placed_type : (order : List Item) (t c : ℕ) → Placed g order t c → top_before g (t + 1) ≡ c → Placed g (order ++ item.Type_ t ∷ []) (t + 1) c
  placed_type order t c p top = record {
    ranked = ranked_more order (item.Type_ t) p.ranked here;
    types = λ k l. by_place k l (cases_lt k t);
    expressions = λ e l. get_front order _ _ _ (p.expressions e l);
    long = omega (arith, length-append order (item.Type_ t ∷ []), p.long);
  }
    where
      here : t + top_before g (t + 1) ≡ length order
      here = omega (arith, p.long, top)

      by_place : (k : ℕ) → k < t + 1 → (k < t) ⊎ (t ≤ k) → slice_get (order ++ item.Type_ t ∷ []) (rank_of_type g k) ≡ Some (item.Type_ k)
      by_place k l (inl b) = get_front order _ _ _ (p.types k b)
      by_place k l (inr b) =
          let same : t ≡ k = omega (arith, l, b) in
          subst (λ (j : ℕ). slice_get (order ++ item.Type_ t ∷ []) (rank_of_type g j) ≡ Some (item.Type_ j)) same (get_last order (item.Type_ t) (rank_of_type g t) here)

  -- if all are placed it is the order
  pub placed_all : (order : List Item) → Placed g order (length g.types) (length g.expressions) → IsOrder g order
  placed_all order p = record { ranked = p.ranked; types = p.types; expressions = p.expressions; long = p.long }
