use Rattle.std.proofs.Common.{◌≡◌, ◌∙◌, ◌+◌, ◌++◌, ◌∷◌, ◌<◌, [], ℕ, List, max, ap, sym, subst, arith, length, rules}
use Rattle.naga_ir.specs.ItemReferences.{global_lists}
use Rattle.naga_ir.specs.Handles.{size_initialiser}
use Rattle.naga_ir.specs.Ranks.{reach, top_before}
use Rattle.naga_handles.specs.steps.VisitState.{Placed, Visited}
use Rattle.naga_handles.specs.declared.order.Item.{Item}
use Rattle.naga_handles.specs.declared.order.Item.TheVariants as item
use Rattle.naga_handles.proofs.WaitingLemmas.{waiting_end, top_next, top_zero, waits}
use Rattle.naga_handles.proofs.GrowingOrder.{placed_all, placed_none, placed_type}
use Rattle.naga_handles.proofs.order.order_of.Goals as goal

pub loop-index-init : goal.loop-index-init
loop-index-init c =
    let g = global_lists c.args.module.now in
    record {
      visited = c.in_ok-walker.ensures.visited;
      top = top_zero g;
      inside = omega arith;
      placed = subst (λ (items : List Item). Placed g items 0 0) (sym c.new-order.ensures.items) (placed_none g);
    }

pub loop-index-preserved : goal.loop-index-preserved
loop-index-preserved c =
    let m = c.args.module.now in
    let g = global_lists m in
    let t = c.loop-index.index in
    let needed = c.max-needed.result in
    let so_far = c.loop-index.invariant in
    let size = c.in_ok-visit_type.ensures.size in
    let pushed = c.in_ok-push_visited.ensures in
    let within : t < length m.types = omega (arith, c.loop-index-test.true, c.len-index-end.ensures.value) in
    let needs : c.in_ok-visit_type.field-0 ≡ reach (size_initialiser g t) = size.0 ∙ ap (λ (k : ℕ). reach (size_initialiser g k)) c.new-handle.ensures in
    let most : needed ≡ max c.loop-index.placed c.in_ok-visit_type.field-0 = search rules in
    let top : top_before g (t + 1) ≡ needed = omega (arith, top_next g t, so_far.top, most, needs) in
    let between = pushed.1 g t so_far.placed (λ e a b. waits g e t within (omega (arith, a, so_far.top)) (omega (arith, b, top))) in
    let items = pushed.2 ∙ ap (λ (k : ℕ). pushed.0 ++ item.Type_ k ∷ []) c.new-handle.ensures in
    record {
      visited = subst (λ (k : ℕ). Visited m (k + 1) c.visit_type.new.self) c.new-handle.ensures c.in_ok-visit_type.ensures.visited;
      top = top;
      inside = omega (arith, so_far.inside, size.1, most);
      placed = subst (λ (xs : List Item). Placed g xs (t + 1) needed) (sym items) (placed_type g pushed.0 t needed between top);
    }

pub returns-clause-order : goal.returns-clause-order
returns-clause-order c =
    let m = c.args.module.now in
    let g = global_lists m in
    let so_far = c.loop-index.invariant in
    let all : c.loop-index.index ≡ length m.types = omega (arith, c.loop-index-test.false, c.len-index-end.ensures.value, c.loop-index.auto.index-end) in
    let top : top_before g (length m.types) ≡ c.loop-index.placed = sym (ap (top_before g) all) ∙ so_far.top in
    let before = subst (λ (t : ℕ). Placed g c.loop-index.order.items t c.loop-index.placed) all so_far.placed in
    let after = c.in_ok-push_expressions.ensures g (length m.types) before (λ e a b. waiting_end g e (omega (arith, a, top))) in
    placed_all g c.push_expressions.new.order.items (subst (Placed g c.push_expressions.new.order.items (length m.types)) c.len-2.ensures.value after)
