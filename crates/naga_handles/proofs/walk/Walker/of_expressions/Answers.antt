use Rattle.std.proofs.Common.{◌≡◌, ◌∙◌, ℕ, List, Option, Some, ap, slice_get, refl, sym, subst, rules, arith, vec_capacity}
use Rattle.naga_ir.specs.ItemReferences.{global_lists}
use Rattle.naga_handles.specs.declared.walk.reader.Reader.{Reader}
use Rattle.naga_handles.specs.steps.VisitState.{ExpressionOk, IsTable}
use Rattle.naga_handles.proofs.VisitLemmas.{greatest_none, right_more, right_none, table_none}
use Rattle.naga_handles.proofs.walk.Walker.of_expressions.Goals as goal

pub loop-index-init : goal.loop-index-init
loop-index-init c =
    let g = global_lists c.args.module.now in
    let room = vec_capacity c.in_ok-with_capacity.field-0 in
    record {
      visited = refl;
      looks = search rules;
      kept = refl;
      right = right_none c.args.module.now;
      names = (greatest_none g, subst (λ (entries : List (Option ℕ)). IsTable g entries 0 room) (sym c.in_ok-with_capacity.ensures.items) (table_none g room));
      room = search rules;
    }

pub loop-index-preserved : goal.loop-index-preserved
loop-index-preserved c =
    let m = c.args.module.now in
    let x = c.expression_at-expression.result.now in
    let so_far = c.loop-index.invariant in
    let here = subst (λ (n : ℕ). slice_get m.global_expressions n ≡ Some x) c.new-place.ensures c.expression_at-expression.ensures.read in
    let checked : ExpressionOk m c.new-place.result x = search rules in
    let looks = ap (λ (r : Reader). r.looks) c.add.ensures.others.0 in
    record {
      visited = omega (arith, c.add.ensures.visited, so_far.visited);
      looks = omega (arith, looks, c.expression_at-expression.ensures.counted, so_far.looks);
      kept = c.add.ensures.others.1 ∙ so_far.kept;
      right = right_more m c.loop-index.index x so_far.right here (subst (λ (n : ℕ). ExpressionOk m n x) c.new-place.ensures checked);
      names = c.add.ensures.names (global_lists m) (subst (λ (n : ℕ). slice_get m.global_expressions n ≡ Some x) (sym so_far.visited) here) so_far.names;
      room = c.add.ensures.room ∙ so_far.room;
    }
