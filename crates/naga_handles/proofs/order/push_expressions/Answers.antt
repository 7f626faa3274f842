use Rattle.std.proofs.Common.{◌≡◌, ◌+◌, ℕ, List, [], ◌∷◌, ◌++◌, sym, subst, arith}
use Rattle.naga_ir.specs.Ranks.{first_waiting}
use Rattle.naga_handles.specs.steps.VisitState.{Placed}
use Rattle.naga_handles.specs.declared.order.Item.{Item}
use Rattle.naga_handles.specs.declared.order.Item.TheVariants as item
use Rattle.naga_handles.proofs.GrowingOrder.{placed_expression}
use Rattle.naga_handles.proofs.order.push_expressions.Goals as goal

pub loop-index-preserved : goal.loop-index-preserved
loop-index-preserved c = λ g t placed waits.
    let so_far = c.loop-index.invariant g t placed (λ e a b. waits e a (omega (arith, b))) in
    let now : first_waiting g c.loop-index.index ≡ t = waits c.loop-index.index c.loop-index.auto.index (omega arith) in
    let added = placed_expression g c.loop-index.order.items t c.loop-index.index so_far now in
    subst (λ (items : List Item). Placed g items t (c.loop-index.index + 1)) (sym c.in_ok-push.ensures.items)
    (subst (λ (n : ℕ). Placed g (c.loop-index.order.items ++ item.Expression n ∷ []) t (c.loop-index.index + 1)) (sym c.new.ensures) added)

pub returns : goal.returns
returns c = λ g t placed waits.
    let all : c.loop-index.index ≡ c.args.to = omega (arith, c.loop-index-test.false, c.loop-index.auto.index-end c.requires.grows) in
    subst (λ (n : ℕ). Placed g c.loop-index.order.items t n) all (c.loop-index.invariant g t placed (λ e a b. waits e a (omega (arith, b, all))))
