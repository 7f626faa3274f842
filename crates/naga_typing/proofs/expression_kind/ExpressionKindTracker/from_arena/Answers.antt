use Rattle.std.proofs.Common.{rules, ◌≡◌, ◌++◌, ◌∷◌, [], refl, ◌∙◌}
use Rattle.naga_typing.specs.Kinds.{kind_of}
use Rattle.naga_typing.proofs.ExpressionKinds.{next_operands}
use Rattle.naga_typing.proofs.Iteration.{accepts_all, all_values, one_more_value, start}
use Rattle.naga_typing.proofs.expression_kind.ExpressionKindTracker.from_arena.Goals as goal

pub loop-expression-init : goal.loop-expression-init
loop-expression-init c = start kind_of accepts_all c.args.arena.now _ _ c.new.ensures (c.into_iter-expression-iterator.ensures.into_iter_gives ∙ c.iter-expression-items.ensures)

pub kind_of-kind-requires : goal.kind_of-kind-requires
kind_of-kind-requires c = next_operands c.args.arena.now c.requires _ _ _ _ _ c.loop-expression.invariant c.in-Some.ensures.steps

pub loop-expression-preserved : goal.loop-expression-preserved
loop-expression-preserved c =
    let now : c.push.new.self.items ≡ c.loop-expression.tracker ++ kind_of c.loop-expression.tracker c.in-Some.expression.now ∷ [] = search rules in
    one_more_value kind_of accepts_all c.args.arena.now _ _ _ _ _ _ c.loop-expression.invariant c.in-Some.ensures.steps refl now

pub returns-clause-kinds : goal.returns-clause-kinds
returns-clause-kinds c = all_values kind_of accepts_all c.args.arena.now _ _ c.loop-expression.invariant c.in-None.ensures.steps.0
