use Rattle.naga_typing.proofs.ExpressionKinds.{Tracked}
use Rattle.naga_typing.proofs.expression_kind.ExpressionKindTracker.from_arena.Given as goal

-- the expressions so far have the kinds so far
abbrev pub invariant-loop-expression : goal.invariant-loop-expression
invariant-loop-expression l = Tracked l.arena l.tracker l.expression-iterator
