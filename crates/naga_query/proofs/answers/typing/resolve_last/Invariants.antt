use Rattle.naga_query.proofs.answers.typing.resolve_last.Given as goal
use Rattle.naga_typing.proofs.ExpressionTypes.{Typed}

-- the expressions so far have types
abbrev pub invariant-loop-place : goal.invariant-loop-place
invariant-loop-place l = Typed l.«module» l.function.expressions l.types.types l.place-iterator
