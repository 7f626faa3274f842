use Rattle.naga_query.proofs.answers.functions.validate_each.Given as goal
use Rattle.naga_typing.proofs.ExpressionTypes.{Typed}

-- the expressions so far have types
abbrev pub invariant-loop-place : goal.invariant-loop-place
invariant-loop-place l = Typed l.with.«module».now l.with.function.now.expressions l.types.types l.place-iterator
