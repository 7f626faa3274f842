use Rattle.naga_typing.proofs.ExpressionTypes.{Resolved}
use Rattle.naga_tests.proofs.tests.typings.resolve_all.Given as goal

-- the expressions so far have types
abbrev pub invariant-loop-expression : goal.invariant-loop-expression
invariant-loop-expression g l = Resolved l.module l.resolutions l.expression-iterator
