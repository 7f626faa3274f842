use Rattle.std.proofs.Common.{◌≡◌, ◌<◌, ℕ, Some, length, slice_get}
use Rattle.naga_ir.specs.declared.expression.Expression.TheVariants as form
use Rattle.naga_query.proofs.answers.functions.arguments_exist.Given as goal

-- the arguments exist that the expressions so far name
abbrev pub invariant-loop-index : goal.invariant-loop-index
invariant-loop-index l = (e i : ℕ) → e < l.index → slice_get l.function.expressions e ≡ Some (form.FunctionArgument i) → i < length l.function.arguments
