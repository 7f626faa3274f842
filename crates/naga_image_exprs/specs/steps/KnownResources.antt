-- What has to be known of an operand that stands for a resource.
use Rattle.std.specs.Prelude.{◌≡◌, ◌<◌, ℕ, Some, length, slice_get}
use Rattle.naga_ir.specs.declared.expression.Expression.TheVariants.{FunctionArgument}
use Rattle.naga_info.specs.Surroundings.{ExpressionSurroundings}

-- `e` is the index of an expression of the function, and if the expression names an argument, the function has it
pub record CanLookUp (s : ExpressionSurroundings) (e : ℕ) : Type 0 where
  pub there : e < length s.function.expressions
  pub argument : (i : ℕ) → slice_get s.function.expressions e ≡ Some (FunctionArgument i)
      → i < length s.function.arguments
