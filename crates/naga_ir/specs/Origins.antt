-- Where expressions have their values from.
use Rattle.naga_ir.specs.declared.expression.Expression.{Expression}
use Rattle.naga_ir.specs.declared.expression.Expression.TheVariants as expression
use Rattle.naga_ir.specs.declared.origin.Origin.{Origin}
use Rattle.naga_ir.specs.declared.origin.Origin.TheVariants.{Literal, Constant, Override, ZeroValue, Compose, Splat, Computed, Runtime}

-- where an expression has its value from, as far as that decides when the value is known
abbrev pub origin : Expression → Origin
origin (expression.Literal value) = Literal value
origin (expression.Constant c) = Constant c
origin (expression.Override o) = Override o
origin (expression.ZeroValue ty) = ZeroValue ty
origin (expression.Compose ty components) = Compose ty
origin (expression.Splat size value) = Splat value
origin (expression.Access base index) = Computed
origin (expression.AccessIndex base index) = Computed
origin (expression.Swizzle size vector pattern) = Computed
origin (expression.Unary op expr) = Computed
origin (expression.Binary op left right) = Computed
origin (expression.Math fun arg arg1 arg2 arg3) = Computed
origin (expression.As expr kind convert) = Computed
origin (expression.Select condition accept reject) = Computed
origin (expression.Relational fun argument) = Computed
origin (expression.ArrayLength expr) = Computed
origin _ = Runtime
