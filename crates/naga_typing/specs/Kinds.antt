-- When the value of an expression is known.
use Rattle.std.specs.Prelude.{ℕ, Bool, true, false, List, [], ◌∷◌, Ok, map, slice_get, unwrap_or, Option, Some, None}
use Rattle.naga_arena.specs.InOrder.{AllAcceptedInOrder, RuleInOrder}
use Rattle.naga_ir.specs.References.{operands}
use Rattle.naga_ir.specs.declared.expression.Expression.{Expression}
use Rattle.naga_ir.specs.declared.expression.Expression.TheVariants as expression
use Rattle.naga_typing.specs.declared.expression_kind.ExpressionKind.{ExpressionKind}
use Rattle.naga_typing.specs.declared.expression_kind.ExpressionKind.TheVariants.{Const, Override, Runtime}

-- the later of two kinds
abbrev pub later : ExpressionKind → ExpressionKind → ExpressionKind
later Const k = k
later Override Const = Override
later Override Override = Override
later Override Runtime = Runtime
later Runtime k = Runtime

-- the latest of some kinds
abbrev pub latest : List ExpressionKind → ExpressionKind
latest [] = Const
latest (k ∷ rest) = later k (latest rest)

-- the kind of the expression of an index
abbrev pub kind_at : List ExpressionKind → ℕ → ExpressionKind
kind_at kinds e = unwrap_or (slice_get kinds e) Runtime

-- the latest kind of the operands of an expression
abbrev pub of_operands : List ExpressionKind → Expression → ExpressionKind
of_operands kinds x = latest (map (kind_at kinds) (operands x))

-- the kind of an expression, by the kinds of other expressions
abbrev pub kind_of : List ExpressionKind → Expression → ExpressionKind
kind_of kinds (expression.Literal value) = Const
kind_of kinds (expression.ZeroValue ty) = Const
kind_of kinds (expression.Constant c) = Const
kind_of kinds (expression.Override o) = Override
kind_of kinds (expression.Compose ty components) = of_operands kinds (expression.Compose ty components)
kind_of kinds (expression.Splat size value) = of_operands kinds (expression.Splat size value)
kind_of kinds (expression.Access base index) = of_operands kinds (expression.Access base index)
kind_of kinds (expression.AccessIndex base index) = of_operands kinds (expression.AccessIndex base index)
kind_of kinds (expression.Swizzle size vector pattern) = of_operands kinds (expression.Swizzle size vector pattern)
kind_of kinds (expression.Unary op expr) = of_operands kinds (expression.Unary op expr)
kind_of kinds (expression.Binary op left right) = of_operands kinds (expression.Binary op left right)
kind_of kinds (expression.Math fun arg arg1 arg2 arg3) = of_operands kinds (expression.Math fun arg arg1 arg2 arg3)
kind_of kinds (expression.As expr kind convert) = of_operands kinds (expression.As expr kind convert)
kind_of kinds (expression.Select condition accept reject) =
    of_operands kinds (expression.Select condition accept reject)
kind_of kinds (expression.Relational fun argument) = of_operands kinds (expression.Relational fun argument)
kind_of kinds (expression.ArrayLength expr) = of_operands kinds (expression.ArrayLength expr)
kind_of _ _ = Runtime

-- `kind_of` as a rule in order, which refuses no expression
abbrev pub kind_in_order : RuleInOrder Expression ExpressionKind ⊥
kind_in_order before e x = Ok (kind_of before x)

-- `kinds` are the kinds of the expressions `xs`, each by the kinds of those before it
abbrev pub AreKinds : List Expression → List ExpressionKind → Type 0
AreKinds xs kinds = AllAcceptedInOrder kind_in_order xs kinds

-- whether a value is known when the shader is compiled
abbrev pub is_const : Option ExpressionKind → Bool
is_const (Some Const) = true
is_const _ = false

-- whether a value is known when a pipeline is created, if not before
abbrev pub is_const_or_override : Option ExpressionKind → Bool
is_const_or_override (Some Const) = true
is_const_or_override (Some Override) = true
is_const_or_override (Some Runtime) = false
is_const_or_override None = false
