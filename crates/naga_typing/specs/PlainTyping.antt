-- The types that `PlainTyping` resolves.
use Rattle.std.specs.Prelude.{ℕ, List, Option, Some, None, Result, Ok, Err, option_and_then, slice_get, unwrap_or}
use Rattle.naga_ir.specs.Literals.{literal_scalar}
use Rattle.naga_ir.specs.declared.expression.BinaryOperator.{BinaryOperator}
use Rattle.naga_ir.specs.declared.expression.BinaryOperator.TheVariants.{Multiply, Equal, NotEqual, Less, LessEqual, Greater, GreaterEqual}
use Rattle.naga_ir.specs.declared.expression.Expression.{Expression}
use Rattle.naga_ir.specs.declared.expression.Expression.TheVariants as form
use Rattle.naga_ir.specs.declared.expression.MathFunction.{MathFunction}
use Rattle.naga_ir.specs.declared.expression.RelationalFunction.{RelationalFunction}
use Rattle.naga_ir.specs.declared.expression.RelationalFunction.TheVariants.{All, Any, IsNan, IsInf}
use Rattle.naga_ir.specs.declared.ir.Constant.{Constant}
use Rattle.naga_ir.specs.declared.ir.Override.{Override}
use Rattle.naga_ir.specs.declared.ir.Module.{Module}
use Rattle.naga_ir.specs.declared.types.«Type».{«Type»}
use Rattle.naga_ir.specs.declared.types.Scalar.{Scalar as ScalarType}
use Rattle.naga_ir.specs.declared.types.ScalarKind.{ScalarKind}
use Rattle.naga_ir.specs.declared.types.ScalarKind.TheVariants as kind
use Rattle.naga_ir.specs.declared.types.StructMember.{StructMember}
use Rattle.naga_ir.specs.declared.types.TypeInner.{TypeInner}
use Rattle.naga_ir.specs.declared.types.TypeInner.TheVariants.{Scalar, Vector, Matrix, Array, Struct}
use Rattle.naga_ir.specs.declared.types.VectorSize.{VectorSize}
use Rattle.naga_typing.specs.Math.{math_type, u32_scalar}
use Rattle.naga_typing.specs.Resolutions.{operand}
use Rattle.naga_typing.specs.declared.typifier.ResolveError.{ResolveError}
use Rattle.naga_typing.specs.declared.typifier.ResolveError.TheVariants.{IncompatibleOperands, NotResolvable}
use Rattle.naga_typing.specs.declared.typifier.TypeResolution.{TypeResolution}
use Rattle.naga_typing.specs.declared.typifier.TypeResolution.TheVariants.{Handle, Value}

-- the type of an expression, or why it has none
abbrev pub ResolveResult : Type 0
ResolveResult = Result TypeResolution ResolveError

-- the type of bools
abbrev pub bool_scalar : ScalarType
bool_scalar = record { kind = kind.Bool; width = 1 }

-- the result of a rule on the type of an operand, if there is an operand
abbrev pub of_form : Option TypeInner → (TypeInner → ResolveResult) → ResolveResult
of_form None rule = Err NotResolvable
of_form (Some inner) rule = rule inner

-- the type of an operand itself, if there is one
abbrev pub same_type : Option TypeResolution → ResolveResult
same_type None = Err NotResolvable
same_type (Some r) = Ok r

-- the declared type of a constant
abbrev pub type_of_constant : Option Constant → ResolveResult
type_of_constant None = Err NotResolvable
type_of_constant (Some c) = Ok (Handle c.ty)

-- the declared type of an override
abbrev pub type_of_override : Option Override → ResolveResult
type_of_override None = Err NotResolvable
type_of_override (Some o) = Ok (Handle o.ty)

-- an element: a vector's scalar, a matrix's column, or an array's base
abbrev pub element_of : TypeInner → ResolveResult
element_of (Vector size scalar) = Ok (Value (Scalar scalar))
element_of (Matrix columns rows scalar) = Ok (Value (Vector rows scalar))
element_of (Array base size stride) = Ok (Handle base)
element_of _ = Err IncompatibleOperands

-- the type of a member, if there is one
abbrev pub type_of_member : Option StructMember → ResolveResult
type_of_member None = Err IncompatibleOperands
type_of_member (Some m) = Ok (Handle m.ty)

-- a part of a constant index: a member of a struct, or an element
abbrev pub part_of : ℕ → TypeInner → ResolveResult
part_of index (Struct members span) = type_of_member (slice_get members index)
part_of index inner = element_of inner

-- a vector of one scalar
abbrev pub splat_of : VectorSize → TypeInner → ResolveResult
splat_of size (Scalar scalar) = Ok (Value (Vector size scalar))
splat_of _ _ = Err IncompatibleOperands

-- a vector of components of a vector
abbrev pub swizzle_of : VectorSize → TypeInner → ResolveResult
swizzle_of size (Vector of_size scalar) = Ok (Value (Vector size scalar))
swizzle_of _ _ = Err IncompatibleOperands

-- bools in the shape of `inner`, a scalar or a vector
abbrev pub bools_of : TypeInner → ResolveResult
bools_of (Scalar scalar) = Ok (Value (Scalar bool_scalar))
bools_of (Vector size scalar) = Ok (Value (Vector size bool_scalar))
bools_of _ = Err IncompatibleOperands

-- a scalar converted to a kind, and to a width if one is given
abbrev pub cast_scalar : ScalarKind → Option ℕ → ScalarType → ScalarType
cast_scalar kind convert scalar = record { kind = kind; width = unwrap_or convert scalar.width }

-- a scalar, vector or matrix converted to `kind`, and to the width `convert` if one is given
abbrev pub cast_of : ScalarKind → Option ℕ → TypeInner → ResolveResult
cast_of kind convert (Scalar scalar) = Ok (Value (Scalar (cast_scalar kind convert scalar)))
cast_of kind convert (Vector size scalar) = Ok (Value (Vector size (cast_scalar kind convert scalar)))
cast_of kind convert (Matrix columns rows scalar) = Ok (Value (Matrix columns rows (cast_scalar kind convert scalar)))
cast_of _ _ _ = Err IncompatibleOperands

-- the type of a product: a new one if a matrix meets a vector or a matrix, the right factor's if a scalar precedes a
-- vector or a matrix, and else the left factor's
abbrev pub product_of : ResolveResult → ResolveResult → TypeInner → TypeInner → ResolveResult
product_of left right (Scalar s) (Vector size scalar) = right
product_of left right (Scalar s) (Matrix columns rows scalar) = right
product_of left right (Matrix columns rows scalar) (Vector size s) = Ok (Value (Vector rows scalar))
product_of left right (Vector size s) (Matrix columns rows scalar) = Ok (Value (Vector columns scalar))
product_of left right (Matrix columns rows scalar) (Matrix right_columns right_rows s) =
    Ok (Value (Matrix right_columns rows scalar))
product_of left right x y = left

-- the type of the product of two operands
abbrev pub product : List «Type» → List TypeResolution → ℕ → ℕ → ResolveResult
product types earlier left right =
    of_form (operand types earlier left) (λ x. of_form (operand types earlier right) (λ y. product_of (same_type (slice_get earlier left)) (same_type (slice_get earlier right)) x y))

-- the type of the result of an operator on two operands
abbrev pub binary_of : List «Type» → List TypeResolution → BinaryOperator → ℕ → ℕ → ResolveResult
binary_of types earlier Equal left right = of_form (operand types earlier left) bools_of
binary_of types earlier NotEqual left right = of_form (operand types earlier left) bools_of
binary_of types earlier Less left right = of_form (operand types earlier left) bools_of
binary_of types earlier LessEqual left right = of_form (operand types earlier left) bools_of
binary_of types earlier Greater left right = of_form (operand types earlier left) bools_of
binary_of types earlier GreaterEqual left right = of_form (operand types earlier left) bools_of
binary_of types earlier Multiply left right = product types earlier left right
binary_of _ earlier _ left _ = same_type (slice_get earlier left)

-- the type of the result of a relational function
abbrev pub relational_of : RelationalFunction → TypeInner → ResolveResult
relational_of All inner = Ok (Value (Scalar bool_scalar))
relational_of Any inner = Ok (Value (Scalar bool_scalar))
relational_of IsNan inner = bools_of inner
relational_of IsInf inner = bools_of inner

-- a type, if there is one, as a result
abbrev pub value_of : Result TypeInner ResolveError → ResolveResult
value_of (Err error) = Err error
value_of (Ok inner) = Ok (Value inner)

-- the type of the result of a mathematical function
abbrev pub math_of : List «Type» → List TypeResolution → MathFunction → ℕ → Option ℕ → Option ℕ → Option ℕ
    → ResolveResult
math_of types earlier fun arg arg1 arg2 arg3 =
    let at = option_and_then (operand types earlier) in
    of_form (operand types earlier arg) (λ first. value_of (math_type fun first (at arg1) (at arg2) (at arg3)))

-- the type of an expression
unfoldable pub plain_resolves : Module → Expression → List TypeResolution → ResolveResult
plain_resolves m (form.Literal value) earlier = Ok (Value (Scalar (literal_scalar value)))
plain_resolves m (form.Constant c) earlier = type_of_constant (slice_get m.constants c)
plain_resolves m (form.Override o) earlier = type_of_override (slice_get m.overrides o)
plain_resolves m (form.ZeroValue ty) earlier = Ok (Handle ty)
plain_resolves m (form.Compose ty components) earlier = Ok (Handle ty)
plain_resolves m (form.Access base index) earlier = of_form (operand m.types earlier base) element_of
plain_resolves m (form.AccessIndex base index) earlier = of_form (operand m.types earlier base) (part_of index)
plain_resolves m (form.Splat size value) earlier = of_form (operand m.types earlier value) (splat_of size)
plain_resolves m (form.Swizzle size vector pattern) earlier = of_form (operand m.types earlier vector) (swizzle_of size)
plain_resolves m (form.Unary op expr) earlier = same_type (slice_get earlier expr)
plain_resolves m (form.Derivative expr) earlier = same_type (slice_get earlier expr)
plain_resolves m (form.Select condition accept reject) earlier = same_type (slice_get earlier accept)
plain_resolves m (form.Binary op left right) earlier = binary_of m.types earlier op left right
plain_resolves m (form.Relational fun argument) earlier = of_form (operand m.types earlier argument) (relational_of fun)
plain_resolves m (form.Math fun arg arg1 arg2 arg3) earlier = math_of m.types earlier fun arg arg1 arg2 arg3
plain_resolves m (form.As expr kind convert) earlier = of_form (operand m.types earlier expr) (cast_of kind convert)
plain_resolves m (form.ArrayLength expr) earlier = Ok (Value (Scalar u32_scalar))
plain_resolves _ _ _ = Err NotResolvable
