-- The rule of operators on two values.
use Rattle.std.specs.Prelude.{◌≡◌, ◌&&◌, ◌||◌, ◌*◌, ℕ, Bool as Boolean, true, false, Option, Some, None, Result, Ok, Err}
use Rattle.naga_flags.specs.declared.flags.ShaderStages.{ShaderStages}
use Rattle.naga_ir.specs.declared.expression.BinaryOperator.{BinaryOperator}
use Rattle.naga_ir.specs.declared.expression.BinaryOperator.TheVariants.{Add, Subtract, Multiply, Divide, Modulo, Equal, NotEqual, Less, LessEqual, Greater, GreaterEqual, And, ExclusiveOr, InclusiveOr, LogicalAnd, LogicalOr, ShiftLeft, ShiftRight}
use Rattle.naga_ir.specs.TypeWords.{vector_size_and_scalar}
use Rattle.naga_ir.specs.contracts.types.VectorSizePartialEq.TheImpl as of_size
use Rattle.naga_ir.specs.declared.types.Scalar.{Scalar as ScalarType}
use Rattle.naga_ir.specs.declared.types.ScalarKind.{ScalarKind}
use Rattle.naga_ir.specs.declared.types.ScalarKind.TheVariants.{Sint, Uint, Float, Bool, AbstractInt, AbstractFloat}
use Rattle.naga_ir.specs.declared.types.TypeInner.{TypeInner}
use Rattle.naga_ir.specs.declared.types.TypeInner.TheVariants.{Matrix, CooperativeMatrix}
use Rattle.naga_ir.specs.declared.types.VectorSize.{VectorSize}
use Rattle.naga_info.specs.Results.{IsRuleResult}
use Rattle.naga_info.specs.Stages.{every_stage}
use Rattle.naga_info.specs.Surroundings.{ExpressionSurroundings, form_at}
use Rattle.naga_info.specs.Words.{are_equal, consists_of, is_bool, is_number}
use Rattle.naga_info.specs.declared.expression_error.ExpressionError.{ExpressionError}
use Rattle.naga_info.specs.declared.expression_error.ExpressionError.TheVariants.{DivideByZero, InvalidBinaryOperandTypes, ShiftAmountTooLarge}
use Rattle.naga_operator_exprs.specs.Integers.{ContainsForbidden, scope_of}
use Rattle.naga_operator_exprs.specs.Product.{can_multiply}
use Rattle.naga_operator_exprs.specs.declared.integers.Forbidden.{Forbidden}
use Rattle.naga_operator_exprs.specs.declared.integers.Forbidden.TheVariants.{AtLeast, Zero}
use Rattle.naga_info.specs.declared.sources.Place.TheVariants.{InFunction}
use Rattle.naga_types.specs.Checks.{when}
use Rattle.naga_types.specs.TypeMethods.{is_sized}
use Rattle.naga_types.specs.TypeRule.{is_integer}

-- `kind` is `Uint`
abbrev pub is_unsigned : ScalarKind → Boolean
is_unsigned Uint = true
is_unsigned Sint = false
is_unsigned Float = false
is_unsigned Bool = false
is_unsigned AbstractInt = false
is_unsigned AbstractFloat = false

-- `x` and `y` are equal, and each is a scalar whose kind satisfies `is`, or a vector of such
abbrev pub are_both : (ScalarKind → Boolean) → TypeInner → TypeInner → Boolean
are_both is x y = consists_of (λ scalar. is scalar.kind) x && are_equal x y

-- `inner` is a matrix, cooperative or not
abbrev pub is_any_matrix : TypeInner → Boolean
is_any_matrix (Matrix columns rows scalar) = true
is_any_matrix (CooperativeMatrix columns rows scalar role) = true
is_any_matrix _ = false

-- values of types `x` and `y` are added: the types are equal, and numbers, vectors of numbers, or matrices
abbrev pub can_add : TypeInner → TypeInner → Boolean
can_add x y = are_both is_number x y || is_any_matrix x && are_equal x y

-- two sizes are equal, or there are none
abbrev pub same_size : Option VectorSize → Option VectorSize → Boolean
same_size (Some m) (Some n) = of_size.ghosts.eq m n
same_size None None = true
same_size (Some m) None = false
same_size None (Some n) = false

-- integers are shifted by as many unsigned integers
abbrev pub can_shift : Option (Option VectorSize × ScalarType) → Option (Option VectorSize × ScalarType) → Boolean
can_shift (Some x) (Some y) = is_integer x.1.kind && is_unsigned y.1.kind && same_size x.0 y.0
can_shift (Some x) None = false
can_shift None _ = false

-- the operator `op` takes values of types `x` and `y`
abbrev pub operands_fit : BinaryOperator → TypeInner → TypeInner → Boolean
operands_fit Add x y = can_add x y
operands_fit Subtract x y = can_add x y
operands_fit Multiply x y = can_multiply x y
operands_fit Divide x y = are_both is_number x y
operands_fit Modulo x y = are_both is_number x y
operands_fit Equal x y = is_sized x && are_equal x y
operands_fit NotEqual x y = is_sized x && are_equal x y
operands_fit Less x y = are_both is_number x y
operands_fit LessEqual x y = are_both is_number x y
operands_fit Greater x y = are_both is_number x y
operands_fit GreaterEqual x y = are_both is_number x y
operands_fit And x y = are_both (λ kind. is_bool kind || is_integer kind) x y
operands_fit ExclusiveOr x y = are_both is_integer x y
operands_fit InclusiveOr x y = are_both (λ kind. is_bool kind || is_integer kind) x y
operands_fit LogicalAnd x y = are_both is_bool x y
operands_fit LogicalOr x y = are_both is_bool x y
operands_fit ShiftLeft x y = can_shift (vector_size_and_scalar x) (vector_size_and_scalar y)
operands_fit ShiftRight x y = can_shift (vector_size_and_scalar x) (vector_size_and_scalar y)

-- how many bits a byte has
abbrev pub bits_per_byte : ℕ
bits_per_byte = 8

-- what an integer must not be shifted by: as many bits as it has, or more
abbrev pub forbidden_shift : Option (Option VectorSize × ScalarType) → Option Forbidden
forbidden_shift (Some x) = when (is_integer x.1.kind) (Some (AtLeast (bits_per_byte * x.1.width)))
forbidden_shift None = None

-- what a constant must not be on the right of an operator, by the type on the left
abbrev pub forbidden_on_right : BinaryOperator → TypeInner → Option Forbidden
forbidden_on_right ShiftLeft x = forbidden_shift (vector_size_and_scalar x)
forbidden_on_right ShiftRight x = forbidden_shift (vector_size_and_scalar x)
forbidden_on_right Divide x = when (consists_of (λ scalar. is_integer scalar.kind) x) (Some Zero)
forbidden_on_right Modulo x = when (consists_of (λ scalar. is_integer scalar.kind) x) (Some Zero)
forbidden_on_right _ _ = None

-- the error of a constant on the right, by the type on the left
abbrev pub refusal_of : Forbidden → TypeInner → ℕ → ExpressionError
refusal_of (AtLeast bound) x right = ShiftAmountTooLarge x right
refusal_of Zero x right = DivideByZero

-- the operand `right` is a constant expression that contains a number which `op` forbids, and `forbidden` says which
abbrev pub RightIsForbidden : ExpressionSurroundings → BinaryOperator → ℕ → ℕ → Forbidden → Type 0
RightIsForbidden s op left right forbidden =
    (forbidden_on_right op (form_at s left) ≡ Some forbidden)
    × ContainsForbidden (scope_of s) forbidden (InFunction right)

-- the rule of an operator: the operands don't fit; or they do, and a constant on the right is forbidden; or they do,
-- and none is
pub data IsBinaryRule (s : ExpressionSurroundings) (op : BinaryOperator) (left right : ℕ) :
    Result ShaderStages ExpressionError → Type 0 where
  wrong_operands : operands_fit op (form_at s left) (form_at s right) ≡ false
      → IsBinaryRule s op left right (Err (InvalidBinaryOperandTypes op left (form_at s left) right (form_at s right)))
  forbidden_constant : (forbidden : Forbidden) → operands_fit op (form_at s left) (form_at s right) ≡ true
      → RightIsForbidden s op left right forbidden
      → IsBinaryRule s op left right (Err (refusal_of forbidden (form_at s left) right))
  accepted : operands_fit op (form_at s left) (form_at s right) ≡ true
      → ((forbidden : Forbidden) → RightIsForbidden s op left right forbidden → ⊥)
      → IsBinaryRule s op left right (Ok every_stage)

-- a call returns `result`, which is the rule of the operator `op`, out of memory aside
abbrev pub IsBinaryResult : ExpressionSurroundings → BinaryOperator → ℕ → ℕ → Result ShaderStages ExpressionError
    → Type 0
IsBinaryResult s op left right result =
    (rule : Result ShaderStages ExpressionError) × IsBinaryRule s op left right rule × IsRuleResult rule result
