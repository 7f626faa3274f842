-- The rules of operators on one value, of selections, derivatives, queries and conversions.
use Rattle.std.specs.Prelude.{◌&&◌, ◌||◌, leb, ℕ, Bool as Boolean, true, false, List, [], ◌∷◌, Option, Some, None, Result, is_some, unwrap_or}
use Rattle.naga_flags.specs.Width.{is_good_width, width_32}
use Rattle.naga_flags.specs.declared.flags.ShaderStages.{ShaderStages}
use Rattle.naga_ir.specs.declared.expression.RelationalFunction.{RelationalFunction}
use Rattle.naga_ir.specs.declared.expression.RelationalFunction.TheVariants.{All, Any, IsNan, IsInf}
use Rattle.naga_ir.specs.declared.expression.UnaryOperator.{UnaryOperator}
use Rattle.naga_ir.specs.declared.expression.UnaryOperator.TheVariants.{Negate, LogicalNot, BitwiseNot}
use Rattle.naga_ir.specs.TypeWords.{vector_size_and_scalar}
use Rattle.naga_ir.specs.contracts.types.VectorSizePartialEq.TheImpl as of_size
use Rattle.naga_ir.specs.declared.types.Scalar.{Scalar as ScalarType}
use Rattle.naga_ir.specs.declared.types.ScalarKind.{ScalarKind}
use Rattle.naga_ir.specs.declared.types.ScalarKind.TheVariants.{Sint, Uint, Float, Bool, AbstractInt, AbstractFloat}
use Rattle.naga_ir.specs.declared.types.TypeInner.{TypeInner}
use Rattle.naga_ir.specs.declared.types.TypeInner.TheVariants.{Scalar, Vector, Matrix}
use Rattle.naga_ir.specs.declared.types.VectorSize.{VectorSize}
use Rattle.naga_info.specs.Stages.{every_stage, fragment_stage}
use Rattle.naga_info.specs.Surroundings.{ExpressionSurroundings, form_at}
use Rattle.naga_info.specs.Words.{are_equal, consists_of, is_bool}
use Rattle.naga_info.specs.declared.expression_error.ExpressionError.{ExpressionError}
use Rattle.naga_info.specs.declared.expression_error.ExpressionError.TheVariants as refusal
use Rattle.naga_types.specs.Checks.{ok_unless, first_error_or, require}
use Rattle.naga_types.specs.TypeRule.{is_float, is_integer}

-- `kind` is `Sint`
abbrev pub is_signed : ScalarKind → Boolean
is_signed Sint = true
is_signed Uint = false
is_signed Float = false
is_signed Bool = false
is_signed AbstractInt = false
is_signed AbstractFloat = false

-- an operator on one value takes values of `kind`
abbrev pub takes : UnaryOperator → ScalarKind → Boolean
takes Negate kind = is_float kind || is_signed kind
takes LogicalNot kind = is_bool kind
takes BitwiseNot kind = is_integer kind

-- the rule of an operator on one value
abbrev pub unary_rule : ExpressionSurroundings → UnaryOperator → ℕ → Result ShaderStages ExpressionError
unary_rule s op e =
    ok_unless (require (consists_of (λ scalar. takes op scalar.kind) (form_at s e))
    (refusal.InvalidUnaryOperandType op e)) every_stage

-- one bool chooses between values of any size, and several between vectors of as many components
abbrev pub chooses_size : Option VectorSize → Option VectorSize → Boolean
chooses_size None size = true
chooses_size (Some n) (Some m) = of_size.ghosts.eq n m
chooses_size (Some n) None = false

-- a condition chooses between values, scalars or vectors: it is a bool, or a vector of as many
-- bools as these have components
abbrev pub chooses : Option (Option VectorSize × ScalarType) → Option (Option VectorSize × ScalarType) → Boolean
chooses (Some condition) (Some value) = is_bool condition.1.kind && chooses_size condition.0 value.0
chooses (Some condition) None = false
chooses None _ = false

-- the conditions of a selection: the values have one type, and the condition chooses between such
abbrev pub select_checks : TypeInner → TypeInner → TypeInner → List (Option ExpressionError)
select_checks condition accept reject =
    require (are_equal accept reject) (refusal.SelectValuesTypeMismatch accept reject) ∷
    require (chooses (vector_size_and_scalar condition) (vector_size_and_scalar accept))
    (refusal.SelectConditionNotABool condition) ∷ []

-- the rule of a selection
abbrev pub select_rule : ExpressionSurroundings → ℕ → ℕ → ℕ → Result ShaderStages ExpressionError
select_rule s condition accept reject =
    first_error_or (select_checks (form_at s condition) (form_at s accept) (form_at s reject)) every_stage

-- the rule of a derivative: of floating-point numbers of at least 32 bits, and vectors of such, among fragments
abbrev pub derivative_rule : ExpressionSurroundings → ℕ → Result ShaderStages ExpressionError
derivative_rule s e =
    let is_float_32 = consists_of (λ scalar. is_float scalar.kind && leb width_32 scalar.width) (form_at s e) in
    ok_unless (require is_float_32 refusal.InvalidDerivative) fragment_stage

-- a type is a vector of bools
abbrev pub is_vector_of_bools : Option (Option VectorSize × ScalarType) → Boolean
is_vector_of_bools (Some found) = is_some found.0 && is_bool found.1.kind
is_vector_of_bools None = false

-- the error of an argument, unless it is a vector of bools for `All` and `Any`, and a floating-point number or a vector
-- of such for `IsNan` and `IsInf`
abbrev pub relational_argument_error : RelationalFunction → ℕ → TypeInner → Option ExpressionError
relational_argument_error All e inner =
    require (is_vector_of_bools (vector_size_and_scalar inner)) (refusal.InvalidBooleanVector e)
relational_argument_error Any e inner =
    require (is_vector_of_bools (vector_size_and_scalar inner)) (refusal.InvalidBooleanVector e)
relational_argument_error IsNan e inner =
    require (consists_of (λ scalar. is_float scalar.kind) inner) (refusal.InvalidFloatArgument e)
relational_argument_error IsInf e inner =
    require (consists_of (λ scalar. is_float scalar.kind) inner) (refusal.InvalidFloatArgument e)

-- the rule of a query of a value
abbrev pub relational_rule : ExpressionSurroundings → RelationalFunction → ℕ → Result ShaderStages ExpressionError
relational_rule s fun argument = ok_unless (relational_argument_error fun argument (form_at s argument)) every_stage

-- the scalar that a conversion converts: the scalar of a scalar, a vector or a matrix
abbrev pub cast_scalar : TypeInner → Option ScalarType
cast_scalar (Scalar scalar) = Some scalar
cast_scalar (Vector size scalar) = Some scalar
cast_scalar (Matrix columns rows scalar) = Some scalar
cast_scalar _ = None

-- a scalar can be converted to `kind`, and to `width` if it is given, or else keeps its own width
abbrev pub can_cast : ℕ → ScalarKind → Option ℕ → Option ScalarType → Boolean
can_cast capabilities kind width (Some scalar) =
    is_good_width capabilities (record { kind = kind; width = unwrap_or width scalar.width })
can_cast capabilities kind width None = false

-- the rule of a conversion
abbrev pub as_rule : ExpressionSurroundings → ℕ → ScalarKind → Option ℕ → Result ShaderStages ExpressionError
as_rule s e kind convert =
    ok_unless (require (can_cast s.capabilities kind convert (cast_scalar (form_at s e))) refusal.InvalidCastArgument)
    every_stage
