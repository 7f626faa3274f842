-- Which types multiply.
use Rattle.std.specs.Prelude.{◌==◌, ◌&&◌, ◌||◌, ℕ, Bool as Boolean, true, false, Option, Some, None}
use Rattle.naga_ir.specs.Sizes.{components}
use Rattle.naga_ir.specs.TypeWords.{scalar_of}
use Rattle.naga_ir.specs.contracts.types.ScalarPartialEq.TheImpl as of_scalar
use Rattle.naga_ir.specs.declared.types.Scalar.{Scalar as ScalarType}
use Rattle.naga_ir.specs.declared.types.TypeInner.{TypeInner}
use Rattle.naga_ir.specs.declared.types.TypeInner.TheVariants.{Scalar, Vector, Matrix, CooperativeMatrix}
use Rattle.naga_info.specs.Words.{is_number}
use Rattle.naga_types.specs.Composing.{is_vector_of}
use Rattle.naga_types.specs.Checks.{when}
use Rattle.naga_types.specs.TypeRule.{is_float}

-- the columns of a left factor: the columns of a matrix, and the components of a vector of
-- floating-point numbers, which is one row
abbrev pub columns_of_left : TypeInner → Option ℕ
columns_of_left (Matrix columns rows scalar) = Some (components columns)
columns_of_left (Vector size scalar) = when (is_float scalar.kind) (Some (components size))
columns_of_left _ = None

-- the rows of a right factor: the rows of a matrix, and the components of a vector of
-- floating-point numbers, which is one column
abbrev pub rows_of_right : TypeInner → Option ℕ
rows_of_right (Matrix columns rows scalar) = Some (components rows)
rows_of_right (Vector size scalar) = when (is_float scalar.kind) (Some (components size))
rows_of_right _ = None

-- two numbers exist and are equal
abbrev pub agree : Option ℕ → Option ℕ → Boolean
agree (Some m) (Some n) = m == n
agree (Some m) None = false
agree None _ = false

-- `inner` is a matrix
abbrev pub is_matrix : TypeInner → Boolean
is_matrix (Matrix columns rows scalar) = true
is_matrix _ = false

-- `x` or `y` is a matrix, and `x` has as many columns as `y` has rows
abbrev pub multiply_by_dimensions : TypeInner → TypeInner → Boolean
multiply_by_dimensions x y = (is_matrix x || is_matrix y) && agree (columns_of_left x) (rows_of_right y)

-- both factors are vectors of one size and scalar, which multiply by components
abbrev pub multiply_by_components : TypeInner → TypeInner → Boolean
multiply_by_components (Vector size scalar) y = is_vector_of size scalar (Some y)
multiply_by_components _ _ = false

-- a scalar multiplies what consists of it, and a floating-point number any matrix
abbrev pub multiplies : ScalarType → TypeInner → Boolean
multiplies scalar (Scalar s) = of_scalar.ghosts.eq scalar s
multiplies scalar (Vector size s) = of_scalar.ghosts.eq scalar s
multiplies scalar (CooperativeMatrix columns rows s role) = of_scalar.ghosts.eq scalar s
multiplies scalar (Matrix columns rows s) = is_float scalar.kind
multiplies _ _ = false

-- the first of two factors is a scalar that multiplies the second
abbrev pub scales : TypeInner → TypeInner → Boolean
scales (Scalar scalar) y = multiplies scalar y
scales _ _ = false

-- two scalars exist, the first is a number, and both have one width
abbrev pub are_numbers_of_one_width : Option ScalarType → Option ScalarType → Boolean
are_numbers_of_one_width (Some x) (Some y) = is_number x.kind && x.width == y.width
are_numbers_of_one_width (Some x) None = false
are_numbers_of_one_width None _ = false

-- values of types `x` and `y` multiply, widths aside: by dimensions, by components, or because one of them is a scalar
-- that multiplies the other
abbrev pub forms_multiply : TypeInner → TypeInner → Boolean
forms_multiply x y = multiply_by_dimensions x y || multiply_by_components x y || scales x y || scales y x

-- values of types `x` and `y` multiply: their scalars have one width, the scalars of `x` are numbers, and the types
-- multiply, widths aside
abbrev pub can_multiply : TypeInner → TypeInner → Boolean
can_multiply x y = are_numbers_of_one_width (scalar_of x) (scalar_of y) && forms_multiply x y
