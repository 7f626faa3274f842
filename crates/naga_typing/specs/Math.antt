-- The mathematical functions: which arguments each takes, and which type its result has.
use Rattle.std.specs.Prelude.{◌==◌, ◌&&◌, ◌||◌, ◌+◌, ◌++◌, leb, not, ℕ, Bool as Boolean, true, false, List, [], ◌∷◌, Option, Some, None, Result, Ok, Err, if◌then◌else◌, is_some, length, option_and_then, option_map, option_to_list, slice_get, zip}
use Rattle.std.specs.List.{list_all, list_any}
use Rattle.std.specs.Option.{option_map_or}
use Rattle.naga_ir.specs.declared.expression.MathFunction.{MathFunction}
use Rattle.naga_ir.specs.declared.expression.MathFunction.TheVariants as math
use Rattle.naga_ir.specs.TypeWords.{scalar_of, vector_size_and_scalar}
use Rattle.naga_ir.specs.contracts.types.ScalarKindPartialEq.TheImpl as of_kind
use Rattle.naga_ir.specs.contracts.types.TypeInnerPartialEq.TheImpl as of_inner
use Rattle.naga_ir.specs.contracts.types.VectorSizePartialEq.TheImpl as of_size
use Rattle.naga_ir.specs.declared.types.Scalar.{Scalar as ScalarType}
use Rattle.naga_ir.specs.declared.types.ScalarKind.{ScalarKind}
use Rattle.naga_ir.specs.declared.types.ScalarKind.TheVariants.{Sint, Uint, Float}
use Rattle.naga_ir.specs.declared.types.TypeInner.{TypeInner}
use Rattle.naga_ir.specs.declared.types.TypeInner.TheVariants.{Scalar, Vector, Matrix}
use Rattle.naga_ir.specs.declared.types.VectorSize.{VectorSize}
use Rattle.naga_ir.specs.declared.types.VectorSize.TheVariants.{Bi, Tri, Quad}
use Rattle.naga_typing.specs.declared.typifier.ResolveError.{ResolveError}
use Rattle.naga_typing.specs.declared.typifier.ResolveError.TheVariants.{IncompatibleOperands, NotResolvable}

-- what a mathematical function takes and returns: which types its first argument may have, which types each further one
-- may have after such a first one, and which type the result has, by the first and those after it, if that is none of
-- the module
pub record Signature : Type 0 where
  pub first : TypeInner → Boolean
  pub further : List (TypeInner → TypeInner → Boolean)
  pub result : TypeInner → List TypeInner → Option TypeInner

-- the numbers of columns and rows of a matrix, and its scalar; other types have none
abbrev pub matrix_parts : TypeInner → Option (VectorSize × VectorSize × ScalarType)
matrix_parts (Matrix columns rows scalar) = Some (columns, rows, scalar)
matrix_parts _ = None

-- the number of components of a vector, and its scalar; other types have none
abbrev pub vector_parts : TypeInner → Option (VectorSize × ScalarType)
vector_parts (Vector size scalar) = Some (size, scalar)
vector_parts _ = None

-- the scalar, or the vector of it if there is a size
abbrev pub of_components : Option VectorSize × ScalarType → TypeInner
of_components (None, scalar) = Scalar scalar
of_components (Some size, scalar) = Vector size scalar

-- the type of signed integers of four bytes
abbrev pub i32_scalar : ScalarType
i32_scalar = record { kind = Sint; width = 4 }

-- the type of unsigned integers of four bytes
abbrev pub u32_scalar : ScalarType
u32_scalar = record { kind = Uint; width = 4 }

-- the type of floating-point numbers of four bytes
abbrev pub f32_scalar : ScalarType
f32_scalar = record { kind = Float; width = 4 }

-- any number of components, be it one scalar or a vector
abbrev pub any_size : Option VectorSize → Boolean
any_size size = true

-- the size of a vector of three components
abbrev pub is_three : Option VectorSize → Boolean
is_three (Some Tri) = true
is_three (Some Bi) = false
is_three (Some Quad) = false
is_three None = false

-- `inner` is a scalar of one of `kinds`, or a vector of such, and its number of components satisfies `is_so`
abbrev pub consists_of : (Option VectorSize → Boolean) → List ScalarKind → TypeInner → Boolean
consists_of is_so kinds inner = option_map_or (λ found. is_so found.0 && list_any (of_kind.ghosts.eq found.1.kind) kinds) (vector_size_and_scalar inner) false

-- a type is a matrix
abbrev pub is_matrix : TypeInner → Boolean
is_matrix inner = is_some (matrix_parts inner)

-- a type is a matrix of as many columns as rows
abbrev pub is_square : TypeInner → Boolean
is_square inner = option_map_or (λ parts. of_size.ghosts.eq parts.0 parts.1) (matrix_parts inner) false

-- a type is a matrix of as many columns as rows, whose scalar is of one of `kinds`
abbrev pub is_square_of : List ScalarKind → TypeInner → Boolean
is_square_of kinds inner =
    option_map_or (λ parts. of_size.ghosts.eq parts.0 parts.1 && list_any (of_kind.ghosts.eq parts.2.kind) kinds)
    (matrix_parts inner) false

-- two types are equal
abbrev pub same : TypeInner → TypeInner → Boolean
same first inner = of_inner.ghosts.eq first inner

-- `inner` is the scalar of `first`
abbrev pub scalar_of_first : TypeInner → TypeInner → Boolean
scalar_of_first first inner = option_map_or (λ scalar. same (Scalar scalar) inner) (scalar_of first) false

-- `inner` is `first`, or the scalar of `first`
abbrev pub same_or_scalar : TypeInner → TypeInner → Boolean
same_or_scalar first inner = same first inner || scalar_of_first first inner

-- `inner` is a vector of the scalar of `first`
abbrev pub vector_of_scalar : TypeInner → TypeInner → Boolean
vector_of_scalar first inner =
    option_map_or (λ parts. scalar_of_first first (Scalar parts.1)) (vector_parts inner) false

-- the type of the exponents of a scalar or a vector: as many integers as it has components
abbrev pub exponent_type : TypeInner → Option TypeInner
exponent_type inner = option_map (λ found. of_components (found.0, i32_scalar)) (vector_size_and_scalar inner)

-- `inner` is the type of the exponents of `first`
abbrev pub exponent_of_first : TypeInner → TypeInner → Boolean
exponent_of_first first inner = option_map_or (λ exponent. same exponent inner) (exponent_type first) false

-- `inner` is `wanted`, whatever `first` is
abbrev pub exactly : TypeInner → TypeInner → TypeInner → Boolean
exactly wanted first inner = same wanted inner

-- the type of `first` itself, a scalar or a vector
abbrev pub argument_type : TypeInner → List TypeInner → Option TypeInner
argument_type first further = option_map of_components (vector_size_and_scalar first)

-- the type of the scalar of `first`
abbrev pub scalar_type : TypeInner → List TypeInner → Option TypeInner
scalar_type first further = option_map Scalar (scalar_of first)

-- the type of `first` itself, a matrix
abbrev pub matrix_type : TypeInner → List TypeInner → Option TypeInner
matrix_type first further = option_map (λ parts. Matrix parts.0 parts.1 parts.2) (matrix_parts first)

-- the type of the matrix `first` with its columns and rows swapped
abbrev pub transposed : TypeInner → List TypeInner → Option TypeInner
transposed first further = option_map (λ parts. Matrix parts.1 parts.0 parts.2) (matrix_parts first)

-- the type of a matrix of as many rows as the vector `first` has components, and as many columns as the one after it
abbrev pub outer_product : TypeInner → List TypeInner → Option TypeInner
outer_product first further =
    option_and_then (λ left. option_map (λ right. Matrix right.0 left.0 left.1)
    (option_and_then vector_parts (slice_get further 0))) (vector_parts first)

-- the type `inner`, whatever the arguments are
abbrev pub always : TypeInner → TypeInner → List TypeInner → Option TypeInner
always inner first further = Some inner

-- a struct of the module, and so no type that follows from the arguments
abbrev pub of_module : TypeInner → List TypeInner → Option TypeInner
of_module first further = None

-- scalars of one of these kinds, and vectors of such
abbrev pub values_of : List ScalarKind → TypeInner → Boolean
values_of kinds = consists_of any_size kinds

-- vectors of scalars of one of these kinds
abbrev pub vectors_of : List ScalarKind → TypeInner → Boolean
vectors_of kinds = consists_of is_some kinds

-- floating-point numbers
abbrev pub float : List ScalarKind
float = Float ∷ []

-- numbers with a width of their own
abbrev pub number : List ScalarKind
number = Sint ∷ Uint ∷ Float ∷ []

-- numbers with a sign
abbrev pub signed : List ScalarKind
signed = Float ∷ Sint ∷ []

-- integers with a width of their own
abbrev pub integer : List ScalarKind
integer = Sint ∷ Uint ∷ []

-- a function of one argument, whose type the result has
abbrev pub unary : (TypeInner → Boolean) → Signature
unary first = record { first = first; further = []; result = argument_type }

-- a function of two arguments of one type, which the result has too
abbrev pub binary : (TypeInner → Boolean) → Signature
binary first = record { first = first; further = same ∷ []; result = argument_type }

-- a function of three arguments of one type, which the result has too
abbrev pub ternary : (TypeInner → Boolean) → Signature
ternary first = record { first = first; further = same ∷ same ∷ []; result = argument_type }

-- a function of one argument of the type `from`, whose result has the type `to`
abbrev pub conversion : TypeInner → TypeInner → Signature
conversion from to = record { first = same from; further = []; result = always to }

-- what each function takes and returns
unfoldable pub signature : MathFunction → Signature
signature math.Length = record (unary (values_of float)) { result = scalar_type }
signature math.Normalize = unary (vectors_of float)
signature math.Modf = record (unary (values_of float)) { result = of_module }
signature math.Frexp = record (unary (values_of float)) { result = of_module }
signature math.Ldexp = record (unary (values_of float)) { further = exponent_of_first ∷ [] }
signature math.Atan2 = binary (values_of float)
signature math.Pow = binary (values_of float)
signature math.Step = binary (values_of float)
signature math.Reflect = binary (vectors_of float)
signature math.Distance = record (binary (values_of float)) { result = scalar_type }
signature math.Cross = binary (consists_of is_three float)
signature math.Fma = ternary (values_of float)
signature math.SmoothStep = ternary (values_of float)
signature math.FaceForward = ternary (vectors_of float)
signature math.Mix = record (ternary (values_of float)) { further = same ∷ same_or_scalar ∷ [] }
signature math.Refract = record (ternary (vectors_of float)) { further = same ∷ scalar_of_first ∷ [] }
signature math.Abs = unary (values_of number)
signature math.Min = binary (values_of number)
signature math.Max = binary (values_of number)
signature math.Clamp = ternary (values_of number)
signature math.Dot = record (binary (vectors_of number)) { result = scalar_type }
signature math.Dot4I8Packed = record (binary (same (Scalar u32_scalar))) { result = always (Scalar i32_scalar) }
signature math.Dot4U8Packed = record (binary (same (Scalar u32_scalar))) { result = always (Scalar u32_scalar) }
signature math.Outer =
    record (unary (vectors_of float)) { further = vector_of_scalar ∷ []; result = outer_product }
signature math.Sign = unary (values_of signed)
signature math.CountTrailingZeros = unary (values_of integer)
signature math.CountLeadingZeros = unary (values_of integer)
signature math.CountOneBits = unary (values_of integer)
signature math.ReverseBits = unary (values_of integer)
signature math.FirstTrailingBit = unary (values_of integer)
signature math.FirstLeadingBit = unary (values_of integer)
signature math.ExtractBits =
    record (unary (values_of integer)) { further = exactly (Scalar u32_scalar) ∷ exactly (Scalar u32_scalar) ∷ [] }
signature math.InsertBits = record (unary (values_of integer)) { further = same ∷ exactly (Scalar u32_scalar) ∷ exactly (Scalar u32_scalar) ∷ [] }
signature math.Transpose = record (unary is_matrix) { result = transposed }
signature math.Determinant = record (unary is_square) { result = scalar_type }
signature math.Inverse = record (unary (is_square_of float)) { result = matrix_type }
signature math.Pack4x8snorm = conversion (Vector Quad f32_scalar) (Scalar u32_scalar)
signature math.Pack4x8unorm = conversion (Vector Quad f32_scalar) (Scalar u32_scalar)
signature math.Pack2x16snorm = conversion (Vector Bi f32_scalar) (Scalar u32_scalar)
signature math.Pack2x16unorm = conversion (Vector Bi f32_scalar) (Scalar u32_scalar)
signature math.Pack2x16float = conversion (Vector Bi f32_scalar) (Scalar u32_scalar)
signature math.Pack4xI8 = conversion (Vector Quad i32_scalar) (Scalar u32_scalar)
signature math.Pack4xU8 = conversion (Vector Quad u32_scalar) (Scalar u32_scalar)
signature math.Pack4xI8Clamp = conversion (Vector Quad i32_scalar) (Scalar u32_scalar)
signature math.Pack4xU8Clamp = conversion (Vector Quad u32_scalar) (Scalar u32_scalar)
signature math.Unpack4x8snorm = conversion (Scalar u32_scalar) (Vector Quad f32_scalar)
signature math.Unpack4x8unorm = conversion (Scalar u32_scalar) (Vector Quad f32_scalar)
signature math.Unpack2x16snorm = conversion (Scalar u32_scalar) (Vector Bi f32_scalar)
signature math.Unpack2x16unorm = conversion (Scalar u32_scalar) (Vector Bi f32_scalar)
signature math.Unpack2x16float = conversion (Scalar u32_scalar) (Vector Bi f32_scalar)
signature math.Unpack4xI8 = conversion (Scalar u32_scalar) (Vector Quad i32_scalar)
signature math.Unpack4xU8 = conversion (Scalar u32_scalar) (Vector Quad u32_scalar)
signature _ = unary (values_of float)

-- each further argument is as its rule says, by the first
abbrev pub each_ok : List (TypeInner → TypeInner → Boolean) → TypeInner → List TypeInner → Boolean
each_ok rules first further = list_all (λ pair. pair.0 first pair.1) (zip rules further)

-- each further argument is as its rule says, by the first, and there are at most as many of them as `rules`
abbrev pub takes_each : List (TypeInner → TypeInner → Boolean) → TypeInner → List TypeInner → Boolean
takes_each rules first further = leb (length further) (length rules) && each_ok rules first further

-- a function takes arguments of these types, which may be the first of several: the first is as it takes it, and so
-- is each further one by the first
abbrev pub takes : Signature → List TypeInner → Boolean
takes s [] = true
takes s (first ∷ further) = s.first first && takes_each s.further first further

-- the function `fun` takes arguments of these types, which may be the first of several
abbrev pub accepts : MathFunction → List TypeInner → Boolean
accepts fun types = takes (signature fun) types

-- how many arguments a function takes
abbrev pub argument_count : MathFunction → ℕ
argument_count fun = length (signature fun).further + 1

-- a type that follows from the arguments, or the error if it is one of the module
abbrev pub unless_of_module : Option TypeInner → Result TypeInner ResolveError
unless_of_module None = Err NotResolvable
unless_of_module (Some inner) = Ok inner

-- the type of the result, if a function takes these arguments, and no others after them
abbrev pub result_type : MathFunction → List TypeInner → Result TypeInner ResolveError
result_type fun [] = Err IncompatibleOperands
result_type fun (first ∷ further) =
    if accepts fun (first ∷ further) && length (first ∷ further) == argument_count fun
    then unless_of_module ((signature fun).result first further) else Err IncompatibleOperands

-- no argument is given after one that isn't
abbrev pub has_no_gap : {A : Type 0} → Option A → Option A → Option A → Boolean
has_no_gap second third fourth = (is_some second || not (is_some third)) && (is_some third || not (is_some fourth))

-- the arguments that are given
abbrev pub arguments : {A : Type 0} → A → Option A → Option A → Option A → List A
arguments first second third fourth = first ∷ option_to_list second ++ (option_to_list third ++ option_to_list fourth)

-- the type of the result of a function of these arguments, if there is no gap between them
abbrev pub math_type : MathFunction → TypeInner → Option TypeInner → Option TypeInner → Option TypeInner
    → Result TypeInner ResolveError
math_type fun first second third fourth =
    if has_no_gap second third fourth then result_type fun (arguments first second third fourth)
    else Err IncompatibleOperands
