-- What the rules of several variants require of operands.
use Rattle.std.specs.Prelude.{◌||◌, ◌&&◌, ◌==◌, ℕ, Bool as Boolean, true, false, Option, Some, None}
use Rattle.naga_ir.specs.Sizes.{components}
use Rattle.naga_ir.specs.TypeWords.{vector_size_and_scalar}
use Rattle.naga_ir.specs.contracts.types.TypeInnerPartialEq.TheImpl as of_inner
use Rattle.naga_ir.specs.declared.types.Scalar.{Scalar as ScalarType}
use Rattle.naga_ir.specs.declared.types.ScalarKind.{ScalarKind}
use Rattle.naga_ir.specs.declared.types.ScalarKind.TheVariants.{Sint, Uint, Float, Bool, AbstractInt, AbstractFloat}
use Rattle.naga_ir.specs.declared.types.TypeInner.{TypeInner}
use Rattle.naga_ir.specs.declared.types.VectorSize.{VectorSize}
use Rattle.naga_types.specs.TypeRule.{is_float, is_integer}

-- there is a scalar, and it satisfies `is`
abbrev pub has_scalar : (ScalarType → Boolean) → Option (Option VectorSize × ScalarType) → Boolean
has_scalar is (Some found) = is found.1
has_scalar is None = false

-- `inner` is a scalar that satisfies `is`, or a vector of such
abbrev pub consists_of : (ScalarType → Boolean) → TypeInner → Boolean
consists_of is inner = has_scalar is (vector_size_and_scalar inner)

-- how many components a scalar or a vector has
abbrev pub component_count : Option VectorSize → ℕ
component_count None = 1
component_count (Some size) = components size

-- there are `count` components, and their scalar satisfies `is`
abbrev pub has_components : ℕ → (ScalarType → Boolean) → Option (Option VectorSize × ScalarType) → Boolean
has_components count is (Some found) = component_count found.0 == count && is found.1
has_components count is None = false

-- `inner` is `count` scalars that satisfy `is`: a scalar if `count` is 1, or a vector
abbrev pub is_of : ℕ → (ScalarType → Boolean) → TypeInner → Boolean
is_of count is inner = has_components count is (vector_size_and_scalar inner)

-- `inner` is a scalar that satisfies `is`
abbrev pub is_scalar_that : (ScalarType → Boolean) → TypeInner → Boolean
is_scalar_that is inner = is_of 1 is inner

-- `inner` is one integer, of any width
abbrev pub is_integer_scalar : TypeInner → Boolean
is_integer_scalar inner = is_scalar_that (λ scalar. is_integer scalar.kind) inner

-- `kind` is `Bool`
abbrev pub is_bool : ScalarKind → Boolean
is_bool Bool = true
is_bool Sint = false
is_bool Uint = false
is_bool Float = false
is_bool AbstractInt = false
is_bool AbstractFloat = false

-- `kind` is `Sint`, `Uint` or `Float`
abbrev pub is_number : ScalarKind → Boolean
is_number kind = is_integer kind || is_float kind

-- `x` and `y` are equal
abbrev pub are_equal : TypeInner → TypeInner → Boolean
are_equal x y = of_inner.ghosts.eq x y
