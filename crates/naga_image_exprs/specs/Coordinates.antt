-- What the rules of images require of coordinates, and of the indexes of array layers, samples and levels.
use Rattle.std.specs.Prelude.{◌&&◌, ◌==◌, ℕ, Bool as Boolean, [], ◌∷◌, Option, Some, None, is_some}
use Rattle.std.specs.Bool.{beq}
use Rattle.naga_flags.specs.Width.{width_32}
use Rattle.naga_ir.specs.contracts.types.ScalarKindPartialEq.TheImpl as of_kind
use Rattle.naga_ir.specs.declared.types.ImageDimension.{ImageDimension}
use Rattle.naga_ir.specs.declared.types.ImageDimension.TheVariants.{D1, D2, D3, Cube}
use Rattle.naga_ir.specs.declared.types.ScalarKind.{ScalarKind}
use Rattle.naga_ir.specs.declared.types.ScalarKind.TheVariants.{Float}
use Rattle.naga_ir.specs.declared.types.TypeInner.{TypeInner}
use Rattle.naga_info.specs.Surroundings.{ExpressionSurroundings, form_at}
use Rattle.naga_info.specs.Words.{is_of, is_scalar_that}
use Rattle.naga_info.specs.declared.expression_error.ExpressionError.{ExpressionError}
use Rattle.naga_info.specs.declared.expression_error.ExpressionError.TheVariants as refusal
use Rattle.naga_types.specs.Checks.{first, require}
use Rattle.naga_types.specs.TypeRule.{is_integer}

-- how many numbers the coordinates of an image of this dimension are
abbrev pub coordinate_count : ImageDimension → ℕ
coordinate_count D1 = 1
coordinate_count D2 = 2
coordinate_count D3 = 3
coordinate_count Cube = 3

-- `inner` is `count` scalars of a kind: a scalar if `count` is 1, or a vector
abbrev pub is_of_kind : ℕ → ScalarKind → TypeInner → Boolean
is_of_kind count kind inner = is_of count (λ scalar. of_kind.ghosts.eq scalar.kind kind) inner

-- `inner` can be the coordinates of samples of an image of dimension `dim`: floating-point numbers
abbrev pub are_coordinates : ImageDimension → TypeInner → Boolean
are_coordinates dim inner = is_of_kind (coordinate_count dim) Float inner

-- `inner` is one integer of 32 bits
abbrev pub is_index : TypeInner → Boolean
is_index inner = is_scalar_that (λ scalar. is_integer scalar.kind && scalar.width == width_32) inner

-- the error of an operand, unless its type satisfies `is`, or there is none
abbrev pub unless_operand : ExpressionSurroundings → (TypeInner → Boolean) → Option ℕ → (ℕ → ExpressionError)
    → Option ExpressionError
unless_operand s is None error = None
unless_operand s is (Some e) error = require (is (form_at s e)) (error e)

-- the error of an array layer, unless one is chosen exactly if the image has several
abbrev pub layer_presence_error : Boolean → Boolean → Option ExpressionError
layer_presence_error arrayed has_index = require (beq arrayed has_index) refusal.InvalidImageArrayIndex

-- the error of an array layer, unless it is chosen of an arrayed image, and the type of its index satisfies `is`
abbrev pub layer_error : ExpressionSurroundings → (TypeInner → Boolean) → Boolean → Option ℕ → Option ExpressionError
layer_error s is arrayed array_index =
    first (layer_presence_error arrayed (is_some array_index) ∷
    unless_operand s is array_index refusal.InvalidImageArrayIndexType ∷ [])
