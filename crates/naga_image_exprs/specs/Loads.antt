-- The rule of loads of texels.
use Rattle.std.specs.Prelude.{ℕ, Bool as Boolean, true, false, List, [], ◌∷◌, Option, Some, None, Result}
use Rattle.naga_flags.specs.declared.flags.ShaderStages.{ShaderStages}
use Rattle.naga_image_exprs.specs.Coordinates.{layer_error, is_index}
use Rattle.naga_image_exprs.specs.Resources.{and_then, image_at}
use Rattle.naga_image_exprs.specs.declared.resource.ImageType.{ImageType}
use Rattle.naga_ir.specs.TypeWords.{is_mipmapped, is_multisampled}
use Rattle.naga_ir.specs.contracts.types.ImageDimensionPartialEq.TheImpl as of_dimension
use Rattle.naga_ir.specs.declared.types.ImageDimension.{ImageDimension}
use Rattle.naga_info.specs.Stages.{every_stage}
use Rattle.naga_info.specs.Words.{is_integer_scalar}
use Rattle.naga_info.specs.Surroundings.{ExpressionSurroundings, form_at}
use Rattle.naga_info.specs.declared.expression_error.ExpressionError.{ExpressionError}
use Rattle.naga_info.specs.declared.expression_error.ExpressionError.TheVariants as refusal
use Rattle.naga_types.specs.Checks.{first_error_or, require}
use Rattle.naga_types.specs.TypeMethods.{image_storage_coordinates}

-- there is a dimension, and it is `dim`
abbrev pub is_dimension : ImageDimension → Option ImageDimension → Boolean
is_dimension dim None = false
is_dimension dim (Some found) = of_dimension.ghosts.eq found dim

-- the error of coordinates, unless they are integers, as many as the dimension of the image has
abbrev pub coordinate_error : ExpressionSurroundings → ImageDimension → ℕ → Option ExpressionError
coordinate_error s dim coordinate =
    require (is_dimension dim (image_storage_coordinates (form_at s coordinate)))
    (refusal.InvalidImageCoordinateType dim coordinate)

-- the error of a sample, unless one is chosen of a multisampled image, by an integer of 32 bits, and none of another
abbrev pub sample_index_error : ExpressionSurroundings → Boolean → Option ℕ → Option ExpressionError
sample_index_error s true (Some e) = require (is_index (form_at s e)) (refusal.InvalidImageOtherIndexType e)
sample_index_error s true None = Some refusal.MissingImageSampleSelector
sample_index_error s false (Some e) = Some refusal.InvalidImageSampleSelector
sample_index_error s false None = None

-- the error of a level, unless one is chosen of an image that may have several, by an integer, and none of another
abbrev pub level_error : ExpressionSurroundings → Boolean → Option ℕ → Option ExpressionError
level_error s true (Some e) = require (is_integer_scalar (form_at s e)) (refusal.InvalidImageArrayIndexType e)
level_error s true None = Some refusal.MissingImageLevelSelector
level_error s false (Some e) = Some refusal.InvalidImageLevelSelector
level_error s false None = None

-- the conditions of a load from this image
abbrev pub load_checks : ExpressionSurroundings → ImageType → ℕ → Option ℕ → Option ℕ → Option ℕ
    → List (Option ExpressionError)
load_checks s image coordinate array_index sample level =
    coordinate_error s image.dim coordinate ∷
    layer_error s is_index image.arrayed array_index ∷
    sample_index_error s (is_multisampled image.class) sample ∷
    level_error s (is_mipmapped image.class) level ∷ []

-- the rule of a load of a texel
abbrev pub image_load_rule : ExpressionSurroundings → ℕ → ℕ → Option ℕ → Option ℕ → Option ℕ
    → Result ShaderStages ExpressionError
image_load_rule s image coordinate array_index sample level =
    and_then (image_at s image)
    (λ found. first_error_or (load_checks s found coordinate array_index sample level) every_stage)
