-- The rule of queries of images.
use Rattle.std.specs.Prelude.{ℕ, [], ◌∷◌, Option, Some, None, Result}
use Rattle.naga_flags.specs.declared.flags.ShaderStages.{ShaderStages}
use Rattle.naga_image_exprs.specs.Coordinates.{is_index}
use Rattle.naga_image_exprs.specs.Resources.{and_then, image_at}
use Rattle.naga_image_exprs.specs.declared.resource.ImageType.{ImageType}
use Rattle.naga_ir.specs.declared.expression.ImageQuery.{ImageQuery}
use Rattle.naga_ir.specs.declared.expression.ImageQuery.TheVariants.{Size, NumLevels, NumLayers, NumSamples}
use Rattle.naga_ir.specs.TypeWords.{is_mipmapped, is_multisampled}
use Rattle.naga_info.specs.Stages.{every_stage}
use Rattle.naga_info.specs.Surroundings.{ExpressionSurroundings, form_at}
use Rattle.naga_info.specs.declared.expression_error.ExpressionError.{ExpressionError}
use Rattle.naga_info.specs.declared.expression_error.ExpressionError.TheVariants as refusal
use Rattle.naga_types.specs.Checks.{first, ok_unless, require}

-- the error of a query for the size of a level, unless its index is an integer of 32 bits, and the image may have
-- several levels
abbrev pub level_error : ExpressionSurroundings → ImageType → ℕ → Option ExpressionError
level_error s image level =
    first
    (require (is_index (form_at s level)) (refusal.InvalidImageOtherIndexType level) ∷
    require (is_mipmapped image.class) (refusal.InvalidImageClass image.class) ∷ [])

-- the error of a query, unless the image has the property that is queried: each image has a size
abbrev pub query_error : ExpressionSurroundings → ImageType → ImageQuery → Option ExpressionError
query_error s image (Size None) = None
query_error s image (Size (Some level)) = level_error s image level
query_error s image NumLevels = require (is_mipmapped image.class) (refusal.InvalidImageClass image.class)
query_error s image NumLayers = require image.arrayed (refusal.InvalidImageClass image.class)
query_error s image NumSamples = require (is_multisampled image.class) (refusal.InvalidImageClass image.class)

-- the rule of a query of an image
abbrev pub image_query_rule : ExpressionSurroundings → ℕ → ImageQuery → Result ShaderStages ExpressionError
image_query_rule s image query =
    and_then (image_at s image) (λ found. ok_unless (query_error s found query) every_stage)
