-- The rule of samples of images.
use Rattle.std.specs.Prelude.{◌≡◌, ◌&&◌, ◌||◌, ℕ, Bool as Boolean, true, false, not, List, [], ◌∷◌, Option, Some, None, Result, Ok, String, is_some, slice_get}
use Rattle.std.specs.Bool.{beq}
use Rattle.std.specs.declared.alloc.Global.{Global}
use Rattle.naga_flags.specs.declared.flags.ShaderStages.{ShaderStages}
use Rattle.naga_image_exprs.specs.Coordinates.{are_coordinates, layer_error, coordinate_count, is_of_kind}
use Rattle.naga_image_exprs.specs.Resources.{and_then, image_type, resource_type, sampler_comparison}
use Rattle.naga_image_exprs.specs.declared.resource.ImageType.{ImageType}
use Rattle.naga_image_exprs.specs.declared.sample.Sample.{Sample}
use Rattle.naga_ir.specs.declared.expression.Expression.{Expression}
use Rattle.naga_ir.specs.declared.expression.Expression.TheVariants as form
use Rattle.naga_ir.specs.declared.expression.SampleLevel.{SampleLevel}
use Rattle.naga_ir.specs.declared.expression.SampleLevel.TheVariants.{Auto, Zero, Exact, Bias, Gradient}
use Rattle.naga_ir.specs.declared.expression.SwizzleComponent.{SwizzleComponent}
use Rattle.naga_ir.specs.declared.expression.SwizzleComponent.TheVariants.{X, Y, Z, W}
use Rattle.naga_ir.specs.declared.types.ImageClass.{ImageClass}
use Rattle.naga_ir.specs.declared.types.ImageClass.TheVariants.{Sampled, Depth, Storage, External}
use Rattle.naga_ir.specs.declared.types.ImageDimension.{ImageDimension}
use Rattle.naga_ir.specs.declared.types.ImageDimension.TheVariants.{D1, D2, D3, Cube}
use Rattle.naga_ir.specs.declared.types.ScalarKind.TheVariants.{Float, Sint}
use Rattle.naga_ir.specs.declared.types.TypeInner.{TypeInner}
use Rattle.naga_info.specs.Results.{IsRuleResult}
use Rattle.naga_info.specs.Stages.{every_stage, fragment_stage}
use Rattle.naga_info.specs.Surroundings.{ExpressionSurroundings, form_at}
use Rattle.naga_info.specs.Words.{is_integer_scalar}
use Rattle.naga_info.specs.declared.expression_error.ExpressionError.{ExpressionError}
use Rattle.naga_info.specs.declared.expression_error.ExpressionError.TheVariants as refusal
use Rattle.naga_types.specs.Checks.{first, first_error_or, require}
use Rattle.naga_types.specs.TypeRule.{is_external, is_2d, is_float, is_integer}
use Rattle.naga_typing.specs.Kinds.{is_const}

-- the expression that a sample is
abbrev pub expression_of : Sample → Expression
expression_of x =
    form.ImageSample x.image x.sampler x.gather x.coordinate x.array_index x.offset x.level x.depth_ref x.clamp_to_edge

-- what is sampled, and whether the sampler compares: both are resources, the one an image and the other a sampler
abbrev pub sampled : ExpressionSurroundings → ℕ → ℕ → Result (ImageType × Boolean) ExpressionError
sampled s image sampler =
    and_then (resource_type s image) (λ image_ty.
    and_then (resource_type s sampler) (λ sampler_ty.
    and_then (sampler_comparison s sampler_ty) (λ comparison.
    and_then (image_type s image_ty) (λ found. Ok (found, comparison)))))

-- images of a class can be sampled, or gathered from if `gathers`: what is gathered may be integers, and nothing is
-- multisampled
abbrev pub can_sample : ImageClass → Boolean → Boolean
can_sample (Sampled kind multi) gathers = not multi && (is_float kind || is_integer kind && gathers)
can_sample (Depth multi) gathers = not multi
can_sample (Storage format access) gathers = false
can_sample External gathers = true

-- the error of a class, unless it can be sampled
abbrev pub class_error : ImageClass → Option SwizzleComponent → Option ExpressionError
class_error class gather = require (can_sample class (is_some gather)) (refusal.InvalidImageClass class)

-- the class is `Depth`
abbrev pub is_depth : ImageClass → Boolean
is_depth (Depth multi) = true
is_depth _ = false

-- the error of a sampler, unless it compares exactly if there is a reference, and then the image holds depths
abbrev pub comparison_error : ImageClass → Boolean → Option ℕ → Option ExpressionError
comparison_error class comparison depth_ref =
    require (beq comparison (is_some depth_ref) && (not comparison || is_depth class))
    (refusal.ComparisonSamplingMismatch class comparison (is_some depth_ref))

-- the error of coordinates, unless they are floating-point numbers, as many as an image of dimension `dim` needs
abbrev pub coordinate_error : ExpressionSurroundings → ImageDimension → ℕ → Option ExpressionError
coordinate_error s dim coordinate =
    require (are_coordinates dim (form_at s coordinate)) (refusal.InvalidImageCoordinateType dim coordinate)

-- the error of an offset, unless it is known when the shader is compiled, and is signed integers, as many as the
-- coordinates
abbrev pub sample_offset_error : ExpressionSurroundings → ImageDimension → Option ℕ → Option ExpressionError
sample_offset_error s dim None = None
sample_offset_error s dim (Some e) =
    first
    (require (is_const (slice_get s.kinds e)) refusal.InvalidSampleOffsetExprType ∷
    require (is_of_kind (coordinate_count dim) Sint (form_at s e)) (refusal.InvalidSampleOffset dim e) ∷ [])

-- the level is `Auto` or `Zero`
abbrev pub is_auto_or_zero : SampleLevel → Boolean
is_auto_or_zero Auto = true
is_auto_or_zero Zero = true
is_auto_or_zero _ = false

-- the error of a reference, unless it is a floating-point number, and the level is not given by an operand
abbrev pub depth_reference_error : ExpressionSurroundings → Option ℕ → SampleLevel → Option ExpressionError
depth_reference_error s None level = None
depth_reference_error s (Some e) level =
    first
    (require (is_of_kind 1 Float (form_at s e)) (refusal.InvalidDepthReference e) ∷
    require (is_auto_or_zero level) refusal.InvalidDepthSampleLevel ∷ [])

-- texels of an image of this dimension can be gathered
abbrev pub can_gather : ImageDimension → Boolean
can_gather D2 = true
can_gather Cube = true
can_gather D1 = false
can_gather D3 = false

-- the component is the first
abbrev pub is_first_component : SwizzleComponent → Boolean
is_first_component X = true
is_first_component Y = false
is_first_component Z = false
is_first_component W = false

-- the level is `Zero`
abbrev pub is_first_level : SampleLevel → Boolean
is_first_level Zero = true
is_first_level Auto = false
is_first_level (Exact e) = false
is_first_level (Bias e) = false
is_first_level (Gradient x y) = false

-- the error of a gather, unless the image is 2D or a cube, the component is the first if the image holds depths, and
-- the level is `Zero`
abbrev pub gather_error : ImageType → Option SwizzleComponent → SampleLevel → Option ExpressionError
gather_error image None level = None
gather_error image (Some component) level =
    first
    (require (can_gather image.dim) (refusal.InvalidGatherDimension image.dim) ∷
    require (not (is_depth image.class) || is_first_component component) (refusal.InvalidGatherComponent component) ∷
    require (is_first_level level) refusal.InvalidGatherLevel ∷ [])

-- images of the class hold floating-point numbers, and are not multisampled
abbrev pub is_filtered : ImageClass → Boolean
is_filtered (Sampled kind multi) = is_float kind && not multi
is_filtered _ = false

-- coordinates can be clamped in a 2D image of floating-point numbers or an external texture, at the level `Zero`, and
-- without a gather, an array layer, an offset or a reference
abbrev pub can_clamp : ImageType → Sample → Boolean
can_clamp image sample =
    (is_filtered image.class || is_external image.class) && (is_2d image.dim && (is_first_level sample.level
    && (not (is_some sample.gather)
    && (not (is_some sample.array_index)
    && (not (is_some sample.offset)
    && not (is_some sample.depth_ref))))))

-- the error of clamping, which holds a text, unless clamping is not wanted, or can be done
abbrev pub clamp_error : String Global → ImageType → Sample → Option ExpressionError
clamp_error text image sample =
    require (not sample.clamp_to_edge || can_clamp image sample) (refusal.InvalidSampleClampCoordinateToEdge text)

-- the error for an external texture, unless coordinates in it are clamped
abbrev pub external_error : ImageClass → Boolean → Option ExpressionError
external_error class clamp_to_edge =
    require (not (is_external class) || clamp_to_edge) (refusal.InvalidImageClass class)

-- values of type `inner` number the levels of an image of a class: integers for depths, and
-- floating-point numbers for all others
abbrev pub numbers_levels : ImageClass → TypeInner → Boolean
numbers_levels (Depth multi) inner = is_integer_scalar inner
numbers_levels (Sampled kind multi) inner = is_of_kind 1 Float inner
numbers_levels (Storage format access) inner = is_of_kind 1 Float inner
numbers_levels External inner = is_of_kind 1 Float inner

-- the error of the number of a level, unless it is an integer for depths, and a floating-point number for others
abbrev pub exact_level_error : ExpressionSurroundings → ImageClass → ℕ → Option ExpressionError
exact_level_error s class e = require (numbers_levels class (form_at s e)) (refusal.InvalidSampleLevelExactType e)

-- the dimension is `D1`
abbrev pub is_1d : ImageDimension → Boolean
is_1d D1 = true
is_1d D2 = false
is_1d D3 = false
is_1d Cube = false

-- the error of the bias of a level, unless it is a floating-point number, and the image holds such and is not 1D
abbrev pub bias_error : ExpressionSurroundings → ImageType → ℕ → Option ExpressionError
bias_error s image e =
    first
    (require (is_of_kind 1 Float (form_at s e)) (refusal.InvalidSampleLevelBiasType e) ∷
    require (is_filtered image.class) (refusal.InvalidImageClass image.class) ∷
    require (not (is_1d image.dim)) (refusal.InvalidSampleLevelBiasDimension image.dim) ∷ [])

-- the error of a derivative, unless it is as many floating-point numbers as the coordinates
abbrev pub gradient_error : ExpressionSurroundings → ImageDimension → ℕ → Option ExpressionError
gradient_error s dim e = require (are_coordinates dim (form_at s e)) (refusal.InvalidSampleLevelGradientType dim e)

-- the error of a level, by how it is given
abbrev pub level_error : ExpressionSurroundings → ImageType → SampleLevel → Option ExpressionError
level_error s image Auto = None
level_error s image Zero = None
level_error s image (Exact e) = exact_level_error s image.class e
level_error s image (Bias e) = bias_error s image e
level_error s image (Gradient x y) = first (gradient_error s image.dim x ∷ gradient_error s image.dim y ∷ [])

-- the stages that may sample at a level: only fragments have derivatives of their own
abbrev pub level_stages : SampleLevel → ShaderStages
level_stages Auto = fragment_stage
level_stages (Bias e) = fragment_stage
level_stages _ = every_stage

-- the conditions of a sample of `image` by a sampler that compares or doesn't, if the error of clamping holds `text`
abbrev pub sample_checks : ExpressionSurroundings → String Global → Sample → ImageType → Boolean
    → List (Option ExpressionError)
sample_checks s text sample image comparison =
    layer_error s is_integer_scalar image.arrayed sample.array_index ∷
    class_error image.class sample.gather ∷
    comparison_error image.class comparison sample.depth_ref ∷
    coordinate_error s image.dim sample.coordinate ∷
    sample_offset_error s image.dim sample.offset ∷
    depth_reference_error s sample.depth_ref sample.level ∷
    gather_error image sample.gather sample.level ∷
    clamp_error text image sample ∷
    external_error image.class sample.clamp_to_edge ∷
    level_error s image sample.level ∷ []

-- the rule of a sample, if the error of clamping holds `text`
abbrev pub image_sample_rule : ExpressionSurroundings → String Global → Sample → Result ShaderStages ExpressionError
image_sample_rule s text sample =
    and_then (sampled s sample.image sample.sampler)
    (λ found. first_error_or (sample_checks s text sample found.0 found.1) (level_stages sample.level))

-- `rule` is the rule of a sample, if the error of clamping holds some text
abbrev pub IsImageSampleRule : ExpressionSurroundings → Sample → Result ShaderStages ExpressionError → Type 0
IsImageSampleRule s sample rule = (text : String Global) × (rule ≡ image_sample_rule s text sample)

-- a call returns `result`, which is the rule of a sample, out of memory aside
abbrev pub IsImageSampleResult : ExpressionSurroundings → Sample → Result ShaderStages ExpressionError → Type 0
IsImageSampleResult s sample result =
    (rule : Result ShaderStages ExpressionError) × IsImageSampleRule s sample rule × IsRuleResult rule result
