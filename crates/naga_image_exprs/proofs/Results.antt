-- What follows for the results of rules from what is found first.
use Rattle.std.proofs.Common.{◌≡◌, ◌∙◌, ℕ, Option, ap, inl, inr, refl, sym, take}
use Rattle.std.specs.Prelude.{Bool, Result, Ok, Err, String}
use Rattle.std.specs.declared.alloc.Global.{Global}
use Rattle.naga_flags.specs.declared.flags.ShaderStages.{ShaderStages}
use Rattle.naga_image_exprs.proofs.FirstConditions.{ArePassed, IsPassed, broken_at}
use Rattle.naga_image_exprs.specs.Loads.{image_load_rule, load_checks}
use Rattle.naga_image_exprs.specs.Resources.{and_then, image_at}
use Rattle.naga_image_exprs.specs.Samples.{IsImageSampleResult, clamp_error, image_sample_rule, level_stages, sample_checks, sampled}
use Rattle.naga_image_exprs.specs.declared.resource.ImageType.{ImageType}
use Rattle.naga_image_exprs.specs.declared.sample.Sample.{Sample}
use Rattle.naga_image_exprs.specs.steps.Clamps.{IsClampResult}
use Rattle.naga_info.specs.Stages.{every_stage}
use Rattle.naga_info.specs.Surroundings.{ExpressionSurroundings}
use Rattle.naga_info.specs.declared.expression_error.ExpressionError.{ExpressionError}
use Rattle.naga_info.specs.declared.expression_error.ExpressionError.TheVariants.{InvalidSampleClampCoordinateToEdge, OutOfMemory}
use Rattle.naga_types.specs.Checks.{ok_unless, first_error_or}

-- a load from an image has the result of its checks
pub load_result : (s : ExpressionSurroundings) (image coordinate : ℕ) (array_index sample level : Option ℕ) (found : ImageType) (result : Result ShaderStages ExpressionError)
    → Ok found ≡ image_at s image → first_error_or (load_checks s found coordinate array_index sample level) every_stage ≡ result → image_load_rule s image coordinate array_index sample level ≡ result
load_result s image coordinate array_index sample level found result is h =
    ap (λ (r : Result ImageType ExpressionError). and_then r (λ found. first_error_or (load_checks s found coordinate array_index sample level) every_stage)) (sym is) ∙ h

-- a check refuses with one error
same_error : (checked : Result (Unit {0}) ExpressionError) (e f : ExpressionError) → checked ≡ Err e → checked ≡ Err f → e ≡ f
same_error checked e f p q = cc (p, q)

-- the text that an error of clamping holds is the text of the check, if it is passed
pub text_passed : (image : ImageType) (sample : Sample) → IsClampResult image sample (Ok tt) → (text : String Global) × IsPassed (clamp_error text image sample)
text_passed image sample (inl h) = h
text_passed image sample (inr h) = cc (h.0)

module _ (s : ExpressionSurroundings) (sample : Sample) where
  -- what follows from what is sampled
  abbrev judge : String Global → Result (ImageType × Bool) ExpressionError → Result ShaderStages ExpressionError
  judge text r = and_then r (λ found. first_error_or (sample_checks s text sample found.0 found.1) (level_stages sample.level))

  -- nothing is sampled that isn't found
  pub unfound_result : (text : String Global) (error : ExpressionError) (result : Result ShaderStages ExpressionError) → Err error ≡ sampled s sample.image sample.sampler → result ≡ Err error → IsImageSampleResult s sample result
  unfound_result text error result unfound is = (image_sample_rule s text sample, (text, refl), inl (is ∙ ap (judge text) unfound))

  module _ (image : ImageType) (comparison : Bool) (found : Ok (image, comparison) ≡ sampled s sample.image sample.sampler) (result : Result ShaderStages ExpressionError) where
    -- a sample of an image has the result of its checks, with some text
    pub sample_result : (text : String Global) → first_error_or (sample_checks s text sample image comparison) (level_stages sample.level) ≡ result → IsImageSampleResult s sample result
    sample_result text h = (image_sample_rule s text sample, (text, refl), inl (sym (ap (judge text) (sym found) ∙ h)))

    -- a refusal to clamp carries a text, or memory is refused for one
    pub clamp_result : String Global → (error : ExpressionError) → ((text : String Global) → ArePassed (take 7 (sample_checks s text sample image comparison)))
        → IsClampResult image sample (Err error) → result ≡ Err error → IsImageSampleResult s sample result
    clamp_result other error passed (inl h) is = sample_result h.0 (broken_at (sample_checks s h.0 sample image comparison) 7 (level_stages sample.level) error (passed h.0) h.1 ∙ sym is)
    clamp_result other error passed (inr h) is =
        let refusal = InvalidSampleClampCoordinateToEdge other in
        let refused = broken_at (sample_checks s other sample image comparison) 7 (level_stages sample.level) refusal (passed other) (sym (ap (λ (o : Option ExpressionError). ok_unless o (tt {0})) (h.1 other))) in
        (Err refusal, (other, sym (ap (judge other) (sym found) ∙ refused)), inr (is ∙ ap Err (same_error (Err error) error OutOfMemory refl h.0), tt))
