-- The rule of an expression doesn't both allow and refuse it.
use Rattle.std.proofs.Common.{◌≡◌, ◌∙◌, ◌++◌, Bool, true, false, List, [], ◌∷◌, Option, Some, None, Result, Ok, Err, String, ℕ, refl, sym, ap}
use Rattle.std.specs.Option.{option_or}
use Rattle.std.specs.declared.alloc.Global.{Global}
use Rattle.naga_exprs.specs.Accesses.{IsAccessRule, access_checks, lengths}
use Rattle.naga_exprs.specs.ExpressionRule.{IsRule}
use Rattle.naga_flags.specs.declared.flags.ShaderStages.{ShaderStages}
use Rattle.naga_image_exprs.specs.Coordinates.{layer_error}
use Rattle.naga_info.specs.Words.{is_integer_scalar}
use Rattle.naga_image_exprs.specs.Resources.{and_then}
use Rattle.naga_image_exprs.specs.Samples.{IsImageSampleRule, clamp_error, class_error, comparison_error, coordinate_error, depth_reference_error, external_error, gather_error, level_error, sample_offset_error, level_stages, sample_checks, sampled}
use Rattle.naga_image_exprs.specs.declared.resource.ImageType.{ImageType}
use Rattle.naga_image_exprs.specs.declared.sample.Sample.{Sample}
use Rattle.naga_ir.specs.ItemReferences.{global_lists}
use Rattle.naga_ir.specs.declared.expression.BinaryOperator.{BinaryOperator}
use Rattle.naga_ir.specs.declared.expression.Expression.{Expression}
use Rattle.naga_ir.specs.declared.expression.Expression.TheVariants as form
use Rattle.naga_exprs.specs.Math.{MathTyping}
use Rattle.naga_info.specs.Stages.{every_stage}
use Rattle.naga_info.specs.Surroundings.{ExpressionSurroundings, form_at}
use Rattle.naga_info.specs.declared.expression_error.ExpressionError.{ExpressionError}
use Rattle.naga_info.specs.declared.expression_error.ExpressionError.TheVariants as refusal
use Rattle.naga_operator_exprs.specs.Binary.{IsBinaryRule, accepted, forbidden_constant, wrong_operands}
use Rattle.naga_types.specs.Checks.{first, ok_unless, first_error_or, require}
use Rattle.naga_typing.proofs.Lengths.{length_once}

abbrev Meant : Type 0
Meant = Result ShaderStages ExpressionError

abbrev pub allows : ShaderStages → Meant
allows stages = Ok stages

abbrev pub refuses : ExpressionError → Meant
refuses source = Err source

-- two conditions on the same bool are both broken or none
module _ {E : Type 0} where
  unless_alike : (b : Bool) (e f : E) → require b e ≡ None → require b f ≡ None
  unless_alike true e f h = refl
  unless_alike false e f h = absurd (cc h)

  or_alike : (c d o : Option E) → (c ≡ None → d ≡ None) → option_or c o ≡ None → option_or d o ≡ None
  or_alike None d o alike h = ap (λ x. option_or x o) (alike refl) ∙ h
  or_alike (Some e) d o alike h = absurd (cc h)

  or_rest : (c o p : Option E) → (o ≡ None → p ≡ None) → option_or c o ≡ None → option_or c p ≡ None
  or_rest None o p alike h = alike h
  or_rest (Some e) o p alike h = absurd (cc h)

  -- a condition may be put in place of one that is alike
  first_alike : (before after : List (Option E)) (c d : Option E) → (c ≡ None → d ≡ None) → first (before ++ c ∷ after) ≡ None → first (before ++ d ∷ after) ≡ None
  first_alike [] after c d alike h = or_alike c d (first after) alike h
  first_alike (o ∷ before) after c d alike h = or_rest o (first (before ++ c ∷ after)) (first (before ++ d ∷ after)) (first_alike before after c d alike) h

module _ (allowed : ShaderStages) (source : ExpressionError) where
  differ : (r : Meant) → allows allowed ≡ r → refuses source ≡ r → ⊥
  differ r a b = cc (a, b)

  granted_none : (o : Option ExpressionError) (stages : ShaderStages) → allows allowed ≡ ok_unless o stages → o ≡ None
  granted_none None stages h = refl
  granted_none (Some e) stages h = absurd (cc h)

  not_refused : (o : Option ExpressionError) (stages : ShaderStages) → o ≡ None → refuses source ≡ ok_unless o stages → ⊥
  not_refused None stages none h = cc h
  not_refused (Some e) stages none h = cc none

  module _ (s : ExpressionSurroundings) where
    no_access : (base index : ℕ) → IsAccessRule s base index (allows allowed) → IsAccessRule s base index (refuses source) → ⊥
    no_access base index a b =
        let g = global_lists s.«module» in
        let same = length_once g (lengths s.resolved g) (form_at s base) a.0 b.0 a.1 b.1 in
        differ (first_error_or (access_checks s base index a.0) every_stage) a.2 (b.2 ∙ ap (λ l. first_error_or (access_checks s base index l) every_stage) (sym same))

    no_binary : (op : BinaryOperator) (left right : ℕ) (r q : Meant) → r ≡ allows allowed → q ≡ refuses source → IsBinaryRule s op left right r → IsBinaryRule s op left right q → ⊥
    no_binary op left right _ _ er eq (wrong_operands h) other = cc er
    no_binary op left right _ _ er eq (forbidden_constant forbidden fits holds) other = cc er
    no_binary op left right _ _ er eq (accepted fits none) (wrong_operands h) = cc (fits, h)
    no_binary op left right _ _ er eq (accepted fits none) (forbidden_constant forbidden fits_too holds) = none forbidden holds
    no_binary op left right _ _ er eq (accepted fits none) (accepted fits_too none_too) = cc eq

    -- whether a sample is refused doesn't depend on the text that the refusal carries
    conditions_alike : (one other : String Global) (sample : Sample) (image : ImageType) (comparison : Bool)
        → first (sample_checks s one sample image comparison) ≡ None → first (sample_checks s other sample image comparison) ≡ None
    conditions_alike one other sample image comparison =
        first_alike
        (layer_error s is_integer_scalar image.arrayed sample.array_index ∷
        class_error image.class sample.gather ∷
        comparison_error image.class comparison sample.depth_ref ∷
        coordinate_error s image.dim sample.coordinate ∷
        sample_offset_error s image.dim sample.offset ∷
        depth_reference_error s sample.depth_ref sample.level ∷
        gather_error image sample.gather sample.level ∷
        [])
        (external_error image.class sample.clamp_to_edge ∷ level_error s image sample.level ∷ [])
        (clamp_error one image sample)
        (clamp_error other image sample)
        (unless_alike _ (refusal.InvalidSampleClampCoordinateToEdge one) (refusal.InvalidSampleClampCoordinateToEdge other))

    no_sample_of : (one other : String Global) (sample : Sample) (found : Result (ImageType × Bool) ExpressionError)
        → allows allowed ≡ and_then found (λ f. first_error_or (sample_checks s one sample f.0 f.1) (level_stages sample.level))
        → refuses source ≡ and_then found (λ f. first_error_or (sample_checks s other sample f.0 f.1) (level_stages sample.level))
        → ⊥
    no_sample_of one other sample (Err e) a b = cc a
    no_sample_of one other sample (Ok f) a b =
        not_refused (first (sample_checks s other sample f.0 f.1)) (level_stages sample.level)
        (conditions_alike one other sample f.0 f.1 (granted_none (first (sample_checks s one sample f.0 f.1)) (level_stages sample.level) a)) b

    no_sample : (sample : Sample) → IsImageSampleRule s sample (allows allowed) → IsImageSampleRule s sample (refuses source) → ⊥
    no_sample sample a b = no_sample_of a.0 b.0 sample (sampled s sample.image sample.sampler) a.1 b.1

    -- an expression isn't both allowed and refused
    pub not_both : (t : MathTyping) (x : Expression) → IsRule t s x (allows allowed) → IsRule t s x (refuses source) → ⊥
    not_both t (form.Access base index) a b = no_access base index a b
    not_both t (form.Binary op left right) a b = no_binary op left right (allows allowed) (refuses source) refl refl a b
    not_both t (form.ImageSample image sampler gather coordinate array_index offset level depth_ref clamp_to_edge) a b = no_sample _ a b
    not_both t _ a b = differ _ a b
