use Rattle.std.proofs.Common.{◌≡◌, ◌∙◌, [], ◌∷◌, List, Option, ap, rules, sym}
use Rattle.std.specs.Prelude.{Err}
use Rattle.naga_image_exprs.proofs.FirstConditions.{broken_at, second_decides}
use Rattle.naga_image_exprs.proofs.sample.check_level.Goals as goal
use Rattle.naga_image_exprs.specs.Samples.{gradient_error, level_error}
use Rattle.naga_ir.specs.declared.expression.SampleLevel.{SampleLevel}
use Rattle.naga_info.specs.Surroundings.{surroundings}
use Rattle.naga_info.specs.declared.expression_error.ExpressionError.{ExpressionError}
use Rattle.naga_types.specs.Checks.{ok_unless}

pub returns-in_err-check_derivative-in-Gradient : goal.returns-in_err-check_derivative-in-Gradient
returns-in_err-check_derivative-in-Gradient c =
    let s = surroundings c.args.context in
    let dim = c.args.image.dim in
    let error = c.in_err-check_derivative-in-Gradient.field-0.0 in
    let is : c.from_residual.result ≡ Err error = search rules in
    let both : List (Option ExpressionError) = gradient_error s dim c.in-Gradient.x ∷ gradient_error s dim c.in-Gradient.y ∷ [] in
    is
    ∙ sym (ap (λ (level : SampleLevel). ok_unless (level_error s c.args.image level) (tt {0})) c.in-Gradient.is ∙ broken_at both 0 (tt {0}) error tt c.in_err-check_derivative-in-Gradient.ensures)

pub returns-in_ok-check_derivative-in-Gradient : goal.returns-in_ok-check_derivative-in-Gradient
returns-in_ok-check_derivative-in-Gradient c =
    let s = surroundings c.args.context in
    let dim = c.args.image.dim in
    c.check_derivative-in-Gradient.ensures
    ∙ (second_decides (gradient_error s dim c.in-Gradient.x) (gradient_error s dim c.in-Gradient.y) (tt {0}) c.in_ok-check_derivative-in-Gradient.ensures
    ∙ sym (ap (λ (level : SampleLevel). ok_unless (level_error s c.args.image level) (tt {0})) c.in-Gradient.is))
