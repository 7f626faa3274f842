use Rattle.std.proofs.Common.{◌≡◌, ap, false, inl, rules, sym, true}
use Rattle.naga_image_exprs.proofs.ClampConditions.{allowed, refused, unasked}
use Rattle.naga_image_exprs.proofs.Texts.{empty_text}
use Rattle.naga_image_exprs.proofs.clamp.check_clamp.Goals as goal
use Rattle.naga_image_exprs.specs.Samples.{can_clamp}
use Rattle.naga_info.specs.declared.expression_error.ExpressionError.TheVariants.{InvalidSampleClampCoordinateToEdge}
use Rattle.naga_types.specs.Checks.{ok_unless}

pub returns-then-not-sample : goal.returns-then-not-sample
returns-then-not-sample c =
    let text = empty_text c.args.alloc in
    let asked : c.args.sample.now.clamp_to_edge ≡ false = search rules in
    inl (text, unasked _ (can_clamp c.args.image c.args.sample.now) (InvalidSampleClampCoordinateToEdge text) asked)

pub returns-in_ok-text_of-in-Some : goal.returns-in_ok-text_of-in-Some
returns-in_ok-text_of-in-Some c =
    let text = c.in_ok-text_of-in-Some.field-0 in
    let asked : c.args.sample.now.clamp_to_edge ≡ true = search rules in
    inl (text, sym (ap (λ o. ok_unless o (tt {0})) (refused _ (can_clamp c.args.image c.args.sample.now) (InvalidSampleClampCoordinateToEdge text) asked (sym c.in-Some.ensures))))

pub returns-in-None : goal.returns-in-None
returns-in-None c =
    let text = empty_text c.args.alloc in
    inl (text, allowed c.args.sample.now.clamp_to_edge (can_clamp c.args.image c.args.sample.now) (InvalidSampleClampCoordinateToEdge text) (sym c.in-None.ensures))
