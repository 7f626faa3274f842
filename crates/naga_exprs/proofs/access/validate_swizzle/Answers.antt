use Rattle.std.proofs.Common.{◌≡◌, ◌∙◌, ℕ, Option, Some, None, Ok, option_map, take, ap, sym}
use Rattle.naga_exprs.proofs.access.validate_swizzle.Goals as goal
use Rattle.naga_exprs.specs.Vectors.{swizzle_error, first_lacking, vector_size}
use Rattle.naga_ir.specs.Sizes.{components}
use Rattle.naga_ir.specs.declared.expression.SwizzleComponent.{SwizzleComponent}
use Rattle.naga_ir.specs.declared.types.VectorSize.{VectorSize}
use Rattle.naga_info.specs.Stages.{every_stage}
use Rattle.naga_info.specs.Surroundings.{form_at, surroundings}
use Rattle.naga_info.specs.declared.expression_error.ExpressionError.{ExpressionError}
use Rattle.naga_info.specs.declared.expression_error.ExpressionError.TheVariants.{InvalidSwizzleComponent}
use Rattle.naga_types.specs.Checks.{ok_unless}

pub returns-in-Some : goal.returns-in-Some
returns-in-Some c =
    let s = surroundings c.args.context in
    let size = c.in-Vector.vector_size in
    let pattern = c.args.pattern.now in
    let found : vector_size (form_at s c.args.vector) ≡ Some size = ap vector_size (sym c.type_of.ensures.form ∙ c.in-Vector.is) in
    let taken : c.from-taken.result ≡ components c.args.size = c.from-taken.ensures ∙ c.components.ensures in
    let lacking : first_lacking size (take c.from-taken.result pattern) ≡ Some (InvalidSwizzleComponent c.in-Some.component size) = sym c.first_lacking.ensures ∙ ap (option_map (λ (component : SwizzleComponent). InvalidSwizzleComponent component size)) c.in-Some.is in
    sym (ap (λ (v : Option VectorSize). ok_unless (swizzle_error c.args.vector c.args.size pattern v) every_stage) found
    ∙ (ap (λ (n : ℕ). ok_unless (first_lacking size (take n pattern)) every_stage) (sym taken)
    ∙ ap (λ (o : Option ExpressionError). ok_unless o every_stage) lacking))

pub returns-in-None : goal.returns-in-None
returns-in-None c =
    let s = surroundings c.args.context in
    let size = c.in-Vector.vector_size in
    let pattern = c.args.pattern.now in
    let found : vector_size (form_at s c.args.vector) ≡ Some size = ap vector_size (sym c.type_of.ensures.form ∙ c.in-Vector.is) in
    let taken : c.from-taken.result ≡ components c.args.size = c.from-taken.ensures ∙ c.components.ensures in
    let lacking : first_lacking size (take c.from-taken.result pattern) ≡ None = sym c.first_lacking.ensures ∙ ap (option_map (λ (component : SwizzleComponent). InvalidSwizzleComponent component size)) c.in-None.is in
    ap Ok c.every_stage.ensures
    ∙ sym (ap (λ (v : Option VectorSize). ok_unless (swizzle_error c.args.vector c.args.size pattern v) every_stage) found
    ∙ (ap (λ (n : ℕ). ok_unless (first_lacking size (take n pattern)) every_stage) (sym taken)
    ∙ ap (λ (o : Option ExpressionError). ok_unless o every_stage) lacking))
