use Rattle.std.proofs.Common.{◌≡◌, ◌∙◌, ℕ, Bool as Boolean, true, false, not, Option, Some, None, Ok, is_none, is_some, option_map, take, ap, refl, sym}
use Rattle.naga_exprs.proofs.access.admits_swizzle.Goals as goal
use Rattle.naga_exprs.specs.Vectors.{first_lacking, swizzle_error, swizzle_rule, vector_size}
use Rattle.naga_ir.specs.Sizes.{components}
use Rattle.naga_ir.specs.declared.types.VectorSize.{VectorSize}
use Rattle.naga_info.specs.Stages.{every_stage}
use Rattle.naga_info.specs.Surroundings.{form_at, surroundings}
use Rattle.naga_info.specs.declared.expression_error.ExpressionError.{ExpressionError}
use Rattle.naga_types.specs.Checks.{ok_unless}

-- if `none` says that an option is `None`, it says so of the option after a map
none_after : {A B : Type 0} (f : A → B) (o : Option A) (none : Boolean) → is_some o ≡ not none → none ≡ is_none (option_map f o)
none_after f None true h = refl
none_after f None false h = cc h
none_after f (Some x) true h = cc h
none_after f (Some x) false h = refl

-- without an error the rule accepts
accepted : (bad : Option ExpressionError) → is_none bad ≡ true → ok_unless bad every_stage ≡ Ok every_stage
accepted None h = refl
accepted (Some x) h = cc h

-- there is no error if the rule accepts
no_error : (bad : Option ExpressionError) → ok_unless bad every_stage ≡ Ok every_stage → is_none bad ≡ true
no_error None h = refl
no_error (Some x) h = cc h

pub returns-in-Vector : goal.returns-in-Vector
returns-in-Vector c =
    let s = surroundings c.args.context in
    let size = c.in-Vector.vector_size in
    let pattern = c.args.pattern.now in
    let found : vector_size (form_at s c.args.vector) ≡ Some size = ap vector_size (sym c.type_of.ensures.form ∙ c.in-Vector.is) in
    let taken : c.from.result ≡ components c.args.size = c.from.ensures ∙ c.components.ensures in
    let lacking = first_lacking size (take c.from.result pattern) in
    let is : swizzle_rule s c.args.size c.args.vector pattern ≡ ok_unless lacking every_stage =
    ap (λ (v : Option VectorSize). ok_unless (swizzle_error c.args.vector c.args.size pattern v) every_stage) found
    ∙ ap (λ (n : ℕ). ok_unless (first_lacking size (take n pattern)) every_stage) (sym taken) in
    let none : c.is_none.result ≡ is_none lacking = none_after _ c.first_lacking.result c.is_none.result c.is_none.ensures ∙ ap is_none c.first_lacking.ensures in
    (λ kept. is ∙ accepted lacking (sym none ∙ kept), λ rule. none ∙ no_error lacking (sym is ∙ rule))
