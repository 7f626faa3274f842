-- What is accepted if overrides must have their values is accepted if they needn't.
use Rattle.std.proofs.Common.{◌≡◌, ℕ, true, false, [], ◌∷◌, Option, Some, None, Ok}
use Rattle.naga_exprs.specs.ConstExpression.{ConstSurroundings, const_expression_rule}
use Rattle.naga_ir.specs.declared.expression.Expression.{Expression}
use Rattle.naga_ir.specs.declared.expression.Expression.TheVariants as form
use Rattle.naga_types.specs.Checks.{first_error_or}

-- nothing passes two conditions of which the second is broken
never_passed : {A E : Type 0} (a : Option E) (error : E) (value i : A) → first_error_or (a ∷ Some error ∷ []) value ≡ Ok i → ⊥
never_passed None error value i h = cc h
never_passed (Some e) error value i h = cc h

-- a global expression that is accepted if overrides must have their values is accepted if they needn't
pub unresolved : (s : ConstSurroundings) (e : ℕ) (x : Expression) → const_expression_rule (record s { resolved = true }) e x ≡ Ok tt → const_expression_rule (record s { resolved = false }) e x ≡ Ok tt
unresolved s e (form.Literal value) h = h
unresolved s e (form.Constant c) h = h
unresolved s e (form.ZeroValue ty) h = h
unresolved s e (form.Compose ty components) h = h
unresolved s e (form.Splat size value) h = h
unresolved s e _ h = absurd (never_passed _ _ tt tt h)
