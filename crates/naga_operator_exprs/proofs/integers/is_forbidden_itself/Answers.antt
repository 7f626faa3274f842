use Rattle.std.proofs.Common.{◌≡◌, ◌<◌, IfSome, ℕ, length, ℤ, pos, true, Option, None, Some, refl, sym, subst, ◌∙◌}
use Rattle.naga_ir.proofs.Origins.{literal_by_origin, zero_by_origin, zero_names}
use Rattle.naga_ir.specs.declared.expression.Expression.TheVariants as form
use Rattle.naga_ir.specs.declared.expression.Literal.{Literal}
use Rattle.naga_info.specs.Surroundings.{surroundings}
use Rattle.naga_operator_exprs.proofs.integers.is_forbidden_itself.Goals as goal
use Rattle.naga_info.specs.Integers.{Scope, integer_of, literal_value, zero_value}
use Rattle.naga_operator_exprs.specs.Integers.{scope_of}
use Rattle.naga_operator_exprs.specs.declared.integers.Forbidden.{Forbidden}
use Rattle.naga_operator_exprs.specs.steps.Places.{OwnForbidden, is_forbidden_found}

-- a literal whose integer is forbidden
of_literal : (s : Scope) (forbidden : Forbidden) (value : Literal) (found : Option ℤ) → integer_of value ≡ found → is_forbidden_found forbidden found ≡ true → OwnForbidden s forbidden (form.Literal value)
of_literal s forbidden value None is h = cc h
of_literal s forbidden value (Some n) is h = (n, literal_value value n is, h)

pub returns-in-Literal-clause-yes : goal.returns-in-Literal-clause-yes
returns-in-Literal-clause-yes c =
    let s = scope_of (surroundings c.args.context) in
    λ h. subst (OwnForbidden s c.args.forbidden) (sym (literal_by_origin _ c.in-Literal.literal (sym c.origin.ensures ∙ c.in-Literal.is))) (of_literal s c.args.forbidden c.in-Literal.literal (integer_of c.in-Literal.literal) refl (sym c.is_forbidden_literal.ensures ∙ h))

pub returns-then-is_forbidden-clause-yes : goal.returns-then-is_forbidden-clause-yes
returns-then-is_forbidden-clause-yes c =
    let s = scope_of (surroundings c.args.context) in
    λ h. subst (OwnForbidden s c.args.forbidden) (sym (zero_by_origin _ c.in-ZeroValue.ty (sym c.origin.ensures ∙ c.in-ZeroValue.is))) (pos 0, zero_value c.in-ZeroValue.ty (sym c.is_integer_zero.ensures ∙ h), sym c.is_forbidden.ensures ∙ c.if-is_forbidden.true)

pub is_integer_zero-requires : goal.is_integer_zero-requires
is_integer_zero-requires c =
    let bound = length c.args.context.«module».now.types in
    subst (λ (t : Option ℕ). IfSome t (λ t. t < bound)) (zero_names _ c.in-ZeroValue.ty (sym c.origin.ensures ∙ c.in-ZeroValue.is)) c.requires
