use Rattle.std.proofs.Common.{◌≡◌, inl, sym, subst, rules}
use Rattle.std.specs.Prelude.{Err, IfErr}
use Rattle.naga_handles.specs.Faults.{invalid, on_walk}
use Rattle.naga_handles.specs.steps.OtherItems.{IsHandleRefusal}
use Rattle.naga_handles.specs.declared.error.ValidationFault.TheVariants.{Invalid}
use Rattle.naga_handles.proofs.walk.walk.Goals as goal

pub returns-in_err-visit_type-clause-refused : goal.returns-in_err-visit_type-clause-refused
returns-in_err-visit_type-clause-refused c =
    let is : c.from_residual-in_err-visit_type.result ≡ Err (Invalid c.in_err-visit_type.field-0.0) = search rules in
    subst (λ r. IfErr r (IsHandleRefusal c.args.module.now)) (sym is) (inl (invalid _ (on_walk _ c.in_err-visit_type.ensures.refused)))

pub returns-in_err-check_rest-clause-refused : goal.returns-in_err-check_rest-clause-refused
returns-in_err-check_rest-clause-refused c =
    let is : c.from_residual-in_err-check_rest.result ≡ Err (Invalid c.in_err-check_rest.field-0.0) = search rules in
    subst (λ r. IfErr r (IsHandleRefusal c.args.module.now)) (sym is) (inl (invalid _ (on_walk _ c.in_err-check_rest.ensures.refused)))
