use Rattle.std.proofs.Common.{rules, ◌≡◌, inl, subst, sym}
use Rattle.std.specs.Prelude.{Err, IfErr}
use Rattle.naga_handles.specs.Faults.{invalid}
use Rattle.naga_handles.specs.steps.OtherItems.{IsHandleRefusal}
use Rattle.naga_handles.specs.declared.error.ValidationFault.TheVariants.{Invalid}
use Rattle.naga_handles.proofs.FailedChecks.{entry_points-refused, items-refused, members-refused}
use Rattle.naga_handles.proofs.PassedChecks.{others-accepted}
use Rattle.naga_handles.proofs.handles.validate_other_handles.Goals as goal

pub returns-in_err-validate_items-clause-refused : goal.returns-in_err-validate_items-clause-refused
returns-in_err-validate_items-clause-refused c =
    let m = c.args.«module».now in
    let is : c.from_residual.result ≡ Err (Invalid c.in_err-validate_items.field-0.0) = search rules in
    subst (λ r. IfErr r (IsHandleRefusal m)) (sym is) (inl (invalid _ (items-refused m _ c.in_err-validate_items.ensures)))

pub returns-in_err-validate_documented_entry_points-clause-refused : goal.returns-in_err-validate_documented_entry_points-clause-refused
returns-in_err-validate_documented_entry_points-clause-refused c =
    let m = c.args.«module».now in
    let is : c.from_residual-in_err-validate_documented_entry_points.result ≡ Err (Invalid c.in_err-validate_documented_entry_points.field-0.0) = search rules in
    subst (λ r. IfErr r (IsHandleRefusal m)) (sym is) (inl (invalid _ (entry_points-refused m _ c.in_err-validate_documented_entry_points.ensures)))

pub returns-clause-accepted : goal.returns-clause-accepted
returns-clause-accepted c =
    others-accepted c.args.«module».now _ c.in_ok-validate_items.ensures c.in_ok-validate_documented_entry_points.ensures c.validate_documented_members.ensures

pub returns-clause-refused : goal.returns-clause-refused
returns-clause-refused c = members-refused c.args.«module».now _ c.validate_documented_members.ensures
