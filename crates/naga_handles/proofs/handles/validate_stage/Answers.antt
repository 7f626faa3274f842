use Rattle.std.proofs.Common.{rules, ◌≡◌, [], ◌∷◌, ap, subst, sym}
use Rattle.std.specs.Prelude.{Ok, Err, option_map}
use Rattle.naga_ir.specs.FirstError.{ChecksEach}
use Rattle.naga_ir.specs.Operands.{present}
use Rattle.naga_ir.specs.declared.reference.Reference.TheVariants as to
use Rattle.naga_ir.proofs.StatementLemmas.{checks-along}
use Rattle.naga_handles.specs.steps.ItemChecks.{IsResult, checks}
use Rattle.naga_handles.specs.steps.Checks.{of_function}
use Rattle.naga_handles.proofs.CheckLemmas.{references-before, references-then, one-present}
use Rattle.naga_handles.proofs.handles.validate_stage.Goals as goal

pub returns-in_err-check_all : goal.returns-in_err-check_all
returns-in_err-check_all c =
    let n = c.args.scope.now.counts in
    let s = of_function c.args.scope.now.caller in
    let p = c.args.entry_point.now in
    let given : ChecksEach IsResult (checks n s (present (option_map to.GlobalVariable p.task_payload ∷ []))) (Err c.in_err-check_all.field-0.0) = search rules in
    let is : c.from_residual-in_err-check_all.result ≡ Err c.in_err-check_all.field-0.0 = search rules in
    subst (ChecksEach IsResult _) (sym is)
    (references-then n s _ _ (Err _) c.in_ok-validate_workgroup_sizes.ensures
    (references-before n s _ _ _ (checks-along IsResult _ _ _ (ap (checks n s) (one-present to.GlobalVariable p.task_payload)) given)))

pub returns : goal.returns
returns c =
    let n = c.args.scope.now.counts in
    let s = of_function c.args.scope.now.caller in
    let p = c.args.entry_point.now in
    let given : ChecksEach IsResult (checks n s (present (option_map to.GlobalVariable p.task_payload ∷ []))) (Ok tt) = search rules in
    references-then n s _ _ _ c.in_ok-validate_workgroup_sizes.ensures
    (references-then n s _ _ _ (checks-along IsResult _ _ _ (ap (checks n s) (one-present to.GlobalVariable p.task_payload)) given)
    (checks-along IsResult _ _ _ (ap (checks n s) c.mesh_references.ensures) c.check_all-2.ensures))
