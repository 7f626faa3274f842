use Rattle.std.proofs.Common.{rules, ◌≡◌, List, None, subst, sym}
use Rattle.std.specs.Prelude.{Ok, Err}
use Rattle.naga_ir.specs.FirstError.{ChecksEach}
use Rattle.naga_ir.specs.Handles.{module_counts, function_counts}
use Rattle.naga_ir.specs.ItemReferences.{entry_point_references}
use Rattle.naga_ir.proofs.StatementLemmas.{checks-before, checks-then}
use Rattle.naga_handles.specs.steps.ItemChecks.{IsResult, Check, function_checks, checks}
use Rattle.naga_handles.specs.steps.Checks.{of_function}
use Rattle.naga_handles.proofs.handles.validate_entry_point_handles.Goals as goal

pub returns-in_err-validate_function_handles : goal.returns-in_err-validate_function_handles
returns-in_err-validate_function_handles c =
    let m = c.args.«module».now in
    let p = c.args.entry_point.now in
    let inner : List Check = function_checks (function_counts m p.function) None p.function in
    let outer : List Check = checks (module_counts m) (of_function None) (entry_point_references p) in
    let is : c.from_residual.result ≡ Err c.in_err-validate_function_handles.field-0.0 = search rules in
    let here : ChecksEach IsResult inner (Err c.in_err-validate_function_handles.field-0.0) = search rules in
    subst (ChecksEach IsResult _) (sym is) (checks-before IsResult inner outer _ here)

pub returns : goal.returns
returns c =
    let m = c.args.«module».now in
    let p = c.args.entry_point.now in
    let inner : List Check = function_checks (function_counts m p.function) None p.function in
    let outer : List Check = checks (module_counts m) (of_function None) (entry_point_references p) in
    let here : ChecksEach IsResult inner (Ok tt) = search rules in
    let there : ChecksEach IsResult outer c.validate_stage.result = search rules in
    checks-then IsResult inner outer _ here there
