use Rattle.std.proofs.Common.{rules, ◌≡◌, List, subst, sym}
use Rattle.std.specs.Prelude.{Err}
use Rattle.std.specs.List.{enumerate_from, flat_map}
use Rattle.naga_ir.specs.FirstError.{ChecksEach}
use Rattle.naga_ir.proofs.StatementLemmas.{checks-before, checks-then}
use Rattle.naga_handles.specs.steps.ItemChecks.{IsResult, Check, entry_point_checks, numbered_checks}
use Rattle.naga_handles.proofs.CheckLemmas.{checks-called-reads}
use Rattle.naga_handles.proofs.handles.validate_code.Goals as goal

pub returns-in_err-try_each : goal.returns-in_err-try_each
returns-in_err-try_each c =
    let m = c.args.«module».now in
    let starts : List Check = flat_map (entry_point_checks m) m.entry_points in
    let numbered : List Check = flat_map (numbered_checks m) (enumerate_from 0 m.functions) in
    let is : c.from_residual.result ≡ Err c.in_err-try_each.field-0.0 = search rules in
    subst (ChecksEach IsResult _) (sym is)
    (checks-before IsResult starts numbered _ (checks-called-reads (entry_point_checks m) m.entry_points c.as_slice.ensures (λ y t k. search rules) c.in_err-try_each.ensures))

pub returns : goal.returns
returns c =
    let m = c.args.«module».now in
    let starts : List Check = flat_map (entry_point_checks m) m.entry_points in
    let numbered : List Check = flat_map (numbered_checks m) (enumerate_from 0 m.functions) in
    checks-then IsResult starts numbered _
    (checks-called-reads (entry_point_checks m) m.entry_points c.as_slice.ensures (λ y t k. search rules) c.in_ok-try_each.ensures) c.validate_functions.ensures
