use Rattle.std.proofs.Common.{rules, ◌≡◌, List, None, subst, sym}
use Rattle.std.specs.Prelude.{Result, Err}
use Rattle.naga_ir.specs.FirstError.{ChecksEach}
use Rattle.naga_ir.specs.Handles.{module_counts}
use Rattle.naga_ir.specs.declared.ir.Module.{Module}
use Rattle.naga_ir.specs.declared.reference.Reference.{Reference}
use Rattle.naga_ir.proofs.StatementLemmas.{checks-before, checks-then}
use Rattle.naga_handles.specs.steps.ItemChecks.{IsResult, checks, checks_in}
use Rattle.naga_handles.specs.steps.Checks.{of_function}
use Rattle.naga_handles.specs.declared.error.InvalidHandleError.{InvalidHandleError}
use Rattle.naga_handles.specs.declared.handles.Scope.{Scope}
use Rattle.naga_handles.proofs.handles.validate_items.Goals as goal

-- checks in the scope of a module's items are plain checks
in-module : (m : Module) (scope : Scope) → scope.counts ≡ module_counts m → scope.caller ≡ None → (rs : List Reference) (r : Result (Unit {0}) InvalidHandleError)
    → ChecksEach IsResult (checks_in scope rs) r → ChecksEach IsResult (checks (module_counts m) (of_function None) rs) r
in-module m scope counts caller rs r h =
    subst (λ o. ChecksEach IsResult (checks (module_counts m) (of_function o) rs) r) caller (subst (λ n. ChecksEach IsResult (checks n (of_function scope.caller) rs) r) counts h)

pub returns-in_err-validate_valued : goal.returns-in_err-validate_valued
returns-in_err-validate_valued c =
    let plain = in-module c.args.«module».now c.of_module-scope.result c.of_module-scope.ensures.counts c.of_module-scope.ensures.caller in
    let is : c.from_residual.result ≡ Err c.in_err-validate_valued.field-0.0 = search rules in
    subst (ChecksEach IsResult _) (sym is)
    (checks-before IsResult _ _ _ (plain _ _ c.in_err-validate_valued.ensures))

pub returns-in_err-validate_code : goal.returns-in_err-validate_code
returns-in_err-validate_code c =
    let plain = in-module c.args.«module».now c.of_module-scope.result c.of_module-scope.ensures.counts c.of_module-scope.ensures.caller in
    let is : c.from_residual-in_err-validate_code.result ≡ Err c.in_err-validate_code.field-0.0 = search rules in
    subst (ChecksEach IsResult _) (sym is)
    (checks-then IsResult _ _ (Err _) (plain _ _ c.in_ok-validate_valued.ensures)
    (checks-before IsResult _ _ _ c.in_err-validate_code.ensures))

pub returns-in_err-validate_special_types : goal.returns-in_err-validate_special_types
returns-in_err-validate_special_types c =
    let plain = in-module c.args.«module».now c.of_module-scope.result c.of_module-scope.ensures.counts c.of_module-scope.ensures.caller in
    let is : c.from_residual-in_err-validate_special_types.result ≡ Err c.in_err-validate_special_types.field-0.0 = search rules in
    subst (ChecksEach IsResult _) (sym is)
    (checks-then IsResult _ _ (Err _) (plain _ _ c.in_ok-validate_valued.ensures)
    (checks-then IsResult _ _ (Err _) c.in_ok-validate_code.ensures
    (checks-before IsResult _ _ _ (plain _ _ c.in_err-validate_special_types.ensures))))

pub returns-in_err-validate_filters : goal.returns-in_err-validate_filters
returns-in_err-validate_filters c =
    let plain = in-module c.args.«module».now c.of_module-scope.result c.of_module-scope.ensures.counts c.of_module-scope.ensures.caller in
    let is : c.from_residual-in_err-validate_filters.result ≡ Err c.in_err-validate_filters.field-0.0 = search rules in
    subst (ChecksEach IsResult _) (sym is)
    (checks-then IsResult _ _ (Err _) (plain _ _ c.in_ok-validate_valued.ensures)
    (checks-then IsResult _ _ (Err _) c.in_ok-validate_code.ensures
    (checks-then IsResult _ _ (Err _) (plain _ _ c.in_ok-validate_special_types.ensures)
    (checks-before IsResult _ _ _ c.in_err-validate_filters.ensures))))

pub returns : goal.returns
returns c =
    let plain = in-module c.args.«module».now c.of_module-scope.result c.of_module-scope.ensures.counts c.of_module-scope.ensures.caller in
    checks-then IsResult _ _ _ (plain _ _ c.in_ok-validate_valued.ensures)
    (checks-then IsResult _ _ _ c.in_ok-validate_code.ensures
    (checks-then IsResult _ _ _ (plain _ _ c.in_ok-validate_special_types.ensures)
    (checks-then IsResult _ _ _ c.in_ok-validate_filters.ensures (plain _ _ c.validate_documented.ensures))))
