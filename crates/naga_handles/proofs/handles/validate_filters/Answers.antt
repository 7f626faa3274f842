use Rattle.std.proofs.Common.{rules, List, [], ◌∷◌, None, ap, map, option_to_list}
use Rattle.std.specs.Prelude.{option_map}
use Rattle.std.specs.List.{enumerate_from, flat_map}
use Rattle.naga_ir.specs.FirstError.{ChecksEach}
use Rattle.naga_ir.specs.Handles.{module_counts}
use Rattle.naga_ir.specs.Operands.{present}
use Rattle.naga_ir.specs.declared.reference.Reference.{Reference}
use Rattle.naga_ir.specs.declared.reference.Reference.TheVariants as to
use Rattle.naga_ir.proofs.StatementLemmas.{checks-along, checks-then}
use Rattle.naga_handles.specs.steps.ItemChecks.{IsResult, filter_checks, checks}
use Rattle.naga_handles.specs.steps.Checks.{of_function}
use Rattle.naga_handles.proofs.CheckLemmas.{one-present}
use Rattle.naga_handles.proofs.handles.validate_filters.Goals as goal

pub returns : goal.returns
returns c =
    let m = c.args.«module».now in
    let n = module_counts m in
    let leaf : List Reference = map to.DiagnosticFilterNode (option_to_list m.diagnostic_filter_leaf) in
    let here : ChecksEach IsResult (checks n (of_function None) (present (option_map to.DiagnosticFilterNode m.diagnostic_filter_leaf ∷ []))) c.check_all.result = search rules in
    checks-then IsResult (flat_map (filter_checks n) (enumerate_from 0 m.diagnostic_filters)) (checks n (of_function None) leaf) _
    c.in_ok-validate_filter_parents.ensures
    (checks-along IsResult _ _ _ (ap (checks n (of_function None)) (one-present to.DiagnosticFilterNode m.diagnostic_filter_leaf)) here)
