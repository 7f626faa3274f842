use Rattle.std.proofs.Common.{rules, ℕ, ◌≡◌, ◌∙◌, ap, subst, sym}
use Rattle.std.specs.Prelude.{Ok, Err}
use Rattle.std.specs.List.{enumerate_from, flat_map}
use Rattle.naga_ir.specs.FirstError.{ChecksEach}
use Rattle.naga_ir.specs.Handles.{module_counts}
use Rattle.naga_ir.specs.declared.ir.DiagnosticFilterNode.{DiagnosticFilterNode}
use Rattle.naga_ir.specs.declared.reference.Reference.TheVariants as to
use Rattle.naga_handles.specs.steps.ItemChecks.{IsResult, filter_checks}
use Rattle.naga_handles.specs.steps.Checks.{of_filter}
use Rattle.naga_handles.proofs.CheckLemmas.{filter-alone, filter-around, check}
use Rattle.naga_handles.proofs.PassedPrefix.{begin, end, left-along, more, stop}
use Rattle.naga_handles.proofs.handles.validate_filter_parents.Goals as goal

pub loop-handle-init : goal.loop-handle-init
loop-handle-init c =
    let m = c.args.«module».now in
    let whole = enumerate_from 0 m.diagnostic_filters in
    left-along IsResult _ _ (ap (flat_map (filter_checks (module_counts m))) (sym (c.into_iter-handle-iterator.ensures.into_iter_gives ∙ c.iter-handle-items.ensures))) (begin IsResult (flat_map (filter_checks (module_counts m)) whole))

pub loop-handle-preserved : goal.loop-handle-preserved
loop-handle-preserved c =
    let n = module_counts c.args.«module».now in
    let at : ℕ × DiagnosticFilterNode = (c.in-Some.handle, c.in-Some.filter.now) in
    more IsResult (filter_checks n at) (flat_map (filter_checks n) c.next.new.self)
    (left-along IsResult _ _ (ap (flat_map (filter_checks n)) c.in-Some.ensures.steps) c.loop-handle.invariant)
    (filter-alone n _ _ c.in_default.is)

pub loop-handle-preserved-in-Continue-1 : goal.loop-handle-preserved-in-Continue-1
loop-handle-preserved-in-Continue-1 c =
    let n = module_counts c.args.«module».now in
    let at : ℕ × DiagnosticFilterNode = (c.in-Some.handle, c.in-Some.filter.now) in
    let here : IsResult (check n (of_filter at.0) (to.DiagnosticFilterNode c.in-Some-parent.parent)) (Ok tt) = search rules in
    more IsResult (filter_checks n at) (flat_map (filter_checks n) c.next.new.self)
    (left-along IsResult _ _ (ap (flat_map (filter_checks n)) c.in-Some.ensures.steps) c.loop-handle.invariant)
    (filter-around n at.0 _ at.1 _ c.in-Some-parent.is here)

pub returns-in_err-check_dep : goal.returns-in_err-check_dep
returns-in_err-check_dep c =
    let n = module_counts c.args.«module».now in
    let at : ℕ × DiagnosticFilterNode = (c.in-Some.handle, c.in-Some.filter.now) in
    let is : c.from_residual.result ≡ Err c.in_err-check_dep.field-0.0 = search rules in
    let here : IsResult (check n (of_filter at.0) (to.DiagnosticFilterNode c.in-Some-parent.parent)) (Err c.in_err-check_dep.field-0.0) = search rules in
    subst (ChecksEach IsResult _) (sym is)
    (stop IsResult (filter_checks n at) (flat_map (filter_checks n) c.next.new.self) _
    (left-along IsResult _ _ (ap (flat_map (filter_checks n)) c.in-Some.ensures.steps) c.loop-handle.invariant)
    (filter-around n at.0 _ at.1 _ c.in-Some-parent.is here))

pub returns : goal.returns
returns c =
    let m = c.args.«module».now in
    end IsResult (left-along IsResult _ _ (ap (flat_map (filter_checks (module_counts m))) c.in-None.ensures.steps.0) c.loop-handle.invariant)
