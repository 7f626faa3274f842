use Rattle.std.proofs.Common.{rules, ◌≡◌, ◌∙◌, ap, subst, sym}
use Rattle.std.specs.Prelude.{Err}
use Rattle.std.specs.List.{enumerate_from, flat_map}
use Rattle.naga_ir.specs.FirstError.{ChecksEach}
use Rattle.naga_handles.specs.steps.ItemChecks.{IsResult, expression_checks}
use Rattle.naga_handles.proofs.PassedPrefix.{begin, end, left-along, more, stop}
use Rattle.naga_handles.proofs.handles.validate_expressions.Goals as goal

pub loop-handle-init : goal.loop-handle-init
loop-handle-init c =
    let reads = expression_checks c.args.scope.now.counts c.args.scope.now.caller in
    let whole = enumerate_from 0 c.args.function.now.expressions in
    left-along IsResult _ _ (ap (flat_map reads) (sym (c.into_iter-handle-iterator.ensures.into_iter_gives ∙ c.iter-handle-items.ensures))) (begin IsResult (flat_map reads whole))

pub loop-handle-preserved : goal.loop-handle-preserved
loop-handle-preserved c =
    let reads = expression_checks c.args.scope.now.counts c.args.scope.now.caller in
    more IsResult (reads (c.in-Some.handle, c.in-Some.expression.now)) (flat_map reads c.next.new.self)
    (left-along IsResult _ _ (ap (flat_map reads) c.in-Some.ensures.steps) c.loop-handle.invariant) c.in_ok-validate_next_expression.ensures

pub returns-in_err-validate_next_expression : goal.returns-in_err-validate_next_expression
returns-in_err-validate_next_expression c =
    let reads = expression_checks c.args.scope.now.counts c.args.scope.now.caller in
    let is : c.from_residual.result ≡ Err c.in_err-validate_next_expression.field-0.0 = search rules in
    subst (ChecksEach IsResult _) (sym is)
    (stop IsResult (reads (c.in-Some.handle, c.in-Some.expression.now)) (flat_map reads c.next.new.self) _
    (left-along IsResult _ _ (ap (flat_map reads) c.in-Some.ensures.steps) c.loop-handle.invariant) c.in_err-validate_next_expression.ensures)

pub returns : goal.returns
returns c =
    let reads = expression_checks c.args.scope.now.counts c.args.scope.now.caller in
    end IsResult (left-along IsResult _ _ (ap (flat_map reads) c.in-None.ensures.steps.0) c.loop-handle.invariant)
