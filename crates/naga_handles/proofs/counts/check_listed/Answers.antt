use Rattle.std.proofs.Common.{rules, ◌≡◌, ◌∙◌, [], ◌∷◌, subst, sym}
use Rattle.std.specs.Prelude.{Ok, Err}
use Rattle.naga_ir.specs.References.{operands}
use Rattle.naga_ir.specs.FirstError.{ChecksEach}
use Rattle.naga_ir.proofs.StatementLemmas.{checks-single}
use Rattle.naga_handles.specs.steps.ItemChecks.{IsOperandResult}
use Rattle.naga_handles.proofs.PassedPrefix.{begin, end, left-along, more, stop}
use Rattle.naga_handles.proofs.counts.check_listed.Goals as goal

pub loop-operand-init : goal.loop-operand-init
loop-operand-init c =
    let check = IsOperandResult c.args.handle in
    left-along check _ _ (sym (c.into_iter-operand-iterator.ensures.into_iter_gives ∙ c.operands-operand-items.ensures)) (begin check (operands c.args.expression.now))

pub loop-operand-preserved : goal.loop-operand-preserved
loop-operand-preserved c =
    let check = IsOperandResult c.args.handle in
    let here : check c.in-Some.operand (Ok tt) = search rules in
    more check (c.in-Some.operand ∷ []) c.next.new.self (left-along check _ _ c.in-Some.ensures.steps c.loop-operand.invariant) (checks-single check _ (Ok _) here)

pub returns-in_err-check_dep : goal.returns-in_err-check_dep
returns-in_err-check_dep c =
    let check = IsOperandResult c.args.handle in
    let is : c.from_residual.result ≡ Err c.in_err-check_dep.field-0.0 = search rules in
    let here : check c.in-Some.operand (Err c.in_err-check_dep.field-0.0) = search rules in
    subst (ChecksEach check (operands c.args.expression.now)) (sym is)
    (stop check (c.in-Some.operand ∷ []) c.next.new.self _ (left-along check _ _ c.in-Some.ensures.steps c.loop-operand.invariant) (checks-single check _ (Err _) here))

pub returns : goal.returns
returns c =
    let check = IsOperandResult c.args.handle in
    end check (left-along check _ _ c.in-None.ensures.steps.0 c.loop-operand.invariant)
