use Rattle.std.proofs.Common.{rules, ℕ, ◌≡◌, ◌∙◌, ap, subst, sym}
use Rattle.std.specs.Prelude.{Ok, Err}
use Rattle.std.specs.List.{enumerate_from, flat_map}
use Rattle.naga_ir.specs.FirstError.{ChecksEach}
use Rattle.naga_ir.specs.declared.ir.Function.{Function}
use Rattle.naga_handles.specs.steps.ItemChecks.{IsResult, numbered_checks}
use Rattle.naga_handles.proofs.PassedPrefix.{begin, end, left-along, more, stop}
use Rattle.naga_handles.proofs.handles.validate_functions.Goals as goal

pub loop-handle-init : goal.loop-handle-init
loop-handle-init c =
    let m = c.args.«module».now in
    let whole = enumerate_from 0 m.functions in
    left-along IsResult _ _ (ap (flat_map (numbered_checks m)) (sym (c.into_iter-handle-iterator.ensures.into_iter_gives ∙ c.iter-handle-items.ensures))) (begin IsResult (flat_map (numbered_checks m) whole))

pub loop-handle-preserved : goal.loop-handle-preserved
loop-handle-preserved c =
    let m = c.args.«module».now in
    let at : ℕ × Function = (c.in-Some.handle, c.in-Some.function.now) in
    let here : ChecksEach IsResult (numbered_checks m at) (Ok tt) = search rules in
    more IsResult (numbered_checks m at) (flat_map (numbered_checks m) c.next.new.self)
    (left-along IsResult _ _ (ap (flat_map (numbered_checks m)) c.in-Some.ensures.steps) c.loop-handle.invariant) here

pub returns-in_err-validate_function_handles : goal.returns-in_err-validate_function_handles
returns-in_err-validate_function_handles c =
    let m = c.args.«module».now in
    let at : ℕ × Function = (c.in-Some.handle, c.in-Some.function.now) in
    let is : c.from_residual.result ≡ Err c.in_err-validate_function_handles.field-0.0 = search rules in
    let here : ChecksEach IsResult (numbered_checks m at) (Err c.in_err-validate_function_handles.field-0.0) = search rules in
    subst (ChecksEach IsResult _) (sym is)
    (stop IsResult (numbered_checks m at) (flat_map (numbered_checks m) c.next.new.self) _
    (left-along IsResult _ _ (ap (flat_map (numbered_checks m)) c.in-Some.ensures.steps) c.loop-handle.invariant) here)

pub returns : goal.returns
returns c =
    let m = c.args.«module».now in
    end IsResult (left-along IsResult _ _ (ap (flat_map (numbered_checks m)) c.in-None.ensures.steps.0) c.loop-handle.invariant)
