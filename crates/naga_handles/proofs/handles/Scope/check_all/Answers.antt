use Rattle.std.proofs.Common.{rules, ◌≡◌, ◌∙◌, ap, List, ◌∷◌, drop, ◌+◌, Option, subst, sym}
use Rattle.std.specs.Prelude.{Ok, Err}
use Rattle.std.proofs.lemmas.List.{drop_all}
use Rattle.naga_ir.specs.Operands.{present}
use Rattle.naga_ir.specs.FirstError.{ChecksEach}
use Rattle.naga_ir.specs.declared.reference.Reference.{Reference}
use Rattle.naga_ir.proofs.StatementLemmas.{checks-single}
use Rattle.naga_handles.specs.steps.ItemChecks.{IsResult, checks}
use Rattle.naga_handles.specs.steps.Checks.{of_function}
use Rattle.naga_handles.proofs.PassedPrefix.{begin, end, left-along, left-at, more, stop}
use Rattle.naga_handles.proofs.handles.Scope.check_all.Goals as goal
use Rattle.naga_handles.proofs.handles.Scope.check_all.Goals.{in-Some+in_ok-check, in_default}

pub loop-reference-init : goal.loop-reference-init
loop-reference-init c = begin IsResult (checks c.args.self.now.counts (of_function c.args.self.now.caller) (present c.args.references.now))

pub returns-in_err-check : goal.returns-in_err-check
returns-in_err-check c =
    let n = c.args.self.now.counts in
    let s = of_function c.args.self.now.caller in
    let references = c.args.references.now in
    let i = c.loop-reference.reference-index in
    let is : c.from_residual.result ≡ Err c.in_err-check.field-0.0 = search rules in
    subst (ChecksEach IsResult (checks n s (present references))) (sym is)
    (stop IsResult _ (checks n s (present (drop (i + 1) references))) _
    (left-along IsResult _ _ (ap (λ (xs : List (Option Reference)). checks n s (present xs))
    (left-at references i _ c.loop-reference-test.true c.reference-item.is ∙ ap (λ (x : Option Reference). x ∷ drop (i + 1) references) c.in-Some.is)) c.loop-reference.invariant)
    (checks-single IsResult _ (Err _) c.in_err-check.ensures))

pub loop-reference-preserved : goal.loop-reference-preserved
loop-reference-preserved c =
    let n = c.args.self.now.counts in
    let s = of_function c.args.self.now.caller in
    let references = c.args.references.now in
    let i = c.loop-reference.reference-index in
    let left = left-at references i _ c.loop-reference-test.true c.reference-item.is in
    elim c.match-reference.branch [
      | in-Some+in_ok-check w ↦
          more IsResult _ (checks n s (present (drop (i + 1) references)))
          (left-along IsResult _ _ (ap (λ (xs : List (Option Reference)). checks n s (present xs)) (left ∙ ap (λ (x : Option Reference). x ∷ drop (i + 1) references) w.in-Some.is)) c.loop-reference.invariant)
          (checks-single IsResult _ (Ok _) w.in_ok-check.ensures)
      | in_default w ↦
          left-along IsResult _ _ (ap (λ (xs : List (Option Reference)). checks n s (present xs)) (left ∙ ap (λ (x : Option Reference). x ∷ drop (i + 1) references) w.in_default.is)) c.loop-reference.invariant
    ]

pub returns : goal.returns
returns c =
    let references = c.args.references.now in
    end IsResult (left-along IsResult _ _ (ap (λ (xs : List (Option Reference)). checks c.args.self.now.counts (of_function c.args.self.now.caller) (present xs)) (drop_all c.loop-reference.reference-index references c.loop-reference-test.false)) c.loop-reference.invariant)
