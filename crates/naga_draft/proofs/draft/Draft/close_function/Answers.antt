use Rattle.std.proofs.Common.{arith, subst, sym, ◌∙◌}
use Rattle.std.proofs.lemmas.Result.{IfErr-weaker, IfOk-weaker}
use Rattle.naga_draft.specs.OpenFunctions.{IsFinished}
use Rattle.naga_draft.proofs.OpenLaws.{entry_closed, function_closed, function_fits}
use Rattle.naga_draft.proofs.draft.Draft.close_function.Goals as goal

pub returns-in-Function-clause-closed : goal.returns-in-Function-clause-closed
returns-in-Function-clause-closed c = λ items h.
    IfOk-weaker c.append.result _ _ (λ _ e. function_closed items c.args.self.now h c.in-Some.current (sym c.take.ensures.value ∙ c.in-Some.is) c.in-Function.function
    (λ head parts a. subst (IsFinished head parts) c.in-Function.is (c.in_ok-function.ensures.finished head parts a)) c.append.new.items e _ c.take.ensures.after) c.append.ensures.added

pub returns-in-Function-clause-unfinished : goal.returns-in-Function-clause-unfinished
returns-in-Function-clause-unfinished c = λ items h.
    let fits = function_fits items c.args.self.now h c.in-Some.current (sym c.take.ensures.value ∙ c.in-Some.is) c.in-Function.function
    (λ head parts a. subst (IsFinished head parts) c.in-Function.is (c.in_ok-function.ensures.finished head parts a)) in
    IfErr-weaker c.append.result _ _ (λ e full item. let none_left = full item in absurd (omega (arith, fits, none_left))) c.append.ensures.full

pub returns-in-EntryPoint-clause-closed : goal.returns-in-EntryPoint-clause-closed
returns-in-EntryPoint-clause-closed c = λ items h.
    IfOk-weaker c.push.result _ _ (λ _ e. entry_closed items c.args.self.now h c.in-Some.current (sym c.take.ensures.value ∙ c.in-Some.is) c.in-EntryPoint.entry_point
    (λ head parts a. subst (IsFinished head parts) c.in-EntryPoint.is (c.in_ok-function.ensures.finished head parts a)) c.push.new.items e _ c.take.ensures.after) c.push.ensures.added
