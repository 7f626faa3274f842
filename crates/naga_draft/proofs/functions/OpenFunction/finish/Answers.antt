use Rattle.std.proofs.Common.{◌≡◌, Err, rules, subst, sym}
use Rattle.std.specs.Prelude.{IfErr}
use Rattle.naga_draft.specs.OpenFunctions.{IsSection}
use Rattle.naga_draft.proofs.FunctionLaws.{no_section}
use Rattle.naga_draft.proofs.functions.OpenFunction.finish.Goals as goal

pub returns-in_err-function-clause-unfinished : goal.returns-in_err-function-clause-unfinished
returns-in_err-function-clause-unfinished c = λ head parts h.
    let is : c.from_residual.result ≡ Err c.in_err-function.field-0.0 = search rules in
    subst (λ r. IfErr r (λ e. ¬ (IsSection head parts))) (sym is) (no_section head parts (c.in_err-function.ensures.refused _ h.blocks).1)
