use Rattle.std.proofs.Common.{◌≡◌, Err, rules, subst, sym}
use Rattle.std.specs.Prelude.{IfErr}
use Rattle.naga_draft.specs.Modules.{Say}
use Rattle.naga_draft.specs.declared.draft.Contents.{Contents}
use Rattle.naga_draft.specs.declared.unread.Unread.TheVariants as unread
use Rattle.naga_draft.proofs.OpenLaws.{unfinished_says_nothing}
use Rattle.naga_draft.proofs.WholeLaws.{closed_says}
use Rattle.naga_draft.proofs.draft.Draft.finish.Goals as goal

pub returns-in_err-close_function-clause-unfinished : goal.returns-in_err-close_function-clause-unfinished
returns-in_err-close_function-clause-unfinished c = λ items h.
    let is : c.from_residual.result ≡ Err c.in_err-close_function.field-0.0 = search rules in
    subst (λ r. IfErr r (λ e. e ≡ unread.Item → (contents : Contents) → ¬ (Say items contents))) (sym is)
    (λ item. unfinished_says_nothing items (c.in_err-close_function.ensures.unfinished items h item))

pub returns-clause-whole : goal.returns-clause-whole
returns-clause-whole c = λ items h.
    subst (Say items) (sym c.into_contents.ensures) (closed_says items c.close_function.new.self (c.in_ok-close_function.ensures.closed items h))
