use Rattle.std.proofs.Common.{Ok, Result, refl, subst, sym}
use Rattle.naga_c.specs.Subjects.{IsSubjectOfText}
use Rattle.naga_c.specs.Types.{not_accepted}
use Rattle.naga_c.specs.declared.subject.NoSubject.{NoSubject}
use Rattle.naga_c.specs.declared.subject.Subject.{Subject}
use Rattle.naga_c.proofs.AcceptedLaws.{ends_without}
use Rattle.naga_c.proofs.text.text_types.Goals as goal

pub returns-in-Ok : goal.returns-in-Ok
returns-in-Ok c =
    let is = subst (λ (g : Result Subject NoSubject). IsSubjectOfText c.args.options.now c.args.text.now g) (sym c.in-Ok.ensures.0) c.subject_of_text-given.ensures in
    (Ok c.in-Ok.accepted.subject, is, c.report_types.ensures)

pub returns-in-Err : goal.returns-in-Err
returns-in-Err c =
    let h = c.in-Err.ensures in
    let is = subst (λ (g : Result Subject NoSubject). IsSubjectOfText c.args.options.now c.args.text.now g) (sym h.1) c.subject_of_text-given.ensures in
    (h.0, is, ends_without h.0 c.in-Err.not _ _ h.2 (λ subject e. not_accepted e) (refl, refl))
