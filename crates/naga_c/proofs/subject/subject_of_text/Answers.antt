use Rattle.naga_c.specs.Subjects.{given}
use Rattle.naga_c.proofs.SubjectLaws.{taken}
use Rattle.naga_c.proofs.subject.subject_of_text.Goals as goal

pub returns : goal.returns
returns c =
    given (c.are_known.ensures.0 c.if-not-are_known.false) (c.is_text_within.ensures.0 c.if-not-is_text_within.false)
    (taken c.args.options.now _ _ _ _ c.subject_of.result c.in_ok-contents.ensures.text c.subject_of.ensures)
