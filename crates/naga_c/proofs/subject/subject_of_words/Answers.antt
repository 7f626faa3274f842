use Rattle.naga_c.specs.Subjects.{given}
use Rattle.naga_c.proofs.SubjectLaws.{taken}
use Rattle.naga_c.proofs.subject.subject_of_words.Goals as goal

pub returns : goal.returns
returns c =
    given (c.are_known.ensures.0 c.if-not-are_known.false) (c.are_within.ensures.0 c.if-not-are_within.false)
    (taken c.args.options.now _ _ _ _ c.subject_of.result c.in_ok-contents.ensures.words c.subject_of.ensures)
