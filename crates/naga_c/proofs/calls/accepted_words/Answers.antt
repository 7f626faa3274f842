use Rattle.std.proofs.Common.{◌≡◌, Result, subst, sym}
use Rattle.naga_c.specs.Subjects.{IsSubjectOfWords}
use Rattle.naga_c.specs.declared.subject.NoSubject.{NoSubject}
use Rattle.naga_c.specs.declared.subject.Subject.{Subject}
use Rattle.naga_c.proofs.AcceptedLaws.{given_as}
use Rattle.naga_c.proofs.calls.accepted_words.Goals as goal

pub returns : goal.returns
returns c =
    let Is : Result Subject NoSubject → Type 0 = λ g. g ≡ c.subject_of_words-given.result in
    let As : Result Subject NoSubject → Type 0 = λ g. IsSubjectOfWords c.args.options.now c.args.words.now g in
    given_as Is As c.args.options.now.most_leaves c.accept.result (λ given same. subst As (sym same) c.subject_of_words-given.ensures) c.accept.ensures
