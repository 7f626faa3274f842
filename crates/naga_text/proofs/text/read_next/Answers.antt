use Rattle.std.proofs.Common.{◌≡◌, ◌∙◌, subst, sym, true}
use Rattle.naga_text.specs.LineWords.{first_line}
use Rattle.naga_text.specs.Text.{has_content}
use Rattle.naga_text.specs.Words.{lines_of}
use Rattle.naga_text.specs.steps.SoFar.{AreAdded}
use Rattle.naga_text.proofs.PieceLaws.{others_follow}
use Rattle.naga_text.proofs.TextLaws.{words_added}
use Rattle.naga_text.proofs.text.read_next.Goals as goal

pub returns-then-not-has_content-clause-last : goal.returns-then-not-has_content-clause-last
returns-then-not-has_content-clause-last c = (others_follow c.args.text.now _ c.others.result (λ rest. lines_of rest.now) c.new-words.ensures.lines c.others.ensures).0

pub returns-then-not-has_content-clause-more : goal.returns-then-not-has_content-clause-more
returns-then-not-has_content-clause-more c = (others_follow c.args.text.now _ c.others.result (λ rest. lines_of rest.now) c.new-words.ensures.lines c.others.ensures).1

pub returns-clause-read : goal.returns-clause-read
returns-clause-read c =
    let line = first_line c.args.text.now in
    let old = c.args.so_far.now in
    let new = c.add_words.new.so_far in
    let content : has_content line ≡ true = sym c.has_content.ensures ∙ c.if-not-has_content.false in
    words_added old new line c.in_ok-added.added content (subst (λ words. AreAdded old words new c.in_ok-added.added) c.new-words.ensures.words c.in_ok-added.ensures.added)
