use Rattle.std.proofs.Common.{◌≡◌, ◌⊎◌, ◌<◌, ◌^◌, Err, length, rules, subst, sym}
use Rattle.std.specs.Prelude.{IfErr}
use Rattle.naga_words.specs.Words.{IsFirstUnreadable, NamesItem}
use Rattle.naga_words.specs.declared.reader.WordsError.TheVariants as error
use Rattle.naga_words.proofs.Unreadable.{names, only_memory, stuck_at_end}
use Rattle.naga_words.proofs.reader.read_words.Goals as goal

pub returns-in_err-read_items-clause-only : goal.returns-in_err-read_items-clause-only
returns-in_err-read_items-clause-only c = λ contents says.
    let is : c.from_residual.result ≡ Err c.in_err-read_items.field-0.0 = search rules in
    subst (λ r. IfErr r (λ e. e ≡ error.OutOfMemory)) (sym is) (only_memory c.args.words.now contents says c.in_err-read_items.field-0.0 c.in_err-read_items.ensures.stuck)

pub returns-in-Err-clause-words : goal.returns-in-Err-clause-words
returns-in-Err-clause-words c =
    let read = c.in_ok-read_items.ensures.all in
    let few : length c.args.words.now < 2 ^ 63 = search rules in
    subst (λ e. (e ≡ error.OutOfMemory) ⊎ NamesItem e (IsFirstUnreadable c.args.words.now)) (sym c.error_at.ensures)
    (names c.args.words.now c.in-Err.unread _ (λ item. stuck_at_end c.args.words.now read.items _ read.are read.added few (c.in-Err.ensures.unfinished read.items read.added item)))
