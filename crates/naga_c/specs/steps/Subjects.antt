-- What is read, or why nothing is.
use Rattle.std.specs.Prelude.{◌≡◌, Result, Ok, Err}
use Rattle.naga_ir.specs.declared.ir.Module.{Module}
use Rattle.naga_text.specs.declared.text.TextError.{TextError}
use Rattle.naga_text.specs.declared.text.TextError.TheVariants as text
use Rattle.naga_words.specs.declared.reader.WordsError.{WordsError}
use Rattle.naga_words.specs.declared.reader.WordsError.TheVariants as words
use Rattle.naga_c.specs.Options.{Allow, subject_of}
use Rattle.naga_c.specs.declared.options.Options.{Options as OptionsType}
use Rattle.naga_c.specs.declared.subject.NoSubject.{NoSubject}
use Rattle.naga_c.specs.declared.subject.NoSubject.TheVariants.{Unreadable, Settings, OutOfMemory}
use Rattle.naga_c.specs.declared.subject.Said.{Said}
use Rattle.naga_c.specs.declared.subject.Subject.{Subject}

-- why words that were not read have nothing to validate
abbrev pub unread_words : WordsError → NoSubject
unread_words (words.Item at) = Unreadable at
unread_words words.OutOfMemory = OutOfMemory

-- why a text that was not read has nothing to validate
abbrev pub unread_text : TextError → NoSubject
unread_text (text.Line number) = Unreadable number
unread_text text.OutOfMemory = OutOfMemory

-- a module with the settings `said` was taken under `options`: with the settings in force, if they allow those
abbrev pub IsTaken : OptionsType → Module → Said → Result Subject NoSubject → Type 0
IsTaken options m said (Ok subject) = Allow options said × (subject ≡ subject_of options m said)
IsTaken options m said (Err why) = (¬ (Allow options said)) × (why ≡ Settings)
