-- What a call has to validate: the module that it reads, and the settings in force.
use Rattle.std.specs.Prelude.{◌≡◌, ℕ, List, Result, Ok, Err, ⊤}
use Rattle.naga_ir.specs.declared.ir.Module.{Module}
use Rattle.naga_text.specs.Text.{IsFirstUnreadable as IsFirstUnreadableLine, IsText}
use Rattle.naga_text.specs.Words.{lines_of}
use Rattle.naga_words.specs.Words.{IsFirstUnreadable, IsWords}
use Rattle.naga_c.specs.Options.{Allow, AreKnown, AreWithin, IsTextWithin, subject_of}
use Rattle.naga_c.specs.declared.options.Options.{Options as OptionsType}
use Rattle.naga_c.specs.declared.subject.NoSubject.{NoSubject}
use Rattle.naga_c.specs.declared.subject.NoSubject.TheVariants.{Options, Limit, Unreadable, Settings, OutOfMemory}
use Rattle.naga_c.specs.declared.subject.Said.{Said}
use Rattle.naga_c.specs.declared.subject.Subject.{Subject}

-- what came of reading something under known options and within their limits: what it says is taken if `Reads` holds
-- of a module and settings, and `Stops` of where it can't be read
abbrev pub IsReadTo : OptionsType → (Reads : Module → Said → Type 0) → (Stops : ℕ → Type 0) → Result Subject NoSubject
    → Type 0
IsReadTo options Reads Stops (Ok subject) =
    (m : Module) × (said : Said) × Reads m said × Allow options said × (subject ≡ subject_of options m said)
IsReadTo options Reads Stops (Err Settings) = (m : Module) × (said : Said) × Reads m said × (¬ (Allow options said))
IsReadTo options Reads Stops (Err (Unreadable at)) = Stops at
IsReadTo options Reads Stops (Err OutOfMemory) = ⊤
IsReadTo options Reads Stops (Err Options) = ⊥
IsReadTo options Reads Stops (Err Limit) = ⊥

-- what came of something that a call was given with `options`, of which `Within` says that it is within their limits:
-- a fault of the options, or too much, or what came of reading it
pub data IsSubject (options : OptionsType) (Within : Type 0) (Reads : Module → Said → Type 0) (Stops : ℕ → Type 0) (result : Result Subject NoSubject) : Type 0 where
  unknown : ¬ (AreKnown options) → result ≡ Err Options → IsSubject options Within Reads Stops result
  too_much : AreKnown options → ¬ Within → result ≡ Err Limit → IsSubject options Within Reads Stops result
  given : AreKnown options → Within → IsReadTo options Reads Stops result → IsSubject options Within Reads Stops result

-- words say the module `m` and the settings `said`
abbrev pub WordsSay : List ℕ → Module → Said → Type 0
WordsSay words m said =
    IsWords words
    (record { «module» = m; flags = said.flags; capabilities = said.capabilities; resolved = said.resolved })

-- a text says the module `m` and the settings `said`
abbrev pub TextSays : List ℕ → Module → Said → Type 0
TextSays input m said =
    IsText (lines_of input)
    (record { «module» = m; flags = said.flags; capabilities = said.capabilities; resolved = said.resolved })

-- what came of words that a call was given with `options`
abbrev pub IsSubjectOfWords : OptionsType → List ℕ → Result Subject NoSubject → Type 0
IsSubjectOfWords options words result =
    IsSubject options (AreWithin options words) (WordsSay words) (IsFirstUnreadable words) result

-- what came of a text that a call was given with `options`
abbrev pub IsSubjectOfText : OptionsType → List ℕ → Result Subject NoSubject → Type 0
IsSubjectOfText options input result =
    IsSubject options (IsTextWithin options input) (TextSays input) (IsFirstUnreadableLine (lines_of input)) result
