-- What is read of a file.
use Rattle.std.specs.Prelude.{◌≡◌, ℕ, List, Some, bit_or, false, unwrap_or}
use Rattle.naga_flags.specs.Bits.{CONSTANTS, all_validation_flags, default_capabilities}
use Rattle.naga_ir.specs.declared.ir.Module.{Module}
use Rattle.naga_module_text.specs.Settings.{settings_of_both}
use Rattle.naga_module_text.specs.declared.settings.Settings.{Settings}
use Rattle.naga_source.specs.declared.reading.Read.{Read}
use Rattle.naga_source.specs.declared.reading.Read.TheVariants.{Readable, Unreadable}
use Rattle.naga_source.specs.declared.reading.Subject.{Subject}
use Rattle.naga_text.specs.Text.{IsFirstUnreadable, IsText}
use Rattle.naga_text.specs.declared.text.Contents.{Contents}

-- the subject has the module `m` and these settings, and its constants are validated in any case
pub record IsSettled (m : Module) (settings : Settings) (subject : Subject) : Type 0 where
  pub the_module : subject.«module» ≡ m
  pub the_flags : subject.flags
      ≡ record { 0 = bit_or (unwrap_or settings.flags (record { 0 = all_validation_flags })).0 CONSTANTS }
  pub the_capabilities : subject.capabilities ≡ unwrap_or settings.capabilities (record { 0 = default_capabilities })
  pub overrides : subject.resolved ≡ unwrap_or settings.resolved false

-- the settings that a text says
abbrev pub said_in : Contents → Settings
said_in contents = record {
  flags = contents.flags;
  capabilities = contents.capabilities;
  resolved = Some contents.resolved;
}

-- what is read of a file with these lines in the line text, by settings that are asked for: the module, or the first
-- line that can't be read
abbrev pub IsReadOf : List (List ℕ) → Settings → Read → Type 0
IsReadOf lines asked (Readable subject) =
    (contents : Contents) × IsText lines contents
    × IsSettled contents.«module» (settings_of_both (said_in contents) asked) subject
IsReadOf lines asked (Unreadable unreadable) = IsFirstUnreadable lines unreadable.line
