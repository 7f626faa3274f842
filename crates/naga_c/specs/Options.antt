-- What hosts say of how their modules are validated, and of what calls may take.
use Rattle.std.specs.Prelude.{◌≡◌, ◌==◌, ◌≤◌, ◌+◌, ◌/◌, ◌⊎◌, ℕ, false, List, [], ◌∷◌, Option, None, Some, bit_and, bit_or, drop, filter, length, suc, zero, ◌||◌}
use Rattle.naga_flags.specs.Bits.{all_capabilities, all_validation_flags}
use Rattle.naga_flags.specs.declared.flags.Capabilities.{Capabilities}
use Rattle.naga_flags.specs.declared.flags.ValidationFlags.{ValidationFlags}
use Rattle.naga_ir.specs.declared.ir.Module.{Module}
use Rattle.naga_c.specs.declared.options.Options.{Options}
use Rattle.naga_c.specs.declared.subject.Said.{Said}
use Rattle.naga_c.specs.declared.subject.Subject.{Subject}

-- each field has a value that means something
pub record AreKnown (options : Options) : Type 0 where
  pub size : options.size ≡ 48
  pub flags : options.flags ≤ all_validation_flags
  pub capabilities : options.capabilities ≤ all_capabilities
  pub resolved : options.resolved ≤ 1
  pub settings : options.settings ≤ 1

-- of words as many items as `n` heads follow one another, each so many words after the one before as that says
abbrev pub items_within : ℕ → List ℕ → ℕ
items_within zero words = 0
items_within (suc n) [] = 0
items_within (suc n) (head ∷ rest) = 1 + items_within n (drop (head / 256) rest)

-- how many items words have, by the heads alone: the last may lack operands
abbrev pub item_count : List ℕ → ℕ
item_count words = items_within (length words) words

-- words are not more than options allow
pub record AreWithin (options : Options) (given : List ℕ) : Type 0 where
  pub words : length given ≤ options.most_words
  pub items : item_count given ≤ options.most_items

-- how many line ends a text has
abbrev pub line_ends : List ℕ → ℕ
line_ends text = length (filter (λ byte. byte == 10) text)

-- a text is not longer than options allow
pub record IsTextWithin (options : Options) (text : List ℕ) : Type 0 where
  pub words : length text / 4 ≤ options.most_words
  pub items : line_ends text ≤ options.most_items

-- no setting comes with a module
abbrev pub nothing_said : Said
nothing_said = record { flags = None; capabilities = None; resolved = false }

-- options allow these settings to come with a module
abbrev pub Allow : Options → Said → Type 0
Allow options said = (options.settings ≡ 1) ⊎ (said ≡ nothing_said)

-- what is validated: what the options say, and what was said
abbrev pub flags_of_both : ℕ → Option ValidationFlags → ValidationFlags
flags_of_both bits None = record { 0 = bits }
flags_of_both bits (Some said) = record { 0 = bit_or bits said.0 }

-- what a module may use: what both the options and what was said allow
abbrev pub capabilities_of_both : ℕ → Option Capabilities → Capabilities
capabilities_of_both bits None = record { 0 = bits }
capabilities_of_both bits (Some said) = record { 0 = bit_and bits said.0 }

-- a module with the settings in force, of options and of the settings that come with it
abbrev pub subject_of : Options → Module → Said → Subject
subject_of options m said = record {
  «module» = m;
  flags = flags_of_both options.flags said.flags;
  capabilities = capabilities_of_both options.capabilities said.capabilities;
  resolved = (options.resolved == 1) || said.resolved;
}
