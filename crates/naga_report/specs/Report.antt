-- What is reported of a text.
use Rattle.std.specs.Fmt.{digit_glyph}
use Rattle.std.specs.Prelude.{◌≡◌, ◌⊎◌, ℕ, ◌+◌, ◌/◌, ◌%◌, false, List, [], ◌∷◌, ◌++◌, Result, Ok, Err, codes, decimal, unwrap_or}
use Rattle.naga_flags.specs.Bits.{all_validation_flags, default_capabilities}
use Rattle.naga_types.specs.declared.error.Disalignment.{Disalignment}
use Rattle.naga_types.specs.declared.info.TypeInfo.{TypeInfo}
use Rattle.naga_handles.specs.ErrorNames.{handle_error_name}
use Rattle.naga_info.specs.ErrorNames.{const_expression_error_name}
use Rattle.naga_types.specs.ErrorNames.{disalignment_name, type_error_name}
use Rattle.naga_typing.specs.ErrorNames.{layout_error_name}
use Rattle.naga_typing.specs.PlainTyping.{plain_resolves}
use Rattle.naga_valid.specs.Accepted.{IsAccepted, Refuses}
use Rattle.naga_valid.specs.ErrorNames.{constant_error_name, override_error_name}
use Rattle.naga_valid.specs.State.{Facts, Settings}
use Rattle.naga_valid.specs.declared.error.ValidationError.{ValidationError}
use Rattle.naga_valid.specs.declared.error.ValidationError.TheVariants.{InvalidHandle, Layouter, Type_, ConstExpression, ArraySizeError, Constant, Override, Corrupted, OutOfMemory as NoMemory}
use Rattle.naga_text.specs.Text.{IsFirstUnreadable, IsText}
use Rattle.naga_text.specs.Words.{lines_of}
use Rattle.naga_report.specs.declared.report.Outcome.{Outcome}
use Rattle.naga_report.specs.declared.report.Outcome.TheVariants.{Accepted, Refused, Unreadable}
use Rattle.naga_text.specs.declared.text.Contents.{Contents}

-- two lower case hexadecimal digits of a byte
abbrev pub hex_byte : ℕ → List ℕ
hex_byte n = digit_glyph false (n / 16) ∷ digit_glyph false (n % 16) ∷ []

-- the alignment of a layout in bytes, or the name of the reason why there is none
abbrev pub layout_text : Result ℕ (ℕ × Disalignment) → List ℕ
layout_text (Ok alignment) = decimal alignment
layout_text (Err e) = disalignment_name e.1

-- the line of an accepted type: its index, its flags, and its layouts in the uniform and the storage space
abbrev pub type_line : ℕ → TypeInfo → List ℕ
type_line i info =
    codes "T" ++ (decimal i ++ (codes " " ++ (hex_byte info.flags.0 ++ (codes " " ++ (layout_text info.uniform_layout ++ (codes " " ++ (layout_text info.storage_layout ++ codes "\n")))))))

-- the lines of types from index i on
abbrev pub type_lines : ℕ → List TypeInfo → List ℕ
type_lines i [] = []
type_lines i (info ∷ infos) = type_line i info ++ type_lines (i + 1) infos

-- the report on an accepted module, by the infos of its types
abbrev pub accepted_text : List TypeInfo → List ℕ
accepted_text infos = type_lines 0 infos ++ codes "ok\n"

-- the line of a refusal: what kind of item has which index, and the name of the error
abbrev pub refused_line : List ℕ → ℕ → List ℕ → List ℕ
refused_line kind number name = codes "refused " ++ (kind ++ (decimal number ++ (codes " " ++ (name ++ codes "\n"))))

-- the report if memory was refused while a module was validated
abbrev pub refused_memory_text : List ℕ
refused_memory_text = codes "refused memory\n"

-- the report on a refused module
abbrev pub refused_text : ValidationError → List ℕ
refused_text (InvalidHandle e) = codes "refused handle " ++ (handle_error_name e ++ codes "\n")
refused_text (Layouter e) = refused_line (codes "layout T") e.ty (layout_error_name e.inner)
refused_text (Type_ handle name source) = refused_line (codes "type T") handle (type_error_name source)
refused_text (ConstExpression handle source) = refused_line (codes "expression G") handle (const_expression_error_name source)
refused_text (ArraySizeError handle) = refused_line (codes "expression G") handle (codes "ArraySizeError")
refused_text (Constant handle name source) = refused_line (codes "constant C") handle (constant_error_name source)
refused_text (Override handle name source) = refused_line (codes "override O") handle (override_error_name source)
refused_text Corrupted = codes "refused module Corrupted\n"
refused_text NoMemory = refused_memory_text

-- the report on a text that can't be read, whose first unreadable line has number n
abbrev pub unreadable_text : ℕ → List ℕ
unreadable_text n = codes "line " ++ (decimal n ++ codes " not readable\n")

-- the settings by which the module of a text is validated: those that it says, or the defaults
abbrev pub settings_in : Contents → Settings
settings_in contents = record {
  flags = unwrap_or contents.flags (record { 0 = all_validation_flags });
  capabilities = unwrap_or contents.capabilities (record { 0 = default_capabilities });
  resolved = contents.resolved;
}

-- `text` is a report on `contents`, of the kind of the outcome
abbrev pub IsReportOn : Contents → List ℕ → Outcome → Type 0
IsReportOn contents text Accepted = (facts : Facts) × IsAccepted plain_resolves contents.«module» (settings_in contents) facts × (text ≡ accepted_text facts.infos)
IsReportOn contents text Refused =
    (text ≡ refused_memory_text) ⊎ ((e : ValidationError) × Refuses plain_resolves contents.«module» (settings_in contents) e × (text ≡ refused_text e))
IsReportOn contents text Unreadable = ⊥

-- `text` is a report on `input`, of the kind `outcome`: on what the input says, or on its first unreadable line
pub data IsReport (input text : List ℕ) (outcome : Outcome) : Type 0 where
  readable : (contents : Contents) → IsText (lines_of input) contents → IsReportOn contents text outcome → IsReport input text outcome
  unreadable : (n : ℕ) → IsFirstUnreadable (lines_of input) n → text ≡ unreadable_text n → outcome ≡ Unreadable → IsReport input text outcome
