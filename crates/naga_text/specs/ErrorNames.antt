-- The names of errors: of each variant its name in naga, or in the code if naga has no such variant.
use Rattle.std.specs.Prelude.{ℕ, List, codes}
use Rattle.naga_text.specs.declared.text.TextError.{TextError}
use Rattle.naga_text.specs.declared.text.TextError.TheVariants as text_error

-- the name of the reason why a text was not read
abbrev pub text_error_name : TextError → List ℕ
text_error_name (text_error.Line _) = codes "Line"
text_error_name text_error.OutOfMemory = codes "OutOfMemory"
