-- The names of errors: of each variant its name in naga, or in the code if naga has no such variant.
use Rattle.std.specs.Prelude.{ℕ, List, codes}
use Rattle.naga_flags.specs.declared.width.WidthError.{WidthError}
use Rattle.naga_flags.specs.declared.width.WidthError.TheVariants as width_error
use Rattle.naga_flags.specs.declared.width.ImmediateError.{ImmediateError}
use Rattle.naga_flags.specs.declared.width.ImmediateError.TheVariants as immediate_error

-- the name of the reason why a width of a scalar is refused
abbrev pub width_error_name : WidthError → List ℕ
width_error_name (width_error.Invalid _ _) = codes "Invalid"
width_error_name (width_error.MissingCapability _ _) = codes "MissingCapability"
width_error_name width_error.Abstract = codes "Abstract"

-- the name of the reason why immediates may not hold a type
abbrev pub immediate_error_name : ImmediateError → List ℕ
immediate_error_name (immediate_error.InvalidScalar _) = codes "InvalidScalar"
