-- The widths that scalars may have.
use Rattle.std.specs.Prelude.{◌==◌, ◌&&◌, ◌||◌, ℕ, Bool as Boolean, false, Result, Ok, Err, codes, if◌then◌else◌}
use Rattle.naga_ir.specs.declared.types.Scalar.{Scalar}
use Rattle.naga_ir.specs.declared.types.ScalarKind.TheVariants.{Sint, Uint, Float, Bool, AbstractInt, AbstractFloat}
use Rattle.naga_flags.specs.Bits.{FLOAT64, SHADER_FLOAT16, SHADER_INT16, SHADER_INT64}
use Rattle.naga_flags.specs.Flags.{has}
use Rattle.naga_flags.specs.declared.width.ImmediateError.{ImmediateError}
use Rattle.naga_flags.specs.declared.width.ImmediateError.TheVariants.{InvalidScalar}
use Rattle.naga_flags.specs.declared.width.WidthError.{WidthError}
use Rattle.naga_flags.specs.declared.width.WidthError.TheVariants.{Invalid, MissingCapability, Abstract}

-- the width of bools, in bytes
abbrev pub bool_width : ℕ
bool_width = 1

-- the widths of numbers of 16, 32 and 64 bits, in bytes
abbrev pub width_16 : ℕ
width_16 = 2

abbrev pub width_32 : ℕ
width_32 = 4

abbrev pub width_64 : ℕ
width_64 = 8

-- whether `capabilities` allow the width of the scalar `s`
abbrev pub is_good_width : ℕ → Scalar → Boolean
is_good_width capabilities s = elim s.kind [
  | Bool ↦ s.width == bool_width
  | Float ↦ s.width == width_32 || s.width == width_64 && has capabilities FLOAT64 || s.width == width_16 && has capabilities SHADER_FLOAT16
  | Sint ↦ s.width == width_32 || s.width == width_64 && has capabilities SHADER_INT64 || s.width == width_16 && has capabilities SHADER_INT16
  | Uint ↦ s.width == width_32 || s.width == width_64 && has capabilities SHADER_INT64 || s.width == width_16 && has capabilities SHADER_INT16
  | AbstractInt ↦ false
  | AbstractFloat ↦ false
]

-- the error for the scalar `s` if the capabilities do not allow its width
abbrev pub width_error : Scalar → WidthError
width_error s = elim s.kind [
  | Bool ↦ Invalid s.kind s.width
  | Float ↦
      if s.width == width_64 then MissingCapability (codes "f64") (codes "FLOAT64")
      else if s.width == width_16 then MissingCapability (codes "f16") (codes "SHADER_FLOAT16")
      else Invalid s.kind s.width
  | Sint ↦
      if s.width == width_64 then MissingCapability (codes "i64") (codes "SHADER_INT64")
      else if s.width == width_16 then MissingCapability (codes "i16") (codes "SHADER_INT16")
      else Invalid s.kind s.width
  | Uint ↦
      if s.width == width_64 then MissingCapability (codes "u64") (codes "SHADER_INT64")
      else if s.width == width_16 then MissingCapability (codes "u16") (codes "SHADER_INT16")
      else Invalid s.kind s.width
  | AbstractInt ↦ Abstract
  | AbstractFloat ↦ Abstract
]

-- whether immediates may hold the scalar `s`: they may hold every scalar except the scalars of 16 bits
abbrev pub immediates_of : Scalar → Result (Unit {0}) ImmediateError
immediates_of s = if s.width == width_16 then Err (InvalidScalar s) else Ok tt

-- whether immediates may hold the scalar `s` if `capabilities` allow its width, and else the error
abbrev pub width_rule : ℕ → Scalar → Result (Result (Unit {0}) ImmediateError) WidthError
width_rule capabilities s = if is_good_width capabilities s then Ok (immediates_of s) else Err (width_error s)
