-- What is returned by the check that coordinates can be clamped.
use Rattle.std.specs.Prelude.{◌≡◌, ◌⊎◌, Result, Err, String, Some}
use Rattle.std.specs.declared.alloc.Global.{Global}
use Rattle.naga_image_exprs.specs.Samples.{clamp_error}
use Rattle.naga_image_exprs.specs.declared.resource.ImageType.{ImageType}
use Rattle.naga_image_exprs.specs.declared.sample.Sample.{Sample}
use Rattle.naga_info.specs.declared.expression_error.ExpressionError.{ExpressionError}
use Rattle.naga_info.specs.declared.expression_error.ExpressionError.TheVariants.{InvalidSampleClampCoordinateToEdge, OutOfMemory}
use Rattle.naga_types.specs.Checks.{ok_unless}

-- a check returns what the condition says with some text, or `OutOfMemory` if it is broken whatever the text
abbrev pub IsClampResult : ImageType → Sample → Result (Unit {0}) ExpressionError → Type 0
IsClampResult image sample result =
    ((text : String Global) × (result ≡ ok_unless (clamp_error text image sample) tt))
    ⊎ ((result ≡ Err OutOfMemory)
    × ((text : String Global) → clamp_error text image sample ≡ Some (InvalidSampleClampCoordinateToEdge text)))
