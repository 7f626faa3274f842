-- Which variants of expressions have operands in many fields.
use Rattle.naga_ir.specs.declared.expression.Expression.{Expression}
use Rattle.naga_ir.specs.declared.expression.Expression.TheVariants.{ImageSample, ImageLoad, ImageQuery}

-- the expression samples, loads or queries an image
abbrev pub ReadsImage : Expression → Type 0
ReadsImage (ImageSample image sampler gather coordinate array_index offset level depth_ref clamp_to_edge) = Unit {0}
ReadsImage (ImageLoad image coordinate array_index sample level) = Unit {0}
ReadsImage (ImageQuery image query) = Unit {0}
ReadsImage _ = ⊥
