-- The scalars of formats of storage images.
use Rattle.naga_ir.specs.declared.storage_format.StorageFormat.{StorageFormat}
use Rattle.naga_ir.specs.declared.storage_format.StorageFormat.TheVariants.{R8Uint, R8Sint, R16Uint, R16Sint, Rg8Uint, Rg8Sint, R32Uint, R32Sint, Rg16Uint, Rg16Sint, Rgba8Uint, Rgba8Sint, Rgb10a2Uint, R64Uint, Rg32Uint, Rg32Sint, Rgba16Uint, Rgba16Sint, Rgba32Uint, Rgba32Sint}
use Rattle.naga_ir.specs.declared.types.Scalar.{Scalar}
use Rattle.naga_ir.specs.declared.types.ScalarKind.TheVariants.{Sint, Uint, Float}

-- the scalar of which the shader sees a texel of a format made
abbrev pub format_scalar : StorageFormat → Scalar
format_scalar R8Uint = record { kind = Uint; width = 4 }
format_scalar R8Sint = record { kind = Sint; width = 4 }
format_scalar R16Uint = record { kind = Uint; width = 4 }
format_scalar R16Sint = record { kind = Sint; width = 4 }
format_scalar Rg8Uint = record { kind = Uint; width = 4 }
format_scalar Rg8Sint = record { kind = Sint; width = 4 }
format_scalar R32Uint = record { kind = Uint; width = 4 }
format_scalar R32Sint = record { kind = Sint; width = 4 }
format_scalar Rg16Uint = record { kind = Uint; width = 4 }
format_scalar Rg16Sint = record { kind = Sint; width = 4 }
format_scalar Rgba8Uint = record { kind = Uint; width = 4 }
format_scalar Rgba8Sint = record { kind = Sint; width = 4 }
format_scalar Rgb10a2Uint = record { kind = Uint; width = 4 }
format_scalar R64Uint = record { kind = Uint; width = 8 }
format_scalar Rg32Uint = record { kind = Uint; width = 4 }
format_scalar Rg32Sint = record { kind = Sint; width = 4 }
format_scalar Rgba16Uint = record { kind = Uint; width = 4 }
format_scalar Rgba16Sint = record { kind = Sint; width = 4 }
format_scalar Rgba32Uint = record { kind = Uint; width = 4 }
format_scalar Rgba32Sint = record { kind = Sint; width = 4 }
format_scalar _ = record { kind = Float; width = 4 }
