-- Properties of types by themselves.
use Rattle.std.specs.Prelude.{Bool, true, false, Option, Some, None}
use Rattle.naga_ir.specs.declared.types.ArraySize.{ArraySize}
use Rattle.naga_ir.specs.declared.types.ArraySize.TheVariants.{Constant, Pending, Dynamic}
use Rattle.naga_ir.specs.declared.types.ImageDimension.{ImageDimension}
use Rattle.naga_ir.specs.declared.types.ImageDimension.TheVariants.{D1, D2, D3}
use Rattle.naga_ir.specs.declared.types.TypeInner.{TypeInner}
use Rattle.naga_ir.specs.declared.types.TypeInner.TheVariants as form
use Rattle.naga_ir.specs.declared.types.VectorSize.{VectorSize}
use Rattle.naga_ir.specs.declared.types.VectorSize.TheVariants.{Bi, Tri, Quad}
use Rattle.naga_types.specs.Checks.{when}
use Rattle.naga_types.specs.TypeRule.{is_integer}

-- a count is written in the module
abbrev pub is_written : ArraySize → Bool
is_written (Constant n) = true
is_written (Pending over) = false
is_written Dynamic = false

-- values of a type have a fixed size: those that are not resources, and of arrays those whose count is written
abbrev pub is_sized : TypeInner → Bool
is_sized (form.Array base size stride) = is_written size
is_sized (form.Image dim arrayed class) = false
is_sized (form.Sampler comparison) = false
is_sized (form.AccelerationStructure vertex_return) = false
is_sized (form.RayQuery vertex_return) = false
is_sized (form.BindingArray base size) = false
is_sized _ = true

-- the dimension of images in which so many integers are coordinates, if there is one
abbrev pub dimension_of : VectorSize → Option ImageDimension
dimension_of Bi = Some D2
dimension_of Tri = Some D3
dimension_of Quad = None

-- integers are coordinates in storage images: one, two or three of them
abbrev pub image_storage_coordinates : TypeInner → Option ImageDimension
image_storage_coordinates (form.Scalar scalar) = when (is_integer scalar.kind) (Some D1)
image_storage_coordinates (form.Vector size scalar) = when (is_integer scalar.kind) (dimension_of size)
image_storage_coordinates _ = None
