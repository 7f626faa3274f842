-- What can be read off a type by itself.
use Rattle.std.specs.Prelude.{ℕ, Bool as Boolean, true, false, not, Option, Some, None, IsTrue, IsFalse}
use Rattle.naga_ir.specs.declared.types.Scalar.{Scalar as ScalarType}
use Rattle.naga_ir.specs.declared.types.ImageClass.{ImageClass}
use Rattle.naga_ir.specs.declared.types.ImageClass.TheVariants.{Sampled, Depth, Storage, External}
use Rattle.naga_ir.specs.declared.types.TypeInner.{TypeInner}
use Rattle.naga_ir.specs.declared.types.TypeInner.TheVariants.{Scalar, Vector, Matrix, CooperativeMatrix, Pointer, Struct}
use Rattle.naga_ir.specs.declared.types.VectorSize.{VectorSize}

-- the scalar of a scalar, a vector or a matrix, of either kind of matrix; other types have none
abbrev pub scalar_of : TypeInner → Option ScalarType
scalar_of (Scalar scalar) = Some scalar
scalar_of (Vector size scalar) = Some scalar
scalar_of (Matrix columns rows scalar) = Some scalar
scalar_of (CooperativeMatrix columns rows scalar role) = Some scalar
scalar_of _ = None

-- the scalar of a scalar or a vector, and the number of components of a vector; other types have none
abbrev pub vector_size_and_scalar : TypeInner → Option (Option VectorSize × ScalarType)
vector_size_and_scalar (Scalar scalar) = Some (None, scalar)
vector_size_and_scalar (Vector size scalar) = Some (Some size, scalar)
vector_size_and_scalar _ = None

-- whether `inner` is a struct
abbrev pub is_struct : TypeInner → Boolean
is_struct (Struct members span) = true
is_struct _ = false

-- `inner` is a struct
abbrev pub IsStruct : TypeInner → Type 0
IsStruct inner = IsTrue (is_struct inner)

-- `inner` is not a struct
abbrev pub IsNotStruct : TypeInner → Type 0
IsNotStruct inner = IsFalse (is_struct inner)

-- the type that a pointer points to, if it has a handle
abbrev pub pointer_base : TypeInner → Option ℕ
pointer_base (Pointer base space) = Some base
pointer_base _ = None

-- whether an image has several samples of each value
abbrev pub is_multisampled : ImageClass → Boolean
is_multisampled (Sampled kind multi) = multi
is_multisampled (Depth multi) = multi
is_multisampled (Storage format access) = false
is_multisampled External = false

-- whether an image may have several levels
abbrev pub is_mipmapped : ImageClass → Boolean
is_mipmapped (Sampled kind multi) = not multi
is_mipmapped (Depth multi) = not multi
is_mipmapped (Storage format access) = false
is_mipmapped External = false
