-- The rule of one type, by its variant.
use Rattle.std.specs.Prelude.{◌==◌, ◌&&◌, ◌||◌, not, leb, max, ℕ, ◌%◌, Bool as Boolean, true, false, List, [], ◌∷◌, Option, Some, None, Result, Ok, Err, bit_and, is_some, if◌then◌else◌}
use Rattle.std.specs.Option.{option_map_or}
use Rattle.naga_flags.specs.Bits.{COOPERATIVE_MATRIX, CREATION_RESOLVED, CUBE_ARRAY_TEXTURES, DATA, RAY_HIT_VERTEX_POSITION, RAY_QUERY, RAY_TRACING_PIPELINE, SHADER_FLOAT32_ATOMIC, SHADER_INT64_ATOMIC_ALL_OPS, SHADER_INT64_ATOMIC_MIN_MAX, SIZED, TEXTURE_EXTERNAL}
use Rattle.naga_flags.specs.Flags.{has}
use Rattle.naga_flags.specs.Width.{immediates_of, is_good_width, width_16, width_32, width_64, width_error}
use Rattle.naga_ir.specs.ItemReferences.{GlobalLists}
use Rattle.naga_ir.specs.TypeWords.{is_struct}
use Rattle.naga_ir.specs.declared.types.AddressSpace.{AddressSpace}
use Rattle.naga_ir.specs.declared.types.AddressSpace.TheVariants.{Storage}
use Rattle.naga_ir.specs.declared.types.ArraySize.{ArraySize}
use Rattle.naga_ir.specs.declared.types.ArraySize.TheVariants.{Constant, Pending, Dynamic}
use Rattle.naga_ir.specs.declared.types.ImageClass.{ImageClass}
use Rattle.naga_ir.specs.declared.types.ImageClass.TheVariants as image
use Rattle.naga_ir.specs.declared.types.ImageDimension.{ImageDimension}
use Rattle.naga_ir.specs.declared.types.ImageDimension.TheVariants.{D2, D3, Cube}
use Rattle.naga_ir.specs.declared.types.Scalar.{Scalar}
use Rattle.naga_ir.specs.declared.types.ScalarKind.{ScalarKind}
use Rattle.naga_ir.specs.declared.types.ScalarKind.TheVariants.{Sint, Uint, Float}
use Rattle.naga_ir.specs.declared.types.TypeInner.{TypeInner}
use Rattle.naga_ir.specs.declared.types.TypeInner.TheVariants as form
use Rattle.naga_typing.specs.Constants.{override_count}
use Rattle.naga_typing.specs.Layout.{alignment_at}
use Rattle.naga_types.specs.FormFlags.{array_flags, atomic_flags, binding_array_flags, element_flags, opaque_flags, pointer_flags, ray_query_flags, scalar_flags, unshared_flags}
use Rattle.naga_types.specs.Checks.{ok_unless, first_error_or, when, require}
use Rattle.naga_types.specs.Layouts.{Layout, min_uniform}
use Rattle.naga_types.specs.StructRule.{struct_rule}
use Rattle.naga_types.specs.Surroundings.{Surroundings, flags_at, form_at, info_at, shared, size_at}
use Rattle.naga_types.specs.declared.error.Disalignment.TheVariants.{ArrayStride}
use Rattle.naga_types.specs.declared.error.TypeError.{TypeError}
use Rattle.naga_types.specs.declared.error.TypeError.TheVariants.{MissingCapability, InvalidAtomicWidth, InvalidPointerBase, InvalidPointerToUnsized, InvalidData, InvalidArrayBaseType, InvalidArrayStride, MatrixElementNotFloat, UnsupportedImageType, BindingArrayBaseTypeNotStruct, BindingArrayBaseExternalTextures, WidthError, InvalidArraySize}
use Rattle.naga_types.specs.declared.info.TypeInfo.{TypeInfo}

-- the address space is `Storage`
abbrev pub is_storage : AddressSpace → Boolean
is_storage (Storage access) = true
is_storage _ = false

-- the kind is `Sint` or `Uint`
abbrev pub is_integer : ScalarKind → Boolean
is_integer Sint = true
is_integer Uint = true
is_integer _ = false

-- the kind is `Float`
abbrev pub is_float : ScalarKind → Boolean
is_float Float = true
is_float _ = false

-- the error of a type that needs the capability `flag`, if it is missing
abbrev pub capability_error : ℕ → ℕ → Option TypeError
capability_error capabilities flag = require (has capabilities flag) (MissingCapability (record { 0 = flag }))

-- the error of a scalar whose width is not allowed
abbrev pub scalar_error : ℕ → Scalar → Option TypeError
scalar_error capabilities scalar = require (is_good_width capabilities scalar) (WidthError (width_error scalar))

-- the info of a type made of scalars: immediates may hold it if they may hold these
abbrev pub of_scalars : ℕ → ℕ → Scalar → TypeInfo
of_scalars flags alignment scalar = record (shared flags alignment) { immediates_compatibility = immediates_of scalar }

-- the error of a scalar that is not allowed in an atomic: integers of 32 bits are allowed, integers of 64 bits with
-- either of two capabilities, and floating-point numbers of 32 bits with another
abbrev pub atomic_error : ℕ → Scalar → Option TypeError
atomic_error capabilities s =
    if is_integer s.kind && s.width == width_32 then None
    else if is_integer s.kind && s.width == width_64
    then require (has capabilities SHADER_INT64_ATOMIC_MIN_MAX || has capabilities SHADER_INT64_ATOMIC_ALL_OPS)
    (MissingCapability (record { 0 = SHADER_INT64_ATOMIC_ALL_OPS }))
    else if is_float s.kind && s.width == width_32 then capability_error capabilities SHADER_FLOAT32_ATOMIC
    else Some (InvalidAtomicWidth s.kind s.width)

-- the conditions of a cooperative matrix: a capability, and floating-point numbers of 16 or 32 bits
abbrev pub cooperative_checks : ℕ → Scalar → List (Option TypeError)
cooperative_checks capabilities scalar =
    capability_error capabilities COOPERATIVE_MATRIX ∷
    require (is_float scalar.kind && (scalar.width == width_16 || scalar.width == width_32)) MatrixElementNotFloat ∷ []

-- the conditions of a pointer, by what its base may be used for: the base is data, and has a fixed size unless the
-- address space is `Storage`
abbrev pub pointer_checks : ℕ → ℕ → AddressSpace → List (Option TypeError)
pointer_checks flags base space =
    require (has flags DATA) (InvalidPointerBase base) ∷
    require (has flags SIZED || is_storage space) (InvalidPointerToUnsized base space) ∷ []

-- an override that sizes an array gives a count
abbrev pub has_count : GlobalLists → ArraySize → Boolean
has_count g (Pending o) = is_some (override_count g o)
has_count g (Constant n) = true
has_count g Dynamic = true

-- the layout of an array in an address space: its alignment is the greater of `least` and the alignment of its base
-- there, and its stride is a multiple of it
abbrev pub array_layout : ℕ → ℕ → ℕ → Layout → Layout
array_layout handle least stride (Err e) = Err e
array_layout handle least stride (Ok base) =
    ok_unless (require (stride % max base least == 0) (handle, ArrayStride stride (max base least))) (max base least)

-- the conditions of an array: elements of a fixed size that is known when a module is created, a stride that is not
-- below this size, which `any_stride` leaves out, and a count if overrides must have their values
abbrev pub array_checks : Boolean → Surroundings → ℕ → ℕ → ArraySize → ℕ → List (Option TypeError)
array_checks any_stride s handle base size stride =
    require (has (flags_at s base) element_flags) (InvalidArrayBaseType base) ∷
    when (not any_stride) (require (leb (size_at s base) stride) (InvalidArrayStride stride (size_at s base))) ∷
    when s.resolved (require (has_count s.lists size) (InvalidArraySize handle)) ∷ []

-- the info of an array: in uniform buffers its alignment is at least the least alignment of arrays there
abbrev pub array_info : Surroundings → ℕ → ℕ → ArraySize → ℕ → TypeInfo
array_info s handle base size stride =
    let info = info_at s base in
    let alignment = alignment_at s.layouts base in
    record {
      flags = record { 0 = bit_and info.flags.0 (array_flags size) };
      uniform_layout = array_layout handle (max alignment min_uniform) stride info.uniform_layout;
      storage_layout = array_layout handle alignment stride info.storage_layout;
      immediates_compatibility = info.immediates_compatibility;
    }

-- the dimension is `D3`
abbrev pub is_3d : ImageDimension → Boolean
is_3d D3 = true
is_3d _ = false

-- the dimension is `Cube`
abbrev pub is_cube : ImageDimension → Boolean
is_cube Cube = true
is_cube _ = false

-- the dimension is `D2`
abbrev pub is_2d : ImageDimension → Boolean
is_2d D2 = true
is_2d _ = false

-- the class is `External`
abbrev pub is_external : ImageClass → Boolean
is_external image.External = true
is_external _ = false

-- the conditions of an image: no 3D image is arrayed, arrayed cubes need a capability, and external textures are 2D,
-- not arrayed, and need another capability
abbrev pub image_checks : ℕ → ImageDimension → Boolean → ImageClass → List (Option TypeError)
image_checks capabilities dim arrayed class =
    require (not (arrayed && is_3d dim)) (UnsupportedImageType dim arrayed class) ∷
    when (arrayed && is_cube dim) (capability_error capabilities CUBE_ARRAY_TEXTURES) ∷
    when (is_external class) (require (is_2d dim && not arrayed) (UnsupportedImageType dim arrayed class)) ∷
    when (is_external class) (capability_error capabilities TEXTURE_EXTERNAL) ∷ []

-- the error of a type that returns the vertices of a hit, if the capability for that is missing
abbrev pub vertex_return_condition : ℕ → Boolean → Option TypeError
vertex_return_condition capabilities vertex_return =
    when vertex_return (capability_error capabilities RAY_HIT_VERTEX_POSITION)

-- the conditions of an acceleration structure: one of two capabilities, and another if it gives the vertices of a hit
abbrev pub acceleration_checks : ℕ → Boolean → List (Option TypeError)
acceleration_checks capabilities vertex_return =
    require (has capabilities RAY_TRACING_PIPELINE || has capabilities RAY_QUERY)
    (MissingCapability (record { 0 = RAY_QUERY })) ∷
    vertex_return_condition capabilities vertex_return ∷ []

-- the conditions of a ray query: a capability, and another if it gives the vertices of a hit
abbrev pub ray_query_checks : ℕ → Boolean → List (Option TypeError)
ray_query_checks capabilities vertex_return =
    capability_error capabilities RAY_QUERY ∷ vertex_return_condition capabilities vertex_return ∷ []

-- a type is an external texture
abbrev pub is_external_image : Option TypeInner → Boolean
is_external_image (Some (form.Image dim arrayed class)) = is_external class
is_external_image _ = false

-- the conditions of a binding array: elements that are data are structs, none are external textures, and no override
-- sizes them
abbrev pub binding_array_checks : Surroundings → ℕ → List (Option TypeError)
binding_array_checks s base =
    require (not (has (flags_at s base) DATA) || option_map_or is_struct (form_at s base) false)
    (BindingArrayBaseTypeNotStruct base) ∷
    require (not (is_external_image (form_at s base))) BindingArrayBaseExternalTextures ∷
    require (has (flags_at s base) CREATION_RESOLVED) (InvalidData base) ∷ []

-- what gives the info of a type by its index, or the first error
abbrev pub TypeRule : Type 0
TypeRule = Surroundings → ℕ → TypeInner → Result TypeInfo TypeError

-- the info of the type of index `t`, which is `inner`, or the first error, where arrays may have any stride or not
abbrev pub type_rule_with : Boolean → TypeRule
type_rule_with any_stride s t (form.Scalar scalar) =
    ok_unless (scalar_error s.capabilities scalar) (of_scalars (scalar_flags scalar.kind) (alignment_at s.layouts t) scalar)
type_rule_with any_stride s t (form.Vector size scalar) =
    ok_unless (scalar_error s.capabilities scalar) (of_scalars (scalar_flags scalar.kind) (alignment_at s.layouts t) scalar)
type_rule_with any_stride s t (form.Matrix columns rows scalar) =
    first_error_or (require (is_float scalar.kind) MatrixElementNotFloat ∷ scalar_error s.capabilities scalar ∷ [])
    (of_scalars unshared_flags (alignment_at s.layouts t) scalar)
type_rule_with any_stride s t (form.CooperativeMatrix columns rows scalar role) =
    first_error_or (cooperative_checks s.capabilities scalar) (shared unshared_flags (alignment_at s.layouts t))
type_rule_with any_stride s t (form.Atomic scalar) =
    ok_unless (atomic_error s.capabilities scalar) (shared atomic_flags (alignment_at s.layouts t))
type_rule_with any_stride s t (form.Pointer base space) =
    first_error_or (pointer_checks (flags_at s base) base space) (shared (pointer_flags space) 1)
type_rule_with any_stride s t (form.ValuePointer size scalar space) =
    ok_unless (scalar_error s.capabilities scalar) (shared (pointer_flags space) 1)
type_rule_with any_stride s t (form.Array base size stride) =
    first_error_or (array_checks any_stride s t base size stride) (array_info s t base size stride)
type_rule_with any_stride s t (form.Struct members span) = struct_rule s t members span
type_rule_with any_stride s t (form.Image dim arrayed class) =
    first_error_or (image_checks s.capabilities dim arrayed class) (shared opaque_flags 1)
type_rule_with any_stride s t (form.Sampler comparison) = Ok (shared opaque_flags 1)
type_rule_with any_stride s t (form.AccelerationStructure vertex_return) =
    first_error_or (acceleration_checks s.capabilities vertex_return) (shared opaque_flags 1)
type_rule_with any_stride s t (form.RayQuery vertex_return) =
    first_error_or (ray_query_checks s.capabilities vertex_return) (shared ray_query_flags 1)
type_rule_with any_stride s t (form.BindingArray base size) =
    first_error_or (binding_array_checks s base) (shared (bit_and (flags_at s base) (binding_array_flags size)) 1)

-- the rule of a type: strides are not below the size of elements
abbrev pub type_rule : TypeRule
type_rule = type_rule_with false
