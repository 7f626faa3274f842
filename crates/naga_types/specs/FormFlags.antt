-- What types of each variant may be used for at most, and what flags parts of types must have.
use Rattle.std.specs.Prelude.{ℕ, Bool as Boolean, true, false, [], ◌∷◌, if◌then◌else◌}
use Rattle.naga_flags.specs.Bits.{ARGUMENT, CONSTRUCTIBLE, COPY, CREATION_RESOLVED, DATA, HOST_SHAREABLE, SIZED, all_type_flags, union_of}
use Rattle.naga_ir.specs.Sizes.{is_numeric}
use Rattle.naga_ir.specs.declared.types.AddressSpace.{AddressSpace}
use Rattle.naga_ir.specs.declared.types.AddressSpace.TheVariants.{Function, Private, RayPayload, IncomingRayPayload}
use Rattle.naga_ir.specs.declared.types.ArraySize.{ArraySize}
use Rattle.naga_ir.specs.declared.types.ArraySize.TheVariants.{Constant, Pending, Dynamic}
use Rattle.naga_ir.specs.declared.types.ScalarKind.{ScalarKind}

-- what bools and their vectors may be used for: everything except being shared by stages or with hosts
abbrev pub value_flags : ℕ
value_flags = union_of (DATA ∷ SIZED ∷ COPY ∷ CREATION_RESOLVED ∷ ARGUMENT ∷ CONSTRUCTIBLE ∷ [])

-- what matrices may be used for, and structs at most: everything but to be shared by stages
abbrev pub unshared_flags : ℕ
unshared_flags = union_of (DATA ∷ SIZED ∷ COPY ∷ HOST_SHAREABLE ∷ CREATION_RESOLVED ∷ ARGUMENT ∷ CONSTRUCTIBLE ∷ [])

-- what scalars and vectors of a kind may be used for: numbers for everything
abbrev pub scalar_flags : ScalarKind → ℕ
scalar_flags kind = if is_numeric kind then all_type_flags else value_flags

-- pointers into these spaces may be arguments
abbrev pub is_argument_space : AddressSpace → Boolean
is_argument_space Function = true
is_argument_space Private = true
is_argument_space RayPayload = true
is_argument_space IncomingRayPayload = true
is_argument_space _ = false

-- what pointers into a space may be used for
abbrev pub pointer_flags : AddressSpace → ℕ
pointer_flags space =
    if is_argument_space space then union_of (SIZED ∷ COPY ∷ CREATION_RESOLVED ∷ ARGUMENT ∷ [])
    else union_of (SIZED ∷ COPY ∷ CREATION_RESOLVED ∷ [])

-- what atomic values may be used for
abbrev pub atomic_flags : ℕ
atomic_flags = union_of (DATA ∷ SIZED ∷ HOST_SHAREABLE ∷ CREATION_RESOLVED ∷ [])

-- what images, samplers and acceleration structures may be used for
abbrev pub opaque_flags : ℕ
opaque_flags = union_of (CREATION_RESOLVED ∷ ARGUMENT ∷ [])

-- what ray queries may be used for
abbrev pub ray_query_flags : ℕ
ray_query_flags = union_of (DATA ∷ SIZED ∷ CREATION_RESOLVED ∷ CONSTRUCTIBLE ∷ [])

-- what arrays may be used for at most: the size of one that an override sizes is not known when a module is created,
-- and one of unknown length has no fixed size
abbrev pub array_flags : ArraySize → ℕ
array_flags (Constant n) =
    union_of (DATA ∷ SIZED ∷ COPY ∷ HOST_SHAREABLE ∷ CREATION_RESOLVED ∷ ARGUMENT ∷ CONSTRUCTIBLE ∷ [])
array_flags (Pending o) = union_of (DATA ∷ SIZED ∷ COPY ∷ HOST_SHAREABLE ∷ ARGUMENT ∷ [])
array_flags Dynamic = union_of (DATA ∷ COPY ∷ HOST_SHAREABLE ∷ CREATION_RESOLVED ∷ [])

-- what binding arrays may be used for at most
abbrev pub binding_array_flags : ArraySize → ℕ
binding_array_flags (Constant n) = union_of (SIZED ∷ HOST_SHAREABLE ∷ CREATION_RESOLVED ∷ [])
binding_array_flags (Pending o) = union_of (SIZED ∷ HOST_SHAREABLE ∷ [])
binding_array_flags Dynamic = union_of (HOST_SHAREABLE ∷ CREATION_RESOLVED ∷ [])

-- the flags that the elements of an array must have: they are data of a fixed size that is
-- known when a module is created
abbrev pub element_flags : ℕ
element_flags = union_of (DATA ∷ SIZED ∷ CREATION_RESOLVED ∷ [])

-- the flags that the members of a struct must have: they are data whose size no override decides
abbrev pub member_flags : ℕ
member_flags = union_of (DATA ∷ CREATION_RESOLVED ∷ [])
