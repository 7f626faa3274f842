-- The rule of a variable of a module.
use Rattle.std.specs.Prelude.{◌||◌, not, ℕ, Bool as Boolean, true, false, List, [], ◌∷◌, Option, Some, None, Result, Ok, Err, is_none, is_some, option_and_then, slice_get, unwrap_or, if◌then◌else◌}
use Rattle.std.specs.Option.{option_map_or}
use Rattle.naga_flags.specs.Bits.{ACCELERATION_STRUCTURE_BINDING_ARRAY, BINDINGS, BUFFER_BINDING_ARRAY, IMMEDIATES, MEMORY_DECORATION_COHERENT, MEMORY_DECORATION_VOLATILE, MESH_SHADER, RAY_TRACING_PIPELINE, STORAGE_BUFFER_BINDING_ARRAY, STORAGE_TEXTURE_16BIT_NORM_FORMATS, STORAGE_TEXTURE_BINDING_ARRAY, STRUCT_LAYOUTS, TEXTURE_AND_SAMPLER_BINDING_ARRAY}
use Rattle.naga_flags.specs.Flags.{has}
use Rattle.naga_flags.specs.declared.width.ImmediateError.{ImmediateError}
use Rattle.naga_interface.specs.Spaces.{space_row}
use Rattle.naga_interface.specs.Surroundings.{InterfaceSurroundings, KnownExpressions, flags_of, form_of, has_type, info_of}
use Rattle.naga_interface.specs.declared.error.GlobalVariableError.{GlobalVariableError}
use Rattle.naga_interface.specs.declared.error.GlobalVariableError.TheVariants.{Alignment, CoherentNotSupported, InitializerExprType, InitializerNotAllowed, InitializerType, InvalidBinding, InvalidImmediateType, InvalidMemoryDecorationsAddressSpace, InvalidType, InvalidUsage, MissingTypeFlags, StorageAddressSpaceWriteOnlyNotSupported, UnsupportedCapability, VolatileNotSupported}
use Rattle.naga_ir.specs.declared.ir.GlobalVariable.{GlobalVariable}
use Rattle.naga_ir.specs.declared.ir.MemoryDecorations.{MemoryDecorations}
use Rattle.naga_ir.specs.declared.storage_format.StorageFormat.{StorageFormat}
use Rattle.naga_ir.specs.declared.storage_format.StorageFormat.TheVariants.{R16Unorm, R16Snorm, Rg16Unorm, Rg16Snorm, Rgba16Unorm, Rgba16Snorm}
use Rattle.naga_ir.specs.declared.types.AddressSpace.{AddressSpace}
use Rattle.naga_ir.specs.declared.types.AddressSpace.TheVariants as space
use Rattle.naga_ir.specs.declared.types.ImageClass.{ImageClass}
use Rattle.naga_ir.specs.declared.types.ImageClass.TheVariants as class
use Rattle.naga_ir.specs.declared.types.TypeInner.{TypeInner}
use Rattle.naga_ir.specs.declared.types.TypeInner.TheVariants.{AccelerationStructure, BindingArray, Image, Sampler}
use Rattle.naga_types.specs.Checks.{first, first_error_or, require, when}
use Rattle.naga_types.specs.Layouts.{Layout}
use Rattle.naga_types.specs.TypeRule.{is_storage}
use Rattle.naga_typing.specs.Kinds.{is_const_or_override}

-- the error of a variable that needs the capability `flag`, if it is missing
abbrev pub capability_error : ℕ → ℕ → Option GlobalVariableError
capability_error capabilities flag = require (has capabilities flag) (UnsupportedCapability (record { 0 = flag }))

-- the type of the bindings of a binding array; other types have none
abbrev pub binding_base : TypeInner → Option ℕ
binding_base (BindingArray base size) = Some base
binding_base _ = None

-- the type of the bindings of the type of index `t`, if it is a binding array
abbrev pub bindings_of : InterfaceSurroundings → ℕ → Option ℕ
bindings_of s t = option_and_then binding_base (form_of s t)

-- the type of what a pipeline binds to a variable of the type of index `t`: the type of a binding, of several
abbrev pub bound_type : InterfaceSurroundings → ℕ → ℕ
bound_type s t = unwrap_or (bindings_of s t) t

-- images of the class are storage images
abbrev pub is_storage_class : ImageClass → Boolean
is_storage_class (class.Storage format access) = true
is_storage_class _ = false

-- the capability for binding arrays of a resource: of storage images, of other images and samplers, or of acceleration
-- structures; other types need none
abbrev pub resource_array_capability : TypeInner → ℕ
resource_array_capability (Image dim arrayed class) =
    if is_storage_class class then STORAGE_TEXTURE_BINDING_ARRAY else TEXTURE_AND_SAMPLER_BINDING_ARRAY
resource_array_capability (Sampler comparison) = TEXTURE_AND_SAMPLER_BINDING_ARRAY
resource_array_capability (AccelerationStructure vertex_return) = ACCELERATION_STRUCTURE_BINDING_ARRAY
resource_array_capability _ = 0

-- the error of a binding array in an address space, by the type of its bindings
abbrev pub binding_array_error : InterfaceSurroundings → AddressSpace → ℕ → Option GlobalVariableError
binding_array_error s (space.Storage access) base = capability_error s.capabilities STORAGE_BUFFER_BINDING_ARRAY
binding_array_error s space.Uniform base = capability_error s.capabilities BUFFER_BINDING_ARRAY
binding_array_error s space.Handle base =
    capability_error s.capabilities (option_map_or resource_array_capability (form_of s base) 0)
binding_array_error s other base = Some (InvalidUsage other)

-- the error of a type in an address space, if it is a binding array
abbrev pub array_error : InterfaceSurroundings → AddressSpace → Option ℕ → Option GlobalVariableError
array_error s space (Some base) = binding_array_error s space base
array_error s space None = None

-- the error of a layout in an address space
abbrev pub alignment_error : AddressSpace → Layout → Option GlobalVariableError
alignment_error space (Err (ty, disalignment)) = Some (Alignment space ty disalignment)
alignment_error space (Ok alignment) = None

-- the error of a layout in an address space, if `flags`, the parts that are validated, has layouts
abbrev pub layout_error : ℕ → AddressSpace → Layout → Option GlobalVariableError
layout_error flags space layout = when (has flags STRUCT_LAYOUTS) (alignment_error space layout)

-- the components are normalised numbers of 16 bits
abbrev pub is_16_bit_norm : StorageFormat → Boolean
is_16_bit_norm R16Unorm = true
is_16_bit_norm R16Snorm = true
is_16_bit_norm Rg16Unorm = true
is_16_bit_norm Rg16Snorm = true
is_16_bit_norm Rgba16Unorm = true
is_16_bit_norm Rgba16Snorm = true
is_16_bit_norm _ = false

-- the capability that images of a class need, and 0 if they need none
abbrev pub class_capability : ImageClass → ℕ
class_capability (class.Storage format access) = if is_16_bit_norm format then STORAGE_TEXTURE_16BIT_NORM_FORMATS else 0
class_capability _ = 0

-- the error of a variable in `Handle`, by its type: it is an image, a sampler or an acceleration structure
abbrev pub resource_error : ℕ → Option TypeInner → Option GlobalVariableError
resource_error capabilities (Some (Image dim arrayed class)) = capability_error capabilities (class_capability class)
resource_error capabilities (Some (Sampler comparison)) = None
resource_error capabilities (Some (AccelerationStructure vertex_return)) = None
resource_error capabilities _ = Some (InvalidType space.Handle)

-- the error of a type that immediates can't hold
abbrev pub immediate_error : Result (Unit {0}) ImmediateError → Option GlobalVariableError
immediate_error (Err error) = Some (InvalidImmediateType error)
immediate_error (Ok _) = None

-- the conditions of a variable among the immediates: a capability, and a type that these can hold
abbrev pub immediate_checks : ℕ → Result (Unit {0}) ImmediateError → List (Option GlobalVariableError)
immediate_checks capabilities compatibility =
    capability_error capabilities IMMEDIATES ∷ immediate_error compatibility ∷ []

-- the conditions of an address space on the type of index `t`, besides its flags
abbrev pub space_checks : InterfaceSurroundings → AddressSpace → ℕ → List (Option GlobalVariableError)
space_checks s space.Function t = Some (InvalidUsage space.Function) ∷ []
space_checks s space.Private t = []
space_checks s space.WorkGroup t = []
space_checks s space.Uniform t = layout_error s.flags space.Uniform (info_of s t).uniform_layout ∷ []
space_checks s (space.Storage access) t =
    layout_error s.flags (space.Storage access) (info_of s t).storage_layout ∷
    require access.load StorageAddressSpaceWriteOnlyNotSupported ∷ []
space_checks s space.Handle t = resource_error s.capabilities (form_of s t) ∷ []
space_checks s space.Immediate t = immediate_checks s.capabilities (info_of s t).immediates_compatibility
space_checks s space.TaskPayload t = capability_error s.capabilities MESH_SHADER ∷ []
space_checks s space.RayPayload t = capability_error s.capabilities RAY_TRACING_PIPELINE ∷ []
space_checks s space.IncomingRayPayload t = capability_error s.capabilities RAY_TRACING_PIPELINE ∷ []

-- the error of a type that may not be used for all that its address space requires
abbrev pub flags_error : ℕ → ℕ → Option GlobalVariableError
flags_error required seen =
    require (has seen required) (MissingTypeFlags (record { 0 = required }) (record { 0 = seen }))

-- the conditions of memory decorations: only variables in `Storage` have any, and each needs a capability
abbrev pub decoration_checks : ℕ → AddressSpace → MemoryDecorations → List (Option GlobalVariableError)
decoration_checks capabilities space decorations =
    require (is_storage space || not (decorations.coherent || decorations.is_volatile))
    InvalidMemoryDecorationsAddressSpace ∷
    when decorations.coherent (require (has capabilities MEMORY_DECORATION_COHERENT) CoherentNotSupported) ∷
    when decorations.is_volatile (require (has capabilities MEMORY_DECORATION_VOLATILE) VolatileNotSupported) ∷ []

-- a variable has a binding if it is a resource, and else none
abbrev pub has_right_binding : Boolean → GlobalVariable → Boolean
has_right_binding is_resource v = if is_resource then is_some v.binding else is_none v.binding

-- the address space is `Private`
abbrev pub is_private : AddressSpace → Boolean
is_private space.Private = true
is_private _ = false

-- the conditions of the initialiser of a variable of the type of index `t`, if it has one: only variables in `Private`
-- may, its value is known when a pipeline is created, and it has the type of the variable
abbrev pub initialiser_checks : InterfaceSurroundings → KnownExpressions → AddressSpace → ℕ → Option ℕ
    → List (Option GlobalVariableError)
initialiser_checks s known space t None = []
initialiser_checks s known space t (Some e) =
    require (is_private space) (InitializerNotAllowed space) ∷
    require (is_const_or_override (slice_get known.kinds e)) InitializerExprType ∷
    require (has_type s known t e) InitializerType ∷ []

-- the conditions of a variable besides those of its type: of its memory decorations, of its binding, and of its
-- initialiser
abbrev pub declaration_checks : InterfaceSurroundings → KnownExpressions → Boolean → GlobalVariable
    → List (Option GlobalVariableError)
declaration_checks s known is_resource v =
    first (decoration_checks s.capabilities v.space v.memory_decorations) ∷
    when (has s.flags BINDINGS) (require (has_right_binding is_resource v) InvalidBinding) ∷
    first (initialiser_checks s known v.space v.ty v.init) ∷ []

-- the conditions of a variable: of its address space on its type, and then the others
abbrev pub global_variable_checks : InterfaceSurroundings → KnownExpressions → GlobalVariable
    → List (Option GlobalVariableError)
global_variable_checks s known v =
    array_error s v.space (bindings_of s v.ty) ∷
    first (space_checks s v.space (bound_type s v.ty)) ∷
    flags_error (space_row v.space).flags.0 (flags_of s (bound_type s v.ty)) ∷
    declaration_checks s known (space_row v.space).is_resource v

-- a variable keeps its rule, or the first condition that it breaks gives the error
abbrev pub global_variable_rule : InterfaceSurroundings → KnownExpressions → GlobalVariable
    → Result (Unit {0}) GlobalVariableError
global_variable_rule s known v = first_error_or (global_variable_checks s known v) tt
