-- Why inputs and outputs of an entry point are refused.
use Rattle.std.specs.Prelude.{◌==◌, ◌&&◌, ◌||◌, not, leb, ℕ, Bool as Boolean, true, false, List, [], ◌∷◌, ◌++◌, Option, Some, None, map, is_some, slice_index, take, if◌then◌else◌}
use Rattle.std.specs.List.{enumerate_from, filter_map, list_any}
use Rattle.naga_flags.specs.Bits.{BINDINGS, DUAL_SOURCE_BLENDING, FRAGMENT, IO_SHAREABLE, MESH_SHADER, MULTISAMPLED_SHADING, PER_VERTEX, VERTEX}
use Rattle.naga_flags.specs.Flags.{has}
use Rattle.naga_interface.specs.BuiltIns.{are_same_built_in, built_in_row, is_built_in_type, is_of_one_dimension}
use Rattle.naga_interface.specs.Stages.{stage_flag}
use Rattle.naga_interface.specs.Surroundings.{InterfaceSurroundings, flags_of, form_of}
use Rattle.naga_interface.specs.declared.built_in.BuiltInRow.{BuiltInRow}
use Rattle.naga_interface.specs.declared.varying.Direction.{Direction}
use Rattle.naga_interface.specs.declared.varying.Direction.TheVariants.{Input, Output}
use Rattle.naga_ir.specs.TypeWords.{scalar_of}
use Rattle.naga_ir.specs.declared.built_in.BuiltIn.{BuiltIn as BuiltInValue}
use Rattle.naga_ir.specs.declared.ir.ShaderStage.{ShaderStage}
use Rattle.naga_ir.specs.declared.types.Binding.{Binding}
use Rattle.naga_ir.specs.declared.types.Binding.TheVariants.{BuiltIn, Location}
use Rattle.naga_ir.specs.declared.types.Interpolation.{Interpolation}
use Rattle.naga_ir.specs.declared.types.Interpolation.TheVariants.{Perspective, Linear, Flat, PerVertex}
use Rattle.naga_ir.specs.declared.types.Sampling.{Sampling}
use Rattle.naga_ir.specs.declared.types.Sampling.TheVariants.{Center, Centroid, Sample, First, Either}
use Rattle.naga_ir.specs.declared.types.Scalar.{Scalar}
use Rattle.naga_ir.specs.declared.types.StructMember.{StructMember}
use Rattle.naga_ir.specs.declared.types.TypeInner.{TypeInner}
use Rattle.naga_ir.specs.declared.types.TypeInner.TheVariants.{Struct}
use Rattle.naga_types.specs.Checks.{first, require, when}
use Rattle.naga_types.specs.TypeRule.{is_float}
use Rattle.naga_types.specs.declared.error.VaryingError.{VaryingError}
use Rattle.naga_types.specs.declared.error.VaryingError.TheVariants.{BindingCollision, BindingCollisionBlendSrc, DuplicateBuiltIn, InvalidAttributeInStage, InvalidBlendSrcIndex, InvalidBuiltInStage, InvalidBuiltInType, InvalidInputAttributeInStage, InvalidInterpolation, InvalidInterpolationSamplingCombination, InvalidMultiDimensionalSubgroupBuiltIn, InvalidPerPrimitive, InvalidType, MemberMissingBinding, MissingBinding, MissingInterpolation, NotIOShareableType, UnsupportedCapability}

-- what the rule of an input or output depends on, besides it and those before it: what the rules of a module depend on,
-- the stage of the entry point, whether values come in or go out, and the sizes of a workgroup
pub record VaryingSurroundings : Type 0 where
  pub interface : InterfaceSurroundings
  pub stage : ShaderStage
  pub direction : Direction
  pub workgroup_size : List ℕ

-- the direction is `Output`
abbrev pub is_output : Direction → Boolean
is_output Output = true
is_output Input = false

-- the stage is the stage of a flag
abbrev pub is_stage : VaryingSurroundings → ℕ → Boolean
is_stage s stage = stage_flag s.stage == stage

-- the values are the inputs of fragment shaders
abbrev pub are_fragment_inputs : VaryingSurroundings → Boolean
are_fragment_inputs s = is_stage s FRAGMENT && not (is_output s.direction)

-- the values are interpolated on their way: outputs of vertex shaders, which are inputs of fragment shaders
abbrev pub are_interpolated : VaryingSurroundings → Boolean
are_interpolated s = is_stage s VERTEX && is_output s.direction || are_fragment_inputs s

-- the bindings of members that have one
abbrev pub member_bindings : List StructMember → List Binding
member_bindings members = filter_map (λ (m : StructMember). m.binding) members

-- the bindings of the members of a struct; other types have none
abbrev pub bindings_in : Option TypeInner → List Binding
bindings_in (Some (Struct members span)) = member_bindings members
bindings_in _ = []

-- the bindings of a value of the type of index `ty`: its own, or those of its members
abbrev pub bindings_of : InterfaceSurroundings → ℕ → Option Binding → List Binding
bindings_of s ty (Some binding) = binding ∷ []
bindings_of s ty None = bindings_in (form_of s ty)

-- a binding is to this location, and is not a source of blending
abbrev pub is_at : ℕ → Binding → Boolean
is_at location (Location own interpolation sampling None per_primitive) = own == location
is_at location _ = false

-- a binding is this source of blending
abbrev pub is_source : ℕ → Binding → Boolean
is_source source (Location location interpolation sampling (Some own) per_primitive) = own == source
is_source source _ = false

-- a binding is to this built-in value, whatever they say besides
abbrev pub is_built_in : BuiltInValue → Binding → Boolean
is_built_in b (BuiltIn own) = are_same_built_in own b
is_built_in b _ = false

-- the error of a binding that needs the capability `flag`, if it is missing
abbrev pub capability_error : VaryingSurroundings → ℕ → Option VaryingError
capability_error s flag = require (has s.interface.capabilities flag) (UnsupportedCapability (record { 0 = flag }))

-- the workgroup has one invocation in the second and third dimension, or none in stages without workgroups
abbrev pub has_one_dimension : List ℕ → Boolean
has_one_dimension sizes = leb (slice_index sizes 1) 1 && leb (slice_index sizes 2) 1

-- the stages that have a built-in value in a direction
abbrev pub stages_of : BuiltInRow → Direction → ℕ
stages_of row Input = row.inputs.0
stages_of row Output = row.outputs.0

-- whether there is a type, and it is the type of a built-in value
abbrev pub fits_built_in : InterfaceSurroundings → BuiltInValue → Option TypeInner → Boolean
fits_built_in s b (Some inner) = is_built_in_type s.types (built_in_row b).ty inner
fits_built_in s b None = false

-- the error of a built-in value of a subgroup in a workgroup of several dimensions
abbrev pub dimensions_error : VaryingSurroundings → BuiltInValue → Option VaryingError
dimensions_error s b =
    require (not (is_of_one_dimension b) || has_one_dimension s.workgroup_size) InvalidMultiDimensionalSubgroupBuiltIn

-- the conditions of a built-in value of the type of index `ty`, after these bindings
abbrev pub built_in_checks : VaryingSurroundings → List Binding → ℕ → BuiltInValue → List (Option VaryingError)
built_in_checks s before ty b =
    require (not (list_any (is_built_in b) before)) (DuplicateBuiltIn b) ∷
    capability_error s (built_in_row b).capability.0 ∷
    dimensions_error s b ∷
    require (has (stages_of (built_in_row b) s.direction) (stage_flag s.stage)) (InvalidBuiltInStage b) ∷
    require (fits_built_in s.interface b (form_of s.interface ty)) (InvalidBuiltInType b) ∷ []

-- the conditions of a source of blending, after these bindings: two outputs of a fragment shader at location 0
abbrev pub source_checks : VaryingSurroundings → List Binding → ℕ → ℕ → List (Option VaryingError)
source_checks s before location source =
    capability_error s DUAL_SOURCE_BLENDING ∷
    require (is_stage s FRAGMENT) (InvalidAttributeInStage s.stage) ∷
    require (is_output s.direction) (InvalidInputAttributeInStage s.stage) ∷
    require (location == 0 && leb source 1) (InvalidBlendSrcIndex location source) ∷
    require (not (list_any (is_source source) before)) (BindingCollisionBlendSrc source) ∷ []

-- the conditions of the place of a value, after these bindings: of a source of blending, or else of its location, which
-- no binding before it has
abbrev pub place_checks : VaryingSurroundings → List Binding → ℕ → Option ℕ → List (Option VaryingError)
place_checks s before location (Some source) = source_checks s before location source
place_checks s before location None =
    when (has s.interface.flags BINDINGS)
    (require (not (list_any (is_at location) before)) (BindingCollision location)) ∷ []

-- whether the sampling says something of values that are interpolated so
abbrev pub goes_with : Interpolation → Sampling → Boolean
goes_with Perspective Center = true
goes_with Perspective Centroid = true
goes_with Perspective Sample = true
goes_with Linear Center = true
goes_with Linear Centroid = true
goes_with Linear Sample = true
goes_with Flat First = true
goes_with Flat Either = true
goes_with _ _ = false

-- the error of a sampling that doesn't go with the interpolation, if there are both
abbrev pub combination_error : Option Interpolation → Option Sampling → Option VaryingError
combination_error (Some interpolation) (Some sampling) =
    require (goes_with interpolation sampling) (InvalidInterpolationSamplingCombination interpolation sampling)
combination_error _ _ = None

-- the capability that a sampling needs, and 0 if it needs none
abbrev pub sampling_capability : Option Sampling → ℕ
sampling_capability (Some Sample) = MULTISAMPLED_SHADING
sampling_capability _ = 0

-- the capability that an interpolation needs, and 0 if it needs none
abbrev pub interpolation_capability : Option Interpolation → ℕ
interpolation_capability (Some PerVertex) = PER_VERTEX
interpolation_capability _ = 0

-- the conditions of how a value is interpolated: the sampling goes with it, and both may be used
abbrev pub sampling_checks : VaryingSurroundings → Option Interpolation → Option Sampling → List (Option VaryingError)
sampling_checks s interpolation sampling =
    combination_error interpolation sampling ∷
    capability_error s (sampling_capability sampling) ∷
    capability_error s (interpolation_capability interpolation) ∷ []

-- the interpolation is `Flat`
abbrev pub is_flat : Option Interpolation → Boolean
is_flat (Some Flat) = true
is_flat _ = false

-- the error of the interpolation of a value that is interpolated on its way, by its scalar: numbers in floating point
-- have one, and other values are flat
abbrev pub interpolation_error : Scalar → Option Interpolation → Option VaryingError
interpolation_error scalar interpolation =
    if is_float scalar.kind then require (is_some interpolation) MissingInterpolation
    else require (is_flat interpolation) InvalidInterpolation

-- the error of the type of index `ty` at a location, by its scalar, and of the interpolation there
abbrev pub scalar_error : VaryingSurroundings → ℕ → Option Interpolation → Option Scalar → Option VaryingError
scalar_error s ty interpolation (Some scalar) = when (are_interpolated s) (interpolation_error scalar interpolation)
scalar_error s ty interpolation None = Some (InvalidType ty)

-- the scalar of a type, if there is a type, and it has one
abbrev pub scalar_in : Option TypeInner → Option Scalar
scalar_in (Some inner) = scalar_of inner
scalar_in None = None

-- the conditions of values of each primitive: a capability, and that they are inputs of a fragment shader
abbrev pub primitive_checks : VaryingSurroundings → Boolean → List (Option VaryingError)
primitive_checks s true =
    capability_error s MESH_SHADER ∷ require (are_fragment_inputs s) InvalidPerPrimitive ∷ []
primitive_checks s false = []

-- the conditions of a value of the type of index `ty` with a binding, after these bindings
abbrev pub binding_checks : VaryingSurroundings → List Binding → ℕ → Binding → List (Option VaryingError)
binding_checks s before ty (BuiltIn b) = built_in_checks s before ty b
binding_checks s before ty (Location location interpolation sampling blend_src per_primitive) =
    require (has (flags_of s.interface ty) IO_SHAREABLE) (NotIOShareableType ty) ∷
    first (primitive_checks s per_primitive) ∷
    first (place_checks s before location blend_src) ∷
    first (sampling_checks s interpolation sampling) ∷
    scalar_error s ty interpolation (scalar_in (form_of s.interface ty)) ∷ []

-- the error of a value without a binding, if bindings are validated
abbrev pub missing_error : VaryingSurroundings → VaryingError → Option VaryingError
missing_error s error = when (has s.interface.flags BINDINGS) (Some error)

-- the error of a member of index `i` and of the type of index `ty`, after these bindings
abbrev pub bound_error : VaryingSurroundings → List Binding → ℕ → ℕ → Option Binding → Option VaryingError
bound_error s before i ty (Some binding) = first (binding_checks s before ty binding)
bound_error s before i ty None = missing_error s (MemberMissingBinding i)

-- the error of member `at.1` of index `at.0`, after these bindings and those of the members before it
abbrev pub member_error : VaryingSurroundings → List Binding → List StructMember → ℕ × StructMember
    → Option VaryingError
member_error s before members at =
    bound_error s (before ++ member_bindings (take at.0 members)) at.0 at.1.ty at.1.binding

-- the error of the first member that is refused, after these bindings
abbrev pub members_error : VaryingSurroundings → List Binding → List StructMember → Option VaryingError
members_error s before members = first (map (member_error s before members) (enumerate_from 0 members))

-- the error of a value without a binding of its own, after these bindings: that of its members, if it is a struct
abbrev pub unbound_error : VaryingSurroundings → List Binding → Option TypeInner → Option VaryingError
unbound_error s before (Some (Struct members span)) = members_error s before members
unbound_error s before _ = missing_error s MissingBinding

-- the error of an input or output of the type of index `ty`, after these bindings: it has a binding, or is a struct
-- whose members each have one
abbrev pub varying_error : VaryingSurroundings → List Binding → ℕ → Option Binding → Option VaryingError
varying_error s before ty (Some binding) = first (binding_checks s before ty binding)
varying_error s before ty None = unbound_error s before (form_of s.interface ty)

-- the number of locations whose bindings take no memory
abbrev pub inline_locations : ℕ
inline_locations = 64

-- a place is a location that takes memory, and not a source of blending
abbrev pub is_far_place : ℕ → Option ℕ → Boolean
is_far_place location None = leb inline_locations location
is_far_place location (Some source) = false

-- a binding is to a location that takes memory
abbrev pub is_far : Binding → Boolean
is_far (Location location interpolation sampling blend_src per_primitive) = is_far_place location blend_src
is_far (BuiltIn b) = false
