-- The errors within errors.
use Rattle.std.specs.Prelude.{ℕ, List, [], ◌∷◌, codes, decimal}
use Rattle.naga_error_text.specs.declared.families.Family.{Family}
use Rattle.naga_error_text.specs.declared.families.Family.TheVariants as family
use Rattle.naga_error_text.specs.declared.names.Names.TheVariants.{BuiltIns, Capabilities, EntryStages, Interpolations, Samplings, ScalarBits, ScalarKinds, ScalarLetters}
use Rattle.naga_error_text.specs.declared.pieces.Values.{Values}
use Rattle.naga_error_text.specs.declared.causes.VaryingError.{VaryingError}
use Rattle.naga_error_text.specs.declared.causes.VaryingError.TheVariants as varying_error
use Rattle.naga_error_text.specs.declared.causes.LiteralError.{LiteralError}
use Rattle.naga_error_text.specs.declared.causes.LiteralError.TheVariants as literal_error
use Rattle.naga_error_text.specs.declared.causes.WidthError.{WidthError}
use Rattle.naga_error_text.specs.declared.causes.WidthError.TheVariants as width_error
use Rattle.naga_error_text.specs.declared.causes.ComposeError.{ComposeError}
use Rattle.naga_error_text.specs.declared.causes.ComposeError.TheVariants as compose_error
use Rattle.naga_error_text.specs.declared.causes.ResolveError.{ResolveError}
use Rattle.naga_error_text.specs.declared.causes.ResolveError.TheVariants as resolve_error
use Rattle.naga_error_text.specs.declared.causes.IndexableLengthError.{IndexableLengthError}
use Rattle.naga_error_text.specs.declared.causes.IndexableLengthError.TheVariants as indexable_length_error
use Rattle.naga_error_text.specs.declared.causes.ImmediateError.{ImmediateError}
use Rattle.naga_error_text.specs.declared.causes.ImmediateError.TheVariants as immediate_error
use Rattle.naga_error_text.specs.declared.causes.Disalignment.{Disalignment}
use Rattle.naga_error_text.specs.declared.causes.Disalignment.TheVariants as disalignment
use Rattle.naga_error_text.specs.Names.{named}

-- the errors `VaryingError` in the order of their numbers, which begin at 1
abbrev pub varying_errors : List VaryingError
varying_errors =
    varying_error.InvalidBlendSrcIndex ∷ varying_error.BindingCollisionBlendSrc ∷
    varying_error.InvalidBlendSrcWithOtherBindings ∷ varying_error.BlendSrcOutputTypeMismatch ∷
    varying_error.NotIOShareableType ∷ varying_error.IncompleteBlendSrcUsage ∷ varying_error.InvalidType ∷
    varying_error.InvalidInterpolation ∷ varying_error.InvalidInterpolationSamplingCombination ∷
    varying_error.MissingInterpolation ∷ varying_error.InvalidBuiltInStage ∷ varying_error.InvalidBuiltInType ∷
    varying_error.MissingBinding ∷ varying_error.MemberMissingBinding ∷ varying_error.BindingCollision ∷
    varying_error.DuplicateBuiltIn ∷ varying_error.UnsupportedCapability ∷ varying_error.InvalidInputAttributeInStage ∷
    varying_error.InvalidAttributeInStage ∷ varying_error.InvalidMultiDimensionalSubgroupBuiltIn ∷
    varying_error.InvalidPerPrimitive ∷ []

-- what the text of each `VaryingError` says of the values `v`, piece by piece
abbrev pub varying_error_parts : VaryingError → Values → List (List ℕ)
varying_error_parts varying_error.InvalidBlendSrcIndex v =
    codes "A blend source has to be 0 or 1 at location 0, and not " ∷ decimal v.second ∷ codes " at location " ∷
    decimal v.first ∷ []
varying_error_parts varying_error.BindingCollisionBlendSrc v =
    codes "Several members are the blend source " ∷ decimal v.first ∷ []
varying_error_parts varying_error.InvalidBlendSrcWithOtherBindings v =
    codes "A member at location " ∷ decimal v.first ∷ codes " stands beside blend sources" ∷ []
varying_error_parts varying_error.BlendSrcOutputTypeMismatch v =
    codes "The blend sources are of the types [" ∷ decimal v.first ∷ codes "] and [" ∷ decimal v.second ∷
    codes "], which differ" ∷ []
varying_error_parts varying_error.NotIOShareableType v =
    codes "Values of the type [" ∷ decimal v.first ∷ codes "] can't be passed between pipeline stages" ∷ []
varying_error_parts varying_error.IncompleteBlendSrcUsage v =
    codes "Only the blend source " ∷ decimal v.first ∷ codes " is there, and not the other one" ∷ []
varying_error_parts varying_error.InvalidType v =
    codes "The type [" ∷ decimal v.first ∷ codes "] does not match the varying" ∷ []
varying_error_parts varying_error.InvalidInterpolation v = codes "Interpolation is not valid" ∷ []
varying_error_parts varying_error.InvalidInterpolationSamplingCombination v =
    codes "Cannot combine " ∷ named Interpolations v.first ∷ codes " interpolation with the " ∷
    named Samplings v.second ∷ codes " sample type" ∷ []
varying_error_parts varying_error.MissingInterpolation v =
    codes "Interpolation must be specified on vertex shader outputs and fragment shader inputs" ∷ []
varying_error_parts varying_error.InvalidBuiltInStage v =
    codes "Built-in " ∷ named BuiltIns v.first ∷ codes " is not available at this stage" ∷ []
varying_error_parts varying_error.InvalidBuiltInType v =
    codes "Built-in type for " ∷ named BuiltIns v.first ∷ codes " is invalid" ∷ []
varying_error_parts varying_error.MissingBinding v =
    codes "Entry point arguments and return values must all have bindings" ∷ []
varying_error_parts varying_error.MemberMissingBinding v =
    codes "Struct member " ∷ decimal v.first ∷ codes " is missing a binding" ∷ []
varying_error_parts varying_error.BindingCollision v =
    codes "Multiple bindings at location " ∷ decimal v.first ∷ codes " are present" ∷ []
varying_error_parts varying_error.DuplicateBuiltIn v =
    codes "Built-in " ∷ named BuiltIns v.first ∷ codes " is present more than once" ∷ []
varying_error_parts varying_error.UnsupportedCapability v =
    codes "Capability Capabilities(" ∷ named Capabilities v.first ∷ codes ") is not supported" ∷ []
varying_error_parts varying_error.InvalidInputAttributeInStage v =
    codes "A blend source is only valid as an output for stage " ∷ named EntryStages v.first ∷ []
varying_error_parts varying_error.InvalidAttributeInStage v =
    codes "A blend source is not valid for stage " ∷ named EntryStages v.first ∷ []
varying_error_parts varying_error.InvalidMultiDimensionalSubgroupBuiltIn v =
    codes "Workgroup size is multi dimensional, so built-in values of subgroups are not supported" ∷ []
varying_error_parts varying_error.InvalidPerPrimitive v =
    codes "Values of each primitive can only be inputs of fragment shaders" ∷ []

-- the errors `LiteralError` in the order of their numbers, which begin at 1
abbrev pub literal_errors : List LiteralError
literal_errors = literal_error.Width ∷ []

-- what the text of each `LiteralError` says of the values `v`, piece by piece
abbrev pub literal_error_parts : LiteralError → Values → List (List ℕ)
literal_error_parts literal_error.Width v = []

-- what the error within each `LiteralError` is one of
abbrev pub literal_error_cause : LiteralError → Family
literal_error_cause literal_error.Width = family.Width

-- the errors `WidthError` in the order of their numbers, which begin at 1
abbrev pub width_errors : List WidthError
width_errors = width_error.Invalid ∷ width_error.MissingCapability ∷ width_error.Abstract ∷ []

-- what the text of each `WidthError` says of the values `v`, piece by piece
abbrev pub width_error_parts : WidthError → Values → List (List ℕ)
width_error_parts width_error.Invalid v =
    codes "The " ∷ named ScalarKinds v.first ∷ codes " scalar width " ∷ decimal v.second ∷
    codes " is not supported" ∷ []
width_error_parts width_error.MissingCapability v =
    codes "Using `" ∷ named ScalarLetters v.first ∷ named ScalarBits v.second ∷
    codes "` values requires the `naga::valid::Capabilities::" ∷ named Capabilities v.third ∷ codes "` flag" ∷ []
width_error_parts width_error.Abstract v = codes "Abstract types may only appear in constant expressions" ∷ []

-- the errors `ComposeError` in the order of their numbers, which begin at 1
abbrev pub compose_errors : List ComposeError
compose_errors = compose_error.Type_ ∷ compose_error.ComponentCount ∷ compose_error.ComponentType ∷ []

-- what the text of each `ComposeError` says of the values `v`, piece by piece
abbrev pub compose_error_parts : ComposeError → Values → List (List ℕ)
compose_error_parts compose_error.Type_ v = codes "Composing of type [" ∷ decimal v.first ∷ codes "] can't be done" ∷ []
compose_error_parts compose_error.ComponentCount v =
    codes "Composing expects " ∷ decimal v.second ∷ codes " components but " ∷ decimal v.first ∷
    codes " were given" ∷ []
compose_error_parts compose_error.ComponentType v =
    codes "Composing " ∷ decimal v.first ∷ codes "'s component type is not expected" ∷ []

-- the errors `ResolveError` in the order of their numbers, which begin at 1
abbrev pub resolve_errors : List ResolveError
resolve_errors = resolve_error.IncompatibleOperands ∷ resolve_error.NotResolvable ∷ []

-- what the text of each `ResolveError` says of the values `v`, piece by piece
abbrev pub resolve_error_parts : ResolveError → Values → List (List ℕ)
resolve_error_parts resolve_error.IncompatibleOperands v = codes "Incompatible operands" ∷ []
resolve_error_parts resolve_error.NotResolvable v = codes "The type of the expression can't be resolved" ∷ []

-- the errors `IndexableLengthError` in the order of their numbers, which begin at 1
abbrev pub indexable_length_errors : List IndexableLengthError
indexable_length_errors = indexable_length_error.TypeNotIndexable ∷ indexable_length_error.InvalidArrayLength ∷ []

-- what the text of each `IndexableLengthError` says of the values `v`, piece by piece
abbrev pub indexable_length_error_parts : IndexableLengthError → Values → List (List ℕ)
indexable_length_error_parts indexable_length_error.TypeNotIndexable v =
    codes "Type is not indexable, and has no length (validation error)" ∷ []
indexable_length_error_parts indexable_length_error.InvalidArrayLength v =
    codes "Array length is not a positive constant" ∷ []

-- the errors `ImmediateError` in the order of their numbers, which begin at 1
abbrev pub immediate_errors : List ImmediateError
immediate_errors = immediate_error.InvalidScalar ∷ []

-- what the text of each `ImmediateError` says of the values `v`, piece by piece
abbrev pub immediate_error_parts : ImmediateError → Values → List (List ℕ)
immediate_error_parts immediate_error.InvalidScalar v =
    codes "The scalar type Scalar { kind: " ∷ named ScalarKinds v.first ∷ codes ", width: " ∷ decimal v.second ∷
    codes " } is not supported in immediates" ∷ []

-- the errors `Disalignment` in the order of their numbers, which begin at 1
abbrev pub disalignments : List Disalignment
disalignments =
    disalignment.ArrayStride ∷ disalignment.StructSpan ∷ disalignment.MemberOffset ∷
    disalignment.MemberOffsetAfterStruct ∷ disalignment.UnsizedMember ∷ disalignment.NonHostShareable ∷ []

-- what the text of each `Disalignment` says of the values `v`, piece by piece
abbrev pub disalignment_parts : Disalignment → Values → List (List ℕ)
disalignment_parts disalignment.ArrayStride v =
    codes "The array stride " ∷ decimal v.first ∷ codes " is not a multiple of the required alignment " ∷
    decimal v.second ∷ []
disalignment_parts disalignment.StructSpan v =
    codes "The struct span " ∷ decimal v.first ∷ codes ", is not a multiple of the required alignment " ∷
    decimal v.second ∷ []
disalignment_parts disalignment.MemberOffset v =
    codes "The struct member[" ∷ decimal v.first ∷ codes "] offset " ∷ decimal v.second ∷
    codes " is not a multiple of the required alignment " ∷ decimal v.third ∷ []
disalignment_parts disalignment.MemberOffsetAfterStruct v =
    codes "The struct member[" ∷ decimal v.first ∷ codes "] offset " ∷ decimal v.second ∷ codes " must be at least " ∷
    decimal v.third ∷ []
disalignment_parts disalignment.UnsizedMember v =
    codes "The struct member[" ∷ decimal v.first ∷ codes "] is not statically sized" ∷ []
disalignment_parts disalignment.NonHostShareable v = codes "The type is not host-shareable" ∷ []
