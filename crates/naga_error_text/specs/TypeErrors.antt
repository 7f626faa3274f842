-- Why types are refused.
use Rattle.std.specs.Prelude.{ℕ, List, [], ◌∷◌, codes, decimal, Option, Some, None}
use Rattle.naga_error_text.specs.declared.families.Family.{Family}
use Rattle.naga_error_text.specs.declared.families.Family.TheVariants as family
use Rattle.naga_error_text.specs.declared.names.Names.TheVariants.{Capabilities, Dimensions, ImageNames, ScalarKinds, Spaces}
use Rattle.naga_error_text.specs.declared.pieces.Values.{Values}
use Rattle.naga_error_text.specs.declared.type_errors.TypeError.{TypeError}
use Rattle.naga_error_text.specs.declared.type_errors.TypeError.TheVariants as type_error
use Rattle.naga_error_text.specs.Names.{named}
use Rattle.naga_error_text.specs.Classes.{image_class}

-- the errors `TypeError` in the order of their numbers, which begin at 1
abbrev pub type_errors : List TypeError
type_errors =
    type_error.MissingCapability ∷ type_error.InvalidAtomicWidth ∷ type_error.InvalidPointerBase ∷
    type_error.InvalidPointerToUnsized ∷ type_error.InvalidData ∷ type_error.InvalidArrayBaseType ∷
    type_error.MatrixElementNotFloat ∷ type_error.UnsupportedSpecializedArrayLength ∷
    type_error.UnsupportedImageType ∷ type_error.InvalidArrayStride ∷ type_error.InvalidDynamicArray ∷
    type_error.BindingArrayBaseTypeNotStruct ∷ type_error.BindingArrayBaseExternalTextures ∷
    type_error.MemberOverlap ∷ type_error.MemberOutOfBounds ∷ type_error.EmptyStruct ∷ type_error.InvalidBlendSrc ∷
    type_error.WidthError ∷ type_error.UnresolvedOverride ∷ type_error.InvalidArraySize ∷ []

-- what the text of each `TypeError` says of the values `v`, piece by piece
abbrev pub type_error_parts : TypeError → Values → List (List ℕ)
type_error_parts type_error.MissingCapability v =
    codes "Capability Capabilities(" ∷ named Capabilities v.first ∷ codes ") is required" ∷ []
type_error_parts type_error.InvalidAtomicWidth v =
    codes "The " ∷ named ScalarKinds v.first ∷ codes " scalar width " ∷ decimal v.second ∷
    codes " is not supported for an atomic" ∷ []
type_error_parts type_error.InvalidPointerBase v =
    codes "Invalid type for pointer target [" ∷ decimal v.first ∷ codes "]" ∷ []
type_error_parts type_error.InvalidPointerToUnsized v =
    codes "Unsized types like [" ∷ decimal v.first ∷ codes "] must be in the `Storage` address space, not `" ∷
    named Spaces v.second ∷ codes "`" ∷ []
type_error_parts type_error.InvalidData v = codes "Expected data type, found [" ∷ decimal v.first ∷ codes "]" ∷ []
type_error_parts type_error.InvalidArrayBaseType v =
    codes "Base type [" ∷ decimal v.first ∷ codes "] for the array is invalid" ∷ []
type_error_parts type_error.MatrixElementNotFloat v = codes "Matrix elements must always be floating-point types" ∷ []
type_error_parts type_error.UnsupportedSpecializedArrayLength v =
    codes "The constant [" ∷ decimal v.first ∷ codes "] is specialized, and cannot be used as an array size" ∷ []
type_error_parts type_error.UnsupportedImageType v =
    named ImageNames v.second ∷ codes " of dimensionality " ∷ named Dimensions v.first ∷ codes " and class " ∷
    image_class v.third v.fourth v.fifth ∷ codes " are not supported" ∷ []
type_error_parts type_error.InvalidArrayStride v =
    codes "Array stride " ∷ decimal v.first ∷ codes " does not match the expected " ∷ decimal v.second ∷ []
type_error_parts type_error.InvalidDynamicArray v =
    codes "A field can't be dynamically-sized, has type [" ∷ decimal v.first ∷ codes "]" ∷ []
type_error_parts type_error.BindingArrayBaseTypeNotStruct v =
    codes "The base handle [" ∷ decimal v.first ∷ codes "] has to be a struct" ∷ []
type_error_parts type_error.BindingArrayBaseExternalTextures v =
    codes "Binding arrays of external textures are not yet supported" ∷ []
type_error_parts type_error.MemberOverlap v =
    codes "Structure member[" ∷ decimal v.first ∷ codes "] at " ∷ decimal v.second ∷
    codes " overlaps the previous member" ∷ []
type_error_parts type_error.MemberOutOfBounds v =
    codes "Structure member[" ∷ decimal v.first ∷ codes "] at " ∷ decimal v.second ∷ codes " and size " ∷
    decimal v.third ∷ codes " crosses the structure boundary of size " ∷ decimal v.fourth ∷ []
type_error_parts type_error.EmptyStruct v = codes "Structure types must have at least one member" ∷ []
type_error_parts type_error.InvalidBlendSrc v = codes "Invalid `@blend_src` structure: " ∷ []
type_error_parts type_error.WidthError v = []
type_error_parts type_error.UnresolvedOverride v =
    codes "The base handle [" ∷ decimal v.first ∷
    codes "] has an override-expression that didn't get resolved to a constant" ∷ []
type_error_parts type_error.InvalidArraySize v =
    codes "Override-sized array type [" ∷ decimal v.first ∷ codes "] does not have a positive size" ∷ []

-- what the error within each `TypeError` is one of, if there is one
abbrev pub type_error_cause : TypeError → Option Family
type_error_cause type_error.InvalidBlendSrc = Some family.Varying
type_error_cause type_error.WidthError = Some family.Width
type_error_cause e = None
