-- The names of errors: of each variant its name in naga, or in the code if naga has no such variant.
use Rattle.std.specs.Prelude.{ℕ, List, codes}
use Rattle.naga_types.specs.declared.error.Disalignment.{Disalignment}
use Rattle.naga_types.specs.declared.error.Disalignment.TheVariants as disalignment
use Rattle.naga_types.specs.declared.error.VaryingError.{VaryingError}
use Rattle.naga_types.specs.declared.error.VaryingError.TheVariants as varying_error
use Rattle.naga_types.specs.declared.error.TypeError.{TypeError}
use Rattle.naga_types.specs.declared.error.TypeError.TheVariants as type_error
use Rattle.naga_types.specs.declared.error.ComposeError.{ComposeError}
use Rattle.naga_types.specs.declared.error.ComposeError.TheVariants as compose_error

-- the name of the reason why a type can't be laid out for an address space
abbrev pub disalignment_name : Disalignment → List ℕ
disalignment_name (disalignment.ArrayStride _ _) = codes "ArrayStride"
disalignment_name (disalignment.StructSpan _ _) = codes "StructSpan"
disalignment_name (disalignment.MemberOffset _ _ _) = codes "MemberOffset"
disalignment_name (disalignment.MemberOffsetAfterStruct _ _ _) = codes "MemberOffsetAfterStruct"
disalignment_name (disalignment.UnsizedMember _) = codes "UnsizedMember"
disalignment_name disalignment.NonHostShareable = codes "NonHostShareable"

-- the name of the reason why an input or output is refused, or why members can't be the two sources of blending
abbrev pub varying_error_name : VaryingError → List ℕ
varying_error_name (varying_error.InvalidType _) = codes "InvalidType"
varying_error_name (varying_error.NotIOShareableType _) = codes "NotIOShareableType"
varying_error_name varying_error.InvalidInterpolation = codes "InvalidInterpolation"
varying_error_name (varying_error.InvalidInterpolationSamplingCombination _ _) =
    codes "InvalidInterpolationSamplingCombination"
varying_error_name varying_error.MissingInterpolation = codes "MissingInterpolation"
varying_error_name (varying_error.InvalidBuiltInStage _) = codes "InvalidBuiltInStage"
varying_error_name (varying_error.InvalidBuiltInType _) = codes "InvalidBuiltInType"
varying_error_name varying_error.MissingBinding = codes "MissingBinding"
varying_error_name (varying_error.MemberMissingBinding _) = codes "MemberMissingBinding"
varying_error_name (varying_error.BindingCollision _) = codes "BindingCollision"
varying_error_name (varying_error.BindingCollisionBlendSrc _) = codes "BindingCollisionBlendSrc"
varying_error_name (varying_error.DuplicateBuiltIn _) = codes "DuplicateBuiltIn"
varying_error_name (varying_error.UnsupportedCapability _) = codes "UnsupportedCapability"
varying_error_name (varying_error.InvalidInputAttributeInStage _) = codes "InvalidInputAttributeInStage"
varying_error_name (varying_error.InvalidAttributeInStage _) = codes "InvalidAttributeInStage"
varying_error_name (varying_error.InvalidBlendSrcIndex _ _) = codes "InvalidBlendSrcIndex"
varying_error_name (varying_error.IncompleteBlendSrcUsage _) = codes "IncompleteBlendSrcUsage"
varying_error_name (varying_error.InvalidBlendSrcWithOtherBindings _) = codes "InvalidBlendSrcWithOtherBindings"
varying_error_name (varying_error.BlendSrcOutputTypeMismatch _ _) = codes "BlendSrcOutputTypeMismatch"
varying_error_name varying_error.InvalidMultiDimensionalSubgroupBuiltIn = codes "InvalidMultiDimensionalSubgroupBuiltIn"
varying_error_name varying_error.InvalidPerPrimitive = codes "InvalidPerPrimitive"
varying_error_name varying_error.OutOfMemory = codes "OutOfMemory"

-- the name of the rule that a type breaks
abbrev pub type_error_name : TypeError → List ℕ
type_error_name (type_error.MissingCapability _) = codes "MissingCapability"
type_error_name (type_error.InvalidAtomicWidth _ _) = codes "InvalidAtomicWidth"
type_error_name (type_error.InvalidPointerBase _) = codes "InvalidPointerBase"
type_error_name (type_error.InvalidPointerToUnsized _ _) = codes "InvalidPointerToUnsized"
type_error_name (type_error.InvalidData _) = codes "InvalidData"
type_error_name (type_error.InvalidArrayBaseType _) = codes "InvalidArrayBaseType"
type_error_name type_error.MatrixElementNotFloat = codes "MatrixElementNotFloat"
type_error_name (type_error.UnsupportedSpecializedArrayLength _) = codes "UnsupportedSpecializedArrayLength"
type_error_name (type_error.UnsupportedImageType _ _ _) = codes "UnsupportedImageType"
type_error_name (type_error.InvalidArrayStride _ _) = codes "InvalidArrayStride"
type_error_name (type_error.InvalidDynamicArray _ _) = codes "InvalidDynamicArray"
type_error_name (type_error.BindingArrayBaseTypeNotStruct _) = codes "BindingArrayBaseTypeNotStruct"
type_error_name type_error.BindingArrayBaseExternalTextures = codes "BindingArrayBaseExternalTextures"
type_error_name (type_error.MemberOverlap _ _) = codes "MemberOverlap"
type_error_name (type_error.MemberOutOfBounds _ _ _ _) = codes "MemberOutOfBounds"
type_error_name type_error.EmptyStruct = codes "EmptyStruct"
type_error_name (type_error.InvalidBlendSrc _) = codes "InvalidBlendSrc"
type_error_name (type_error.WidthError _) = codes "WidthError"
type_error_name (type_error.UnresolvedOverride _) = codes "UnresolvedOverride"
type_error_name (type_error.InvalidArraySize _) = codes "InvalidArraySize"
type_error_name type_error.OutOfMemory = codes "OutOfMemory"

-- the name of the reason why a value can't be composed
abbrev pub compose_error_name : ComposeError → List ℕ
compose_error_name (compose_error.Type_ _) = codes "Type"
compose_error_name (compose_error.ComponentCount _ _) = codes "ComponentCount"
compose_error_name (compose_error.ComponentType _) = codes "ComponentType"
