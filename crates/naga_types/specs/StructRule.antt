-- The rule of structs.
use Rattle.std.specs.Prelude.{◌==◌, ◌+◌, ◌-◌, ◌&&◌, ◌||◌, not, leb, ltb, ℕ, Bool as Boolean, true, false, List, [], ◌∷◌, Option, Some, None, Result, bit_and, bit_or, fold, is_some, length, map, option_map, take, unwrap_or, if◌then◌else◌}
use Rattle.std.specs.List.{enumerate_from, list_any}
use Rattle.std.specs.Result.{result_err}
use Rattle.naga_flags.specs.Bits.{DUAL_SOURCE_BLENDING, HOST_SHAREABLE, IO_SHAREABLE, SIZED, all_type_flags}
use Rattle.naga_flags.specs.Flags.{has}
use Rattle.naga_flags.specs.declared.width.ImmediateError.{ImmediateError}
use Rattle.naga_ir.specs.declared.types.Binding.{Binding}
use Rattle.naga_ir.specs.declared.types.Binding.TheVariants.{Location}
use Rattle.naga_ir.specs.declared.types.StructMember.{StructMember}
use Rattle.naga_ir.specs.declared.types.TypeInner.{TypeInner}
use Rattle.naga_ir.specs.declared.types.TypeInner.TheVariants as form
use Rattle.naga_typing.specs.declared.typifier.TypeResolution.TheVariants.{Handle}
use Rattle.naga_typing.specs.Sameness.{are_same}
use Rattle.naga_types.specs.FormFlags.{member_flags, unshared_flags}
use Rattle.naga_types.specs.Checks.{first, ok_unless, first_error_or, last, when, require}
use Rattle.naga_types.specs.Layouts.{before, storage_layout_of, saturated, uniform_layout_of}
use Rattle.naga_types.specs.Surroundings.{Surroundings, flags_at, form_at, info_at, size_at}
use Rattle.naga_types.specs.declared.error.TypeError.{TypeError}
use Rattle.naga_types.specs.declared.error.TypeError.TheVariants.{EmptyStruct, InvalidBlendSrc, InvalidData, InvalidDynamicArray, MemberOutOfBounds, MemberOverlap, MissingCapability}
use Rattle.naga_types.specs.declared.error.VaryingError.{VaryingError}
use Rattle.naga_types.specs.declared.error.VaryingError.TheVariants.{BindingCollisionBlendSrc, BlendSrcOutputTypeMismatch, IncompleteBlendSrcUsage, InvalidBlendSrcIndex, InvalidBlendSrcWithOtherBindings, NotIOShareableType}
use Rattle.naga_types.specs.declared.info.TypeInfo.{TypeInfo}

-- the first byte after a member, and 0 if there is none
abbrev pub end_in : Surroundings → Option StructMember → ℕ
end_in s None = 0
end_in s (Some m) = m.offset + size_at s m.ty

-- the location of a source of blending, and which one it is
abbrev pub source_of : Option Binding → Option (ℕ × ℕ)
source_of (Some (Location location interpolation sampling (Some source) per_primitive)) = Some (location, source)
source_of _ = None

-- the location of a binding that is not a source of blending
abbrev pub location_of : Option Binding → Option ℕ
location_of (Some (Location location interpolation sampling None per_primitive)) = Some location
location_of _ = None

-- a member's type, if the member is this source of blending
abbrev pub type_of_source : ℕ → ℕ → Option (ℕ × ℕ) → Option ℕ
type_of_source source ty None = None
type_of_source source ty (Some at) = when (at.1 == source) (Some ty)

-- the type of the first of some members that is this source of blending
abbrev pub source_type : ℕ → List StructMember → Option ℕ
source_type source members =
    first (map (λ (m : StructMember). type_of_source source m.ty (source_of m.binding)) members)

-- whether one of some members is this source of blending
abbrev pub has_source : List StructMember → ℕ → Boolean
has_source members source = is_some (source_type source members)

-- the conditions of a source of blending, by the sources that are taken: a capability, source 0 or 1 at
-- location 0, and one that is not taken
abbrev pub source_checks : ℕ → (ℕ → Boolean) → Option (ℕ × ℕ) → List (Option TypeError)
source_checks capabilities is_taken None = []
source_checks capabilities is_taken (Some (location, source)) =
    require (has capabilities DUAL_SOURCE_BLENDING) (MissingCapability (record { 0 = DUAL_SOURCE_BLENDING })) ∷
    require (leb source 1 && location == 0) (InvalidBlendSrc (InvalidBlendSrcIndex location source)) ∷
    require (not (is_taken source)) (InvalidBlendSrc (BindingCollisionBlendSrc source)) ∷ []

-- a type is an array
abbrev pub is_array : Option TypeInner → Boolean
is_array (Some (form.Array base size stride)) = true
is_array _ = false

-- the conditions of a member's place: it begins after the member before it or at 0, and ends within the struct
abbrev pub place_checks : Surroundings → List StructMember → ℕ → ℕ → StructMember → List (Option TypeError)
place_checks s members span i m =
    require (m.offset == 0 || leb (end_in s (before members i)) m.offset) (MemberOverlap (saturated i) m.offset) ∷
    require (leb (m.offset + size_at s m.ty) span) (MemberOutOfBounds (saturated i) m.offset (size_at s m.ty) span) ∷ []

-- the error of a member that has no fixed size and is not an array at the end
abbrev pub member_size_error : Surroundings → List StructMember → ℕ → StructMember → Option TypeError
member_size_error s members i m =
    require (has (flags_at s m.ty) SIZED || is_array (form_at s m.ty) && i + 1 == length members)
    (InvalidDynamicArray (unwrap_or m.name []) m.ty)

-- the conditions of a member: it is data whose size no override decides, a source of blending that no member before it
-- is, if it is one at all, in its place, and of a fixed size
abbrev pub member_checks : Surroundings → List StructMember → ℕ → ℕ × StructMember → List (Option TypeError)
member_checks s members span at =
    require (has (flags_at s at.1.ty) member_flags) (InvalidData at.1.ty) ∷
    first (source_checks s.capabilities (has_source (take at.0 members)) (source_of at.1.binding)) ∷
    first (place_checks s members span at.0 at.1) ∷
    member_size_error s members at.0 at.1 ∷ []

-- why a member is refused: by the first condition that it breaks
abbrev pub member_error : Surroundings → List StructMember → ℕ → ℕ × StructMember → Option TypeError
member_error s members span at = first (member_checks s members span at)

-- why each member is refused
abbrev pub member_errors : Surroundings → List StructMember → ℕ → List (Option TypeError)
member_errors s members span = map (member_error s members span) (enumerate_from 0 members)

-- the last location of a member that is not a source of blending
abbrev pub other_location : List StructMember → Option ℕ
other_location members = last (map (λ (m : StructMember). location_of m.binding) members)

-- the checks of the two sources, by their types: both are there or none, no member has another location, they have
-- one type, and stages may share it
abbrev pub pair_checks : Surroundings → List StructMember → Option ℕ → Option ℕ → List (Option VaryingError)
pair_checks s members None None = []
pair_checks s members (Some t) None = Some (IncompleteBlendSrcUsage 0) ∷ []
pair_checks s members None (Some u) = Some (IncompleteBlendSrcUsage 1) ∷ []
pair_checks s members (Some t) (Some u) =
    option_map InvalidBlendSrcWithOtherBindings (other_location members) ∷
    require (are_same s.lists.types (Handle t) (Handle u)) (BlendSrcOutputTypeMismatch t u) ∷
    require (has (flags_at s t) IO_SHAREABLE) (NotIOShareableType t) ∷ []

-- the conditions of a struct: there are members, each keeps its own conditions, and the sources of blending keep theirs
abbrev pub struct_checks : Surroundings → List StructMember → ℕ → List (Option TypeError)
struct_checks s members span =
    require (not (length members == 0)) EmptyStruct ∷
    first (member_errors s members span) ∷
    option_map InvalidBlendSrc (first (pair_checks s members (source_type 0 members) (source_type 1 members))) ∷ []

-- what all members may be used for, and structs at all
abbrev pub common_flags : Surroundings → List StructMember → ℕ
common_flags s members = fold bit_and unshared_flags (map (λ (m : StructMember). flags_at s m.ty) members)

-- a member begins at 0, below the end of the one before it
abbrev pub restarts_at_zero : Surroundings → List StructMember → ℕ × StructMember → Boolean
restarts_at_zero s members at = at.1.offset == 0 && ltb 0 (end_in s (before members at.0))

-- what a struct may be used for: what all its members may, but hosts don't share one whose members go back, and stages
-- share one of two sources of blending
abbrev pub struct_flags : Surroundings → List StructMember → ℕ
struct_flags s members =
    let flags = common_flags s members in
    let restarts = list_any (restarts_at_zero s members) (enumerate_from 0 members) in
    let hosts = if restarts then bit_and flags (all_type_flags - HOST_SHAREABLE) else flags in
    if has_source members 0 && has_source members 1 then bit_or hosts IO_SHAREABLE else hosts

-- immediates may hold a struct unless they may not hold a member: the last such gives the error
abbrev pub struct_immediates : Surroundings → List StructMember → Result (Unit {0}) ImmediateError
struct_immediates s members =
    ok_unless (last (map (λ (m : StructMember). result_err (info_at s m.ty).immediates_compatibility) members)) tt

-- the info of a struct, or why it is refused
abbrev pub struct_rule : Surroundings → ℕ → List StructMember → ℕ → Result TypeInfo TypeError
struct_rule s t members span =
    first_error_or (struct_checks s members span) (record {
      flags = record { 0 = struct_flags s members };
      uniform_layout = uniform_layout_of s t members span;
      storage_layout = storage_layout_of s t members span;
      immediates_compatibility = struct_immediates s members;
    })
