-- The layouts of structs in an address space.
use Rattle.std.specs.Prelude.{◌==◌, ◌+◌, ◌-◌, ◌*◌, ◌/◌, ◌%◌, leb, max, min, ℕ, zero, suc, List, [], ◌∷◌, Option, Some, None, Result, Ok, Err, map, option_and_then, slice_get}
use Rattle.std.specs.List.{enumerate_from}
use Rattle.std.specs.Option.{option_or}
use Rattle.std.specs.Result.{result_unwrap_or}
use Rattle.naga_arena.specs.Numbers.{largest_u32}
use Rattle.naga_flags.specs.Bits.{HOST_SHAREABLE, SIZED}
use Rattle.naga_flags.specs.Flags.{has}
use Rattle.naga_ir.specs.declared.types.StructMember.{StructMember}
use Rattle.naga_ir.specs.declared.types.TypeInner.{TypeInner}
use Rattle.naga_ir.specs.declared.types.TypeInner.TheVariants as form
use Rattle.naga_typing.specs.Layout.{alignment_at, greatest}
use Rattle.naga_types.specs.Checks.{first, first_error_or, last, require}
use Rattle.naga_types.specs.Surroundings.{Surroundings, flags_at, form_at, info_at}
use Rattle.naga_types.specs.declared.error.Disalignment.{Disalignment}
use Rattle.naga_types.specs.declared.error.Disalignment.TheVariants.{MemberOffset, MemberOffsetAfterStruct, NonHostShareable, StructSpan, UnsizedMember}
use Rattle.naga_types.specs.declared.info.TypeInfo.{TypeInfo}

-- an alignment in bytes, or the type because of which there is none, and why
abbrev pub Layout : Type 0
Layout = Result ℕ (ℕ × Disalignment)

-- the layout of a type in the uniform address space
abbrev pub in_uniform : TypeInfo → Layout
in_uniform info = info.uniform_layout

-- the layout of a type in the storage address space
abbrev pub in_storage : TypeInfo → Layout
in_storage info = info.storage_layout

-- the least alignment of arrays and structs in the uniform address space, in bytes
abbrev pub min_uniform : ℕ
min_uniform = 16

-- a number as errors give it: the greatest `u32` in place of any above
abbrev pub saturated : ℕ → ℕ
saturated n = min n largest_u32

-- the error of a struct whose span is not a multiple of its alignment
abbrev pub span_error : Surroundings → ℕ → ℕ → Option (ℕ × Disalignment)
span_error s t span = require (span % alignment_at s.layouts t == 0) (t, StructSpan span (alignment_at s.layouts t))

-- the error of a member whose type has no layout, or that does not begin at a multiple of the alignment of its type
abbrev pub offset_error : ℕ → ℕ → ℕ → Layout → Option (ℕ × Disalignment)
offset_error t i offset (Err e) = Some e
offset_error t i offset (Ok a) = require (offset % a == 0) (t, MemberOffset (saturated i) offset a)

-- the error of a member that is not host-shareable, or not aligned
abbrev pub member_layout_error : Surroundings → (TypeInfo → Layout) → ℕ → ℕ × StructMember → Option (ℕ × Disalignment)
member_layout_error s layout t at =
    option_or (require (has (flags_at s at.1.ty) HOST_SHAREABLE) (at.1.ty, NonHostShareable))
    (offset_error t at.0 at.1.offset (layout (info_at s at.1.ty)))

-- for each member, the error if it is not host-shareable, or not aligned
abbrev pub member_layout_errors : Surroundings → (TypeInfo → Layout) → ℕ → List StructMember
    → List (Option (ℕ × Disalignment))
member_layout_errors s layout t members = map (member_layout_error s layout t) (enumerate_from 0 members)

-- the greatest alignment of the members, and 1 if none has one
abbrev pub greatest_alignment : Surroundings → (TypeInfo → Layout) → List StructMember → ℕ
greatest_alignment s layout members =
    greatest (map (λ (m : StructMember). result_unwrap_or (layout (info_at s m.ty)) 1) members)

-- the layout in the storage address space: the span and all members are aligned
abbrev pub storage_layout_of : Surroundings → ℕ → List StructMember → ℕ → Layout
storage_layout_of s t members span =
    first_error_or (span_error s t span ∷ first (member_layout_errors s in_storage t members) ∷ [])
    (greatest_alignment s in_storage members)

-- the least multiple of `min_uniform` that is `n` bytes or more
abbrev pub rounded_up : ℕ → ℕ
rounded_up n = (n + (min_uniform - 1)) / min_uniform * min_uniform

-- the first byte that may follow a member in the uniform address space, if the member is a struct
abbrev pub end_after_struct : Option StructMember → Option TypeInner → ℕ
end_after_struct (Some m) (Some (form.Struct members span)) = m.offset + rounded_up span
end_after_struct _ _ = 0

-- the member before the one at a place
abbrev pub before : List StructMember → ℕ → Option StructMember
before members zero = None
before members (suc i) = slice_get members i

-- the first byte that may follow the member before the one at a place, and 0 if no struct is before it
abbrev pub end_after_struct_before : Surroundings → List StructMember → ℕ → ℕ
end_after_struct_before s members i =
    end_after_struct (before members i) (option_and_then (λ (m : StructMember). form_at s m.ty) (before members i))

-- the error of a member that begins in the room of the struct before it
abbrev pub padding_error : Surroundings → ℕ → List StructMember → ℕ × StructMember → Option (ℕ × Disalignment)
padding_error s t members at =
    require (leb (end_after_struct_before s members at.0) at.1.offset)
    (t, MemberOffsetAfterStruct (saturated at.0) at.1.offset (saturated (end_after_struct_before s members at.0)))

-- the error of the last member that begins in the room of the struct before it
abbrev pub last_padding_error : Surroundings → ℕ → List StructMember → Option (ℕ × Disalignment)
last_padding_error s t members = last (map (padding_error s t members) (enumerate_from 0 members))

-- the error of a member without a fixed size
abbrev pub unsized_error : Surroundings → ℕ → ℕ × StructMember → Option (ℕ × Disalignment)
unsized_error s t at = require (has (flags_at s at.1.ty) SIZED) (t, UnsizedMember (saturated at.0))

-- for each member, the error if it has no fixed size
abbrev pub unsized_errors : Surroundings → ℕ → List StructMember → List (Option (ℕ × Disalignment))
unsized_errors s t members = map (unsized_error s t) (enumerate_from 0 members)

-- the layout in the uniform address space: the span and all members are aligned, each member after a struct begins
-- after the padded end of the struct, all have fixed sizes, and the alignment is at least `min_uniform`
abbrev pub uniform_layout_of : Surroundings → ℕ → List StructMember → ℕ → Layout
uniform_layout_of s t members span = first_error_or
    (span_error s t span ∷ last_padding_error s t members ∷ first (member_layout_errors s in_uniform t members)
    ∷ first (unsized_errors s t members) ∷ [])
    (max (greatest_alignment s in_uniform members) min_uniform)
