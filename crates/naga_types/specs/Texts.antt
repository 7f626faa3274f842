-- The texts of the reasons for which a type has no layout that a host may share.
use Rattle.std.specs.Prelude.{ℕ, List, ◌++◌, codes, decimal}
use Rattle.naga_types.specs.declared.error.Disalignment.{Disalignment}
use Rattle.naga_types.specs.declared.error.Disalignment.TheVariants.{ArrayStride, MemberOffset, MemberOffsetAfterStruct, NonHostShareable, StructSpan, UnsizedMember}

-- the words that name a member
abbrev pub of_member : ℕ → List ℕ
of_member index = codes "The struct member[" ++ decimal index ++ codes "]"

-- the words on an alignment that a number of bytes is not a multiple of
abbrev pub no_multiple : ℕ → List ℕ
no_multiple alignment = codes " is not a multiple of the required alignment " ++ decimal alignment

-- the text of each reason
abbrev pub text_of : Disalignment → List ℕ
text_of (ArrayStride stride alignment) = codes "The array stride " ++ decimal stride ++ no_multiple alignment
text_of (StructSpan span alignment) = codes "The struct span " ++ decimal span ++ codes "," ++ no_multiple alignment
text_of (MemberOffset index offset alignment) =
    of_member index ++ codes " offset " ++ decimal offset ++ no_multiple alignment
text_of (MemberOffsetAfterStruct index offset expected) =
    of_member index ++ codes " offset " ++ decimal offset ++ codes " must be at least " ++ decimal expected
text_of (UnsizedMember index) = of_member index ++ codes " is not statically sized"
text_of NonHostShareable = codes "The type is not host-shareable"
