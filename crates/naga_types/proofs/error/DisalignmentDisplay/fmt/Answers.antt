use Rattle.std.proofs.Common.{append_assoc}
use Rattle.std.proofs.Output.{has_written_of_eq}
use Rattle.naga_types.proofs.error.DisalignmentDisplay.fmt.Goals as goal

pub returns-in-ArrayStride-clause-writes : goal.returns-in-ArrayStride-clause-writes
returns-in-ArrayStride-clause-writes g c = rw (c.in-ArrayStride.is) (λ plain ok. has_written_of_eq _ _ _ _ _ (simp append_assoc) (c.write.ensures.writes plain ok))

pub returns-in-StructSpan-clause-writes : goal.returns-in-StructSpan-clause-writes
returns-in-StructSpan-clause-writes g c = rw (c.in-StructSpan.is) (λ plain ok. has_written_of_eq _ _ _ _ _ (simp append_assoc) (c.write-in-StructSpan.ensures.writes plain ok))

pub returns-in-MemberOffset-clause-writes : goal.returns-in-MemberOffset-clause-writes
returns-in-MemberOffset-clause-writes g c = rw (c.in-MemberOffset.is) (λ plain ok. has_written_of_eq _ _ _ _ _ (simp append_assoc) (c.write-in-MemberOffset.ensures.writes plain ok))

pub returns-in-MemberOffsetAfterStruct-clause-writes : goal.returns-in-MemberOffsetAfterStruct-clause-writes
returns-in-MemberOffsetAfterStruct-clause-writes g c = rw (c.in-MemberOffsetAfterStruct.is) (λ plain ok. has_written_of_eq _ _ _ _ _ (simp append_assoc) (c.write-in-MemberOffsetAfterStruct.ensures.writes plain ok))

pub returns-in-UnsizedMember-clause-writes : goal.returns-in-UnsizedMember-clause-writes
returns-in-UnsizedMember-clause-writes g c = rw (c.in-UnsizedMember.is) (λ plain ok. has_written_of_eq _ _ _ _ _ (simp append_assoc) (c.write-in-UnsizedMember.ensures.writes plain ok))
