use Rattle.naga_immediates.proofs.SlotParts.{IsWalking}
use Rattle.naga_typing.specs.Context.{lists_of}
use Rattle.naga_immediates.proofs.immediates.ImmediateSlots.from_type.Given as goal

abbrev pub invariant-loop-member : goal.invariant-loop-member
invariant-loop-member l = IsWalking (lists_of l.gctx) l.member-items l.offset l.member-index (record { 0 = 0 }) l.walk
