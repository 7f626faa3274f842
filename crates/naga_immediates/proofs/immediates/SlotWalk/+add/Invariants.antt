use Rattle.naga_immediates.proofs.SlotParts.{IsWalking}
use Rattle.naga_typing.specs.Context.{lists_of}
use Rattle.naga_immediates.proofs.immediates.SlotWalk.+add.Given as goal

abbrev pub decreases-add : goal.decreases-add
decreases-add l = l.ty

abbrev pub invariant-loop-member : goal.invariant-loop-member
invariant-loop-member l = IsWalking (lists_of l.gctx) l.member-items l.byte l.member-index l.initial.self.slots l.self
