use Rattle.naga_typing.specs.Context.{lists_of}
use Rattle.naga_typing.proofs.Pointers.{Following, pointers_left}
use Rattle.naga_typing.proofs.index.pointed_form.Given as goal

-- pointers lead from the first type to this one
abbrev pub invariant-loop-inner : goal.invariant-loop-inner
invariant-loop-inner l = Following (lists_of l.gctx) l.fn.inner l.inner

-- each pointer leads further back
abbrev pub decreases-loop-inner : goal.decreases-loop-inner
decreases-loop-inner l = pointers_left l.inner
