use Rattle.std.proofs.Common.{drop}
use Rattle.std.specs.Fn.{FnReturnsAt}
use Rattle.naga_handles.proofs.PassedPrefix.{Passed}
use Rattle.naga_handles.proofs.handles.try_each.Given as goal

abbrev pub invariant-loop-item : goal.invariant-loop-item
invariant-loop-item g l = Passed (FnReturnsAt g.F.Fn l.check) l.items (drop l.item-index l.items)
