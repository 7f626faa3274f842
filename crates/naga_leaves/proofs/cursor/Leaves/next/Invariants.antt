use Rattle.std.proofs.Common.{◌≡◌, true}
use Rattle.naga_leaves.proofs.cursor.Leaves.next.Given as goal
use Rattle.naga_leaves.specs.Cursor.{IsCursor}
use Rattle.naga_leaves.specs.steps.NextLeaf.{ComesOn}
use Rattle.naga_leaves.specs.Places.{place_left}

-- no leaf was passed so far
abbrev pub invariant-steps : goal.invariant-steps
invariant-steps l = record {
  cursor : IsCursor l.self;
  begun : l.self.is_begun ≡ true;
  on : ComesOn l.fn.self l.self;
}

-- each step leaves fewer
abbrev pub decreases-steps : goal.decreases-steps
decreases-steps l = place_left l.self.place
