use Rattle.std.proofs.Common.{◌≡◌, ◌+◌, ◌≤◌, length}
use Rattle.naga_c.specs.Options.{item_count}
use Rattle.naga_c.proofs.subject.count_items.Given as goal

-- what is counted and what is left are all items
abbrev pub invariant-items : goal.invariant-items
invariant-items l = (l.count + item_count l.left ≡ item_count l.fn.words) × (l.count + length l.left ≤ length l.fn.words)

abbrev pub decreases-items : goal.decreases-items
decreases-items l = length l.left
