use Rattle.std.proofs.Common.{◌≡◌, ◌<◌, ◌≤◌, ◌-◌, ℕ, List, length, Some, slice_get}
use Rattle.naga_ir.specs.steps.TypePaths.{Leads, IsReached, KeepsLinks, links_of}
use Rattle.naga_ir.proofs.type_paths.find.Given as goal

-- the link is on the path, and to what the path leads from there, the whole path leads, also where links are added
abbrev pub invariant-loop-node : goal.invariant-loop-node
invariant-loop-node l = record {
  within : l.link < links_of (length l.types);
  depth : l.depth ≤ l.link;
  rest : (k : ℕ) → slice_get l.types k ≡ Some l.ty → (steps : ℕ) × Leads l.links l.ty l.depth l.bits l.link steps k;
  back : (more : List ℕ) → KeepsLinks l.links more → (steps k : ℕ) → Leads more l.ty l.depth l.bits l.link steps k → IsReached more l.ty k;
}

abbrev pub decreases-loop-node : goal.decreases-loop-node
decreases-loop-node l = links_of (length l.types) - l.link
