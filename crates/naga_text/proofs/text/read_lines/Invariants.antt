use Rattle.std.proofs.Common.{◌≡◌, ℕ, ◌+◌, ◌<◌, ◌≤◌, drop, length, take}
use Rattle.naga_text.specs.Words.{lines_of}
use Rattle.naga_text.specs.steps.SoFar.{ReadSoFar}
use Rattle.naga_text.specs.Text.{IsReadable}
use Rattle.naga_text.proofs.text.read_lines.Given as goal

-- which lines are left, what was read of the lines so far, and that each number of first lines before them can be read
abbrev pub invariant-lines : goal.invariant-lines
invariant-lines l = record {
  left : lines_of l.rest ≡ drop l.count (lines_of l.text);
  so_far : ReadSoFar (take l.count (lines_of l.text)) l.so_far;
  before : (k : ℕ) → k < l.count → IsReadable (take k (lines_of l.text));
  few : l.count + length (lines_of l.rest) ≤ length (lines_of l.text);
}

abbrev pub decreases-lines : goal.decreases-lines
decreases-lines l = length (lines_of l.rest)
