use Rattle.std.proofs.Common.{◌≡◌, ◌-◌, ◌≤◌, length, take}
use Rattle.std.specs.Io.KnownBytes.{Appends}
use Rattle.naga_report.proofs.run.write_all.Given as goal

-- what went out is the front of the text
abbrev pub invariant-writes : goal.invariant-writes
invariant-writes g l = record {
  in_text : l.at ≤ length l.text;
  written : Appends (g.W.Write.contents l.fn.writer.inner) (g.W.Write.contents l.writer.inner) (take l.at l.text);
  none_failed : l.writer.failed ≡ l.fn.writer.failed;
}

abbrev pub decreases-writes : goal.decreases-writes
decreases-writes g l = length l.text - l.at
