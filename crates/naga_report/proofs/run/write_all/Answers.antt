use Rattle.std.proofs.Common.{rules}
use Rattle.naga_report.proofs.AppendedBytes.{Appends-more}
use Rattle.naga_report.proofs.run.write_all.Goals as goal

pub writes-preserved : goal.writes-preserved
writes-preserved g c = record {
  in_text = search rules;
  written = Appends-more _ _ _ c.args.text.now c.writes.at c.in-Some.n c.writes.invariant.written c.in-Some.ensures.bytes;
  none_failed = search rules;
}
