use Rattle.std.proofs.Common.{◌≡◌, string_bytes}
use Rattle.naga_report.specs.Run.{BeginsReport, Reports}
use Rattle.naga_report.proofs.ReadBytes.{holds_known}
use Rattle.naga_report.proofs.run.run.Goals as goal

pub returns-clause-report : goal.returns-clause-report
returns-clause-report g c =
    let contents = g.W.Write.contents in
    let same : c.as_bytes.result.now ≡ string_bytes c.in-Ok.report.text = cc in
    holds_known (g.R.Read.remaining c.args.reader.now.inner) c.in_ok-input.input.items
    (λ input. Reports input c.in-Ok.report.outcome (contents c.args.writer.now.inner) (contents c.write_all.new.writer.inner))
    c.in_ok-input.ensures.bytes (_, rw c.deref.ensures.value at c.in-Ok.ensures, rw same at c.in_ok-write_all.ensures.ok)

pub returns-in_err-write_all-clause-beginning : goal.returns-in_err-write_all-clause-beginning
returns-in_err-write_all-clause-beginning g c _ =
    let contents = g.W.Write.contents in
    let same : c.as_bytes.result.now ≡ string_bytes c.in-Ok.report.text = cc in
    holds_known (g.R.Read.remaining c.args.reader.now.inner) c.in_ok-input.input.items
    (λ input. BeginsReport input (contents c.args.writer.now.inner) (contents c.write_all.new.writer.inner))
    c.in_ok-input.ensures.bytes (_, c.in-Ok.report.outcome, rw c.deref.ensures.value at c.in-Ok.ensures, rw same at c.in_err-write_all.ensures.front)
