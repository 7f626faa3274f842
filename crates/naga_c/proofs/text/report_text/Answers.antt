use Rattle.std.proofs.Common.{arith, ◌≡◌, ◌++◌, ℕ, List, false, refl, string_bytes, subst, true}
use Rattle.std.specs.Prelude.{bytes_eq}
use Rattle.naga_report.specs.Report.{IsReport, refused_memory_text}
use Rattle.naga_c.specs.Buffers.{BeginsWith}
use Rattle.naga_c.specs.Text.{short, written}
use Rattle.naga_c.proofs.text.report_text.Goals as goal

-- bytes that differ from those of a report that memory was refused
others : (bytes : List ℕ) → false ≡ bytes_eq bytes refused_memory_text → ¬ (bytes ≡ refused_memory_text)
others bytes differ same = let no : false ≡ true = subst (λ (b : List ℕ). false ≡ bytes_eq b refused_memory_text) same differ in cc

pub returns-then-bytes-report : goal.returns-then-bytes-report
returns-then-bytes-report c =
    let same : string_bytes c.in-Ok.made.text ≡ c.as_bytes-bytes.result.now = cc in
    short c.as_bytes-bytes.result.now c.in-Ok.made.outcome (subst (λ (t : List ℕ). IsReport c.args.text.now t c.in-Ok.made.outcome) same c.in-Ok.ensures) (others c.as_bytes-bytes.result.now c.if-eq.ensures) refl refl (omega arith) refl

pub returns : goal.returns
returns c =
    let same : string_bytes c.in-Ok.made.text ≡ c.as_bytes-bytes.result.now = cc in
    let left : BeginsWith c.as_bytes-bytes.result.now c.args.report.now (c.copy_from_slice.new.self ++ c.split_at_mut-front.result.1.now) = cc in
    written c.as_bytes-bytes.result.now c.in-Ok.made.outcome (subst (λ (t : List ℕ). IsReport c.args.text.now t c.in-Ok.made.outcome) same c.in-Ok.ensures) (others c.as_bytes-bytes.result.now c.if-eq.ensures) c.status_of.ensures refl left
