use Rattle.std.proofs.Common.{◌≡◌, ◌⊎◌, ℕ, inl, inr, refl, subst}
use Rattle.std.proofs.lemmas.Result.{IfOk-weaker}
use Rattle.naga_report.specs.Report.{readable, unreadable}
use Rattle.naga_text.specs.Text.{IsFirstUnreadable, NamesLine}
use Rattle.naga_text.specs.Words.{lines_of}
use Rattle.naga_text.specs.declared.text.TextError.{TextError}
use Rattle.naga_text.specs.declared.text.TextError.TheVariants.{Line, OutOfMemory}
use Rattle.naga_report.proofs.report.make_report.Goals as goal

-- an error that is a line names it
named : (e : TextError) (n : ℕ) (P : ℕ → Type 0) → e ≡ Line n → (e ≡ OutOfMemory) ⊎ NamesLine e P → P n
named e n P is (inl none) = cc
named e n P is (inr names) = subst (λ e. NamesLine e P) is names

pub returns-in-Ok : goal.returns-in-Ok
returns-in-Ok c = IfOk-weaker c.report_contents.result _ _ (λ a h. readable c.in-Ok.contents c.in-Ok.ensures.text h) c.report_contents.ensures

pub returns-in_ok-format-in-Err-Line : goal.returns-in_ok-format-in-Err-Line
returns-in_ok-format-in-Err-Line c =
    let first = named c.in-Err-Line.field-0 c.in-Err-Line.n (IsFirstUnreadable (lines_of c.args.input.now)) c.in-Err-Line.field-0-is c.in-Err-Line.ensures.text in
    unreadable c.in-Err-Line.n first c.in_ok-format-in-Err-Line.ensures.ok refl
