use Rattle.std.proofs.Common.{◌≡◌, List, ℕ, Option, Some, None, IfSome, ◌∙◌, sym}
use Rattle.std.proofs.lemmas.Result.{IfOk-weaker}
use Rattle.naga_text.specs.Forms.{IsForm}
use Rattle.naga_text.specs.steps.LineForms.{line_of}
use Rattle.naga_text.specs.declared.line.Line.{Line}
use Rattle.naga_text.proofs.LineLaws.{line_found, line_again}
use Rattle.naga_text.proofs.line.read_line_after.Goals as goal

found : (ws : List (List ℕ)) (read : Option Line) → read ≡ line_of ws → IfSome read (λ line. IsForm ws line)
found ws None e = tt
found ws (Some line) e = line_found ws line (sym e)

only : (ws : List (List ℕ)) (line : Line) → IsForm ws line → (read : Option Line) → read ≡ line_of ws → read ≡ Some line
only ws line h read e = e ∙ line_again ws line h

pub returns-clause-found : goal.returns-clause-found
returns-clause-found c = IfOk-weaker c.line_after.result _ _ (found _) c.line_after.ensures

pub returns-clause-only : goal.returns-clause-only
returns-clause-only c = λ line h. IfOk-weaker c.line_after.result _ _ (only _ line h) c.line_after.ensures
