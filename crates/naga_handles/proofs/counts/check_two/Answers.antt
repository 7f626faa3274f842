use Rattle.std.proofs.Common.{rules, ◌≡◌, [], ◌∷◌, subst, sym}
use Rattle.std.specs.Prelude.{Err}
use Rattle.naga_ir.proofs.StatementLemmas.{checks-before, checks-then}
use Rattle.naga_ir.specs.FirstError.{ChecksEach}
use Rattle.naga_handles.specs.steps.ItemChecks.{IsOperandResult}
use Rattle.naga_handles.proofs.counts.check_two.Goals as goal

pub returns-in_err-check_one : goal.returns-in_err-check_one
returns-in_err-check_one c =
    let check = IsOperandResult c.args.handle in
    let is : c.from_residual.result ≡ Err c.in_err-check_one.field-0.0 = search rules in
    subst (ChecksEach check _) (sym is) (checks-before check (c.args.first ∷ []) (c.args.second ∷ []) _ c.in_err-check_one.ensures)

pub returns : goal.returns
returns c = checks-then (IsOperandResult c.args.handle) (c.args.first ∷ []) (c.args.second ∷ []) _ c.in_ok-check_one.ensures c.check_one-2.ensures
