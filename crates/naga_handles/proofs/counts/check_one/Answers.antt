use Rattle.std.proofs.Common.{ℕ, ◌<◌, ◌↔◌, IfErr, IsOk, refl}
use Rattle.std.specs.Prelude.{◌≡◌, Ok, Err, Result}
use Rattle.naga_ir.proofs.StatementLemmas.{checks-single}
use Rattle.naga_ir.specs.declared.reference.Reference.TheVariants as to
use Rattle.naga_handles.specs.Faults.{forward}
use Rattle.naga_handles.specs.declared.error.InvalidHandleError.{InvalidHandleError}
use Rattle.naga_handles.specs.steps.ItemChecks.{IsOperandResult}
use Rattle.naga_handles.proofs.counts.check_one.Goals as goal

-- a check that an operand precedes its expression has one of two results
operand_result : (e o : ℕ) (result : Result (Unit {0}) InvalidHandleError) → IsOk result ↔ (o < e) → IfErr result (λ error. error ≡ forward (to.Expression e) (to.Expression o)) → IsOperandResult e o result
operand_result e o (Ok u) h k = h.0 refl
operand_result e o (Err error) h k = (λ before. let is = h.1 before in cc (is), k)

pub returns : goal.returns
returns c = checks-single (IsOperandResult c.args.handle) c.args.operand _ (operand_result c.args.handle c.args.operand _ c.check_dep.ensures.before c.check_dep.ensures.after)
