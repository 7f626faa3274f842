use Rattle.std.proofs.Common.{◌≡◌, IsTrue, [], Some, Option, ap, subst, sym}
use Rattle.std.specs.List.{list_any}
use Rattle.std.specs.Option.{option_copied}
use Rattle.std.specs.Prelude.{Err}
use Rattle.naga_arena.specs.Results.{IsResultOf}
use Rattle.naga_interface.specs.EntryPoints.{output_error, result_bindings}
use Rattle.naga_interface.specs.Varyings.{is_far}
use Rattle.naga_interface.specs.declared.error.EntryPointError.TheVariants.{OutOfMemory}
use Rattle.naga_interface.specs.steps.VaryingContexts.{varyings_in}
use Rattle.naga_ir.specs.declared.ir.FunctionResult.{FunctionResult}
use Rattle.naga_interface.proofs.Conditions.{unless}
use Rattle.naga_interface.proofs.VaryingRefusals.{output_refused}
use Rattle.naga_interface.proofs.entry_point.check_output.Goals as goal

pub returns-in-Err-clause-checks : goal.returns-in-Err-clause-checks
returns-in-Err-clause-checks c =
    let s = varyings_in c.args.context in
    let r = c.in-Some.outcome.now in
    let mapped = c.result_error.result in
    let is : option_copied c.args.outcome ≡ Some r = ap (λ o. option_copied o) c.in-Some.is in
    subst (λ (o : Option FunctionResult). IsResultOf (λ _. IsTrue (list_any is_far (result_bindings s.interface o))) OutOfMemory (unless (output_error s o)) (Err mapped)) (sym is)
    (output_refused s r c.in-Err.error mapped (record { memory = c.result_error.ensures.out_of_memory; other = c.result_error.ensures.other })
    (c.in-Err.ensures.checks [] c.requires.none))
