use Rattle.std.proofs.Common.{Some, ap, sym, ◌∙◌}
use Rattle.naga_c.specs.declared.status.Status.TheVariants.{NotOpen}
use Rattle.naga_c.proofs.OpenModuleLaws.{of_closed, of_open}
use Rattle.naga_c.proofs.module_calls.naga_check_module_declarations_with.Goals as goal

pub returns-in_default-clause-written : goal.returns-in_default-clause-written
returns-in_default-clause-written c = (NotOpen, c.code.ensures, of_closed c.args.opened.now.held _ _ c.in_default.ensures.taken c.no_outcome.ensures)

pub returns-clause-written : goal.returns-clause-written
returns-clause-written c = (c.check_declarations-status.result, c.code-2.ensures, of_open c.args.opened.now.held c.deref.result.now _ _ _ (c.in-Some.ensures.taken ∙ ap Some (sym c.deref.ensures)) c.check_declarations-status.ensures)
