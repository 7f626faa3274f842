use Rattle.std.proofs.Common.{subst, sym}
use Rattle.naga_ir.specs.Handles.{GlobalReferencesOk}
use Rattle.naga_ir.proofs.Handles.{global_references_ok}
use Rattle.naga_valid.proofs.driver.type_info_of.Goals as goal

pub validate_type-requires-clause-references : goal.validate_type-requires-clause-references
validate_type-requires-clause-references c = subst GlobalReferencesOk (sym c.to_ctx.ensures.lists) (global_references_ok c.args.module.now c.requires.laid_out.handles)
