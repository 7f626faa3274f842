use Rattle.std.proofs.Common.{subst, sym}
use Rattle.naga_exprs.proofs.KnownOperands.{known_types_exist}
use Rattle.naga_exprs.proofs.value.admits_composition.Goals as goal
use Rattle.naga_ir.proofs.Handles.{global_references_ok}
use Rattle.naga_ir.specs.Handles.{GlobalReferencesOk}
use Rattle.naga_info.specs.Surroundings.{surroundings}

pub validate_compose_at-requires-clause-types : goal.validate_compose_at-requires-clause-types
validate_compose_at-requires-clause-types c = known_types_exist (surroundings c.args.context) c.requires.sound _ _ c.to_ctx.ensures.types c.as_slice-types.ensures

pub validate_compose_at-requires-clause-references :
    goal.validate_compose_at-requires-clause-references
validate_compose_at-requires-clause-references c = subst GlobalReferencesOk (sym c.to_ctx.ensures.lists) (global_references_ok c.args.context.«module».now c.requires.sound.handles)
