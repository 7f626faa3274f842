use Rattle.std.proofs.Common.{◌∙◌, Some, ap}
use Rattle.naga_image_exprs.proofs.Places.{variable_exists}
use Rattle.naga_image_exprs.proofs.resource.element_type.Goals as goal
use Rattle.naga_info.specs.Surroundings.{surroundings}

pub binding_type-requires-clause-exists : goal.binding_type-requires-clause-exists
binding_type-requires-clause-exists c = variable_exists (surroundings c.args.context) c.requires.sound c.args.base c.in-GlobalVariable.variable (c.index.ensures ∙ ap Some c.in-GlobalVariable.is)
