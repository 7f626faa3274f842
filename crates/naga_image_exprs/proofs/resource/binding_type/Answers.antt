use Rattle.naga_image_exprs.proofs.Places.{binding_type_exists, variable_type_exists}
use Rattle.naga_image_exprs.proofs.resource.binding_type.Goals as goal
use Rattle.naga_info.specs.Surroundings.{surroundings}

pub index-requires-2 : goal.index-requires-2
index-requires-2 c = variable_type_exists (surroundings c.args.context) c.requires.sound c.args.variable c.index.result.now c.index.ensures

pub returns-in-BindingArray-clause-exists : goal.returns-in-BindingArray-clause-exists
returns-in-BindingArray-clause-exists c = binding_type_exists (surroundings c.args.context) c.requires.sound c.index.result.now.ty c.index-2.result.now c.in-BindingArray.base c.in-BindingArray.size c.index-2.ensures c.in-BindingArray.is
