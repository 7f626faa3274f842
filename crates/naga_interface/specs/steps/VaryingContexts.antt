-- What the rule of an input or output depends on.
use Rattle.naga_interface.specs.Surroundings.{surroundings}
use Rattle.naga_interface.specs.Varyings.{VaryingSurroundings}
use Rattle.naga_interface.specs.declared.varying.VaryingContext.{VaryingContext}

-- what the rule of an input or output in this context depends on, besides it and those before it
abbrev pub varyings_in : VaryingContext → VaryingSurroundings
varyings_in c = record {
  interface = surroundings c.interface;
  stage = c.stage;
  direction = c.direction;
  workgroup_size = c.workgroup_size;
}
