use Rattle.naga_types.specs.declared.structs.SharedSpace.TheVariants.{Storage, Uniform}
use Rattle.naga_types.specs.steps.Structs.{AreLaidOut}
use Rattle.naga_types.proofs.structs.StructType.members_alike.Given as goal

-- the members so far fail in neither space, and have the same greatest alignment in both
abbrev pub invariant-loop-index : goal.invariant-loop-index
invariant-loop-index l = record {
  storage : AreLaidOut Storage l.self l.index l.greatest;
  uniform : AreLaidOut Uniform l.self l.index l.greatest;
}
