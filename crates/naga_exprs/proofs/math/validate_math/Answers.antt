use Rattle.naga_exprs.proofs.KnownOperands.{argument_typed, arguments_typed}
use Rattle.naga_exprs.proofs.math.validate_math.Goals as goal

pub type_of-first-requires-clause-known : goal.type_of-first-requires-clause-known
type_of-first-requires-clause-known g c = (arguments_typed _ _ _ _ _ _ c.requires).first

pub type_of-requires-clause-known : goal.type_of-requires-clause-known
type_of-requires-clause-known g c = argument_typed _ _ _ (arguments_typed _ _ _ _ _ _ c.requires).second c.in-Some-None-None.is-0

pub type_of-requires-in-Some-Some-None-clause-known : goal.type_of-requires-in-Some-Some-None-clause-known
type_of-requires-in-Some-Some-None-clause-known g c = argument_typed _ _ _ (arguments_typed _ _ _ _ _ _ c.requires).second c.in-Some-Some-None.is-0

pub type_of-requires-in-Some-Some-None-2-clause-known : goal.type_of-requires-in-Some-Some-None-2-clause-known
type_of-requires-in-Some-Some-None-2-clause-known g c = argument_typed _ _ _ (arguments_typed _ _ _ _ _ _ c.requires).third c.in-Some-Some-None.is-1

pub type_of-second-requires-clause-known : goal.type_of-second-requires-clause-known
type_of-second-requires-clause-known g c = argument_typed _ _ _ (arguments_typed _ _ _ _ _ _ c.requires).second c.in-Some-Some-Some.is-0

pub type_of-third-requires-clause-known : goal.type_of-third-requires-clause-known
type_of-third-requires-clause-known g c = argument_typed _ _ _ (arguments_typed _ _ _ _ _ _ c.requires).third c.in-Some-Some-Some.is-1

pub type_of-requires-in-Some-Some-Some-clause-known : goal.type_of-requires-in-Some-Some-Some-clause-known
type_of-requires-in-Some-Some-Some-clause-known g c = argument_typed _ _ _ (arguments_typed _ _ _ _ _ _ c.requires).fourth c.in-Some-Some-Some.is-2
