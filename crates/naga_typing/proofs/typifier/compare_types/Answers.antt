use Rattle.naga_typing.proofs.Sameness.{same_types}
use Rattle.naga_typing.proofs.typifier.compare_types.Goals as goal

pub returns-clause-decision : goal.returns-clause-decision
returns-clause-decision c = same_types c.args.types.now c.args.lhs.now c.args.rhs.now _ c.compare_types_inner.ensures
