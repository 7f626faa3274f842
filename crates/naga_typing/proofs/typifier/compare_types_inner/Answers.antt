use Rattle.std.proofs.Common.{refl}
use Rattle.naga_typing.proofs.Sameness.{one_handle_is_same}
use Rattle.naga_typing.specs.PlainLaws.{parts_exist}
use Rattle.naga_typing.proofs.typifier.compare_types_inner.Goals as goal

pub are_equivalent-requires-clause-left_exists : goal.are_equivalent-requires-clause-left_exists
are_equivalent-requires-clause-left_exists c = parts_exist c.args.types.now _ _ c.requires.parts_exist c.requires.lhs_exists c.inner_with-left.ensures

pub are_equivalent-requires-clause-right_exists : goal.are_equivalent-requires-clause-right_exists
are_equivalent-requires-clause-right_exists c = parts_exist c.args.types.now _ _ c.requires.parts_exist c.requires.rhs_exists c.inner_with-right.ensures

pub returns-then-are_one_handle : goal.returns-then-are_one_handle
returns-then-are_one_handle c = (λ _. one_handle_is_same c.args.types.now c.args.lhs.now c.args.rhs.now _ c.inner_with-left.ensures (c.are_one_handle.ensures.0 c.if-are_one_handle.true), λ _. refl)
