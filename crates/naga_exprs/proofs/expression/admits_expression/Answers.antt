use Rattle.std.proofs.Common.{◌<◌, All, List, length, subst, sym, ℕ}
use Rattle.naga_exprs.proofs.KnownOperands.{components_typed, composed_type, condition_of_select, index_of_access, of_load, ready_as, reject_of_select, there, typed, zero_type}
use Rattle.naga_exprs.proofs.expression.admits_expression.Goals as goal
use Rattle.naga_info.specs.Surroundings.{surroundings}
use Rattle.naga_typing.proofs.FormOperands.{accepted_of_select, left_of_binary, of_access, of_access_index, of_as, of_splat, of_swizzle, of_unary, right_of_binary}

pub admits_access-requires-clause-base : goal.admits_access-requires-clause-base
admits_access-requires-clause-base g c = typed (surroundings c.args.context) c.requires.ready.0 c.args.expression.now c.requires.ready.1 _ (of_access c.args.expression.now c.in-Access.base c.in-Access.index c.in-Access.is)

pub admits_access-requires-clause-index : goal.admits_access-requires-clause-index
admits_access-requires-clause-index g c = typed (surroundings c.args.context) c.requires.ready.0 c.args.expression.now c.requires.ready.1 _ (index_of_access c.args.expression.now c.in-Access.base c.in-Access.index c.in-Access.is)

pub admits_access-requires-clause-exists : goal.admits_access-requires-clause-exists
admits_access-requires-clause-exists g c = there (surroundings c.args.context) c.requires.ready.0 c.args.expression.now c.requires.ready.1 _ (index_of_access c.args.expression.now c.in-Access.base c.in-Access.index c.in-Access.is)

pub admits_access_index-requires-clause-base : goal.admits_access_index-requires-clause-base
admits_access_index-requires-clause-base g c = typed (surroundings c.args.context) c.requires.ready.0 c.args.expression.now c.requires.ready.1 _ (of_access_index c.args.expression.now c.in-AccessIndex.base c.in-AccessIndex.index c.in-AccessIndex.is)

pub admits_splat-requires-clause-value : goal.admits_splat-requires-clause-value
admits_splat-requires-clause-value g c = typed (surroundings c.args.context) c.requires.ready.0 c.args.expression.now c.requires.ready.1 _ (of_splat c.args.expression.now c.in-Splat.size c.in-Splat.value c.in-Splat.is)

pub admits_swizzle-requires-clause-vector : goal.admits_swizzle-requires-clause-vector
admits_swizzle-requires-clause-vector g c = typed (surroundings c.args.context) c.requires.ready.0 c.args.expression.now c.requires.ready.1 _ (of_swizzle c.args.expression.now c.in-Swizzle.size c.in-Swizzle.vector c.in-Swizzle.pattern c.in-Swizzle.is)

pub admits_load-requires-clause-pointer : goal.admits_load-requires-clause-pointer
admits_load-requires-clause-pointer g c = typed (surroundings c.args.context) c.requires.ready.0 c.args.expression.now c.requires.ready.1 _ (of_load c.args.expression.now c.in-Load.pointer c.in-Load.is)

pub admits_unary-requires-clause-expr : goal.admits_unary-requires-clause-expr
admits_unary-requires-clause-expr g c = typed (surroundings c.args.context) c.requires.ready.0 c.args.expression.now c.requires.ready.1 _ (of_unary c.args.expression.now c.in-Unary.op c.in-Unary.expr c.in-Unary.is)

pub admits_binary-requires-clause-left : goal.admits_binary-requires-clause-left
admits_binary-requires-clause-left g c = typed (surroundings c.args.context) c.requires.ready.0 c.args.expression.now c.requires.ready.1 _ (left_of_binary c.args.expression.now c.in-Binary.op c.in-Binary.left c.in-Binary.right c.in-Binary.is)

pub admits_binary-requires-clause-right : goal.admits_binary-requires-clause-right
admits_binary-requires-clause-right g c = typed (surroundings c.args.context) c.requires.ready.0 c.args.expression.now c.requires.ready.1 _ (right_of_binary c.args.expression.now c.in-Binary.op c.in-Binary.left c.in-Binary.right c.in-Binary.is)

pub admits_binary-requires-clause-exists : goal.admits_binary-requires-clause-exists
admits_binary-requires-clause-exists g c = there (surroundings c.args.context) c.requires.ready.0 c.args.expression.now c.requires.ready.1 _ (right_of_binary c.args.expression.now c.in-Binary.op c.in-Binary.left c.in-Binary.right c.in-Binary.is)

pub admits_select-requires-clause-condition : goal.admits_select-requires-clause-condition
admits_select-requires-clause-condition g c = typed (surroundings c.args.context) c.requires.ready.0 c.args.expression.now c.requires.ready.1 _ (condition_of_select c.args.expression.now c.in-Select.condition c.in-Select.accept c.in-Select.reject c.in-Select.is)

pub admits_select-requires-clause-accept : goal.admits_select-requires-clause-accept
admits_select-requires-clause-accept g c = typed (surroundings c.args.context) c.requires.ready.0 c.args.expression.now c.requires.ready.1 _ (accepted_of_select c.args.expression.now c.in-Select.condition c.in-Select.accept c.in-Select.reject c.in-Select.is)

pub admits_select-requires-clause-reject : goal.admits_select-requires-clause-reject
admits_select-requires-clause-reject g c = typed (surroundings c.args.context) c.requires.ready.0 c.args.expression.now c.requires.ready.1 _ (reject_of_select c.args.expression.now c.in-Select.condition c.in-Select.accept c.in-Select.reject c.in-Select.is)

pub admits_as-requires-clause-expr : goal.admits_as-requires-clause-expr
admits_as-requires-clause-expr g c = typed (surroundings c.args.context) c.requires.ready.0 c.args.expression.now c.requires.ready.1 _ (of_as c.args.expression.now c.in-As.expr c.in-As.kind c.in-As.convert c.in-As.is)

pub admits_zero_value-requires-clause-exists : goal.admits_zero_value-requires-clause-exists
admits_zero_value-requires-clause-exists g c = zero_type (surroundings c.args.context) c.requires.ready.0 c.args.expression.now c.requires.ready.1 c.in-ZeroValue.ty c.in-ZeroValue.is

pub admits_composition-requires-clause-exists : goal.admits_composition-requires-clause-exists
admits_composition-requires-clause-exists g c = composed_type (surroundings c.args.context) c.requires.ready.0 c.args.expression.now c.requires.ready.1 c.in-Compose.ty c.in-Compose.components c.in-Compose.is

pub admits_composition-requires-clause-components :
    goal.admits_composition-requires-clause-components
admits_composition-requires-clause-components g c =
    let bound = length c.args.context.info.now.types in
    subst (λ (os : List ℕ). All (λ o. o < bound) os) (sym c.as_slice.ensures)
    (components_typed (surroundings c.args.context) c.requires.ready.0 c.args.expression.now c.requires.ready.1 c.in-Compose.ty c.in-Compose.components c.in-Compose.is)

pub admits_math-requires : goal.admits_math-requires
admits_math-requires g c = ready_as _ _ _ c.in-Math.is c.requires.ready
