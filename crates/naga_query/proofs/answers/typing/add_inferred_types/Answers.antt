use Rattle.naga_query.proofs.Functions.{function_ok}
use Rattle.naga_query.proofs.answers.typing.add_inferred_types.Goals as goal

pub add_inferred-requires-clause-in_function : goal.add_inferred-requires-clause-in_function
add_inferred-requires-clause-in_function c =
    let at = c.in-Some-function_of.at in
    function_ok c.args.«module».now at.function.now at.preceding c.requires.handles c.in-Some-function_of.ensures

pub add_inferred-requires-then-equals-2-clause-in_function : goal.add_inferred-requires-then-equals-2-clause-in_function
add_inferred-requires-then-equals-2-clause-in_function c =
    let at = c.in-Some-function_of.at in
    function_ok c.args.«module».now at.function.now at.preceding c.requires.handles c.in-Some-function_of.ensures
