use Rattle.naga_ir.specs.Handles.{FunctionReferencesOk}
use Rattle.naga_query.proofs.Functions.{function_ok}
use Rattle.naga_query.proofs.answers.typing.add_type_of_last.Goals as goal

pub resolve_last-requires-clause-in_function : goal.resolve_last-requires-clause-in_function
resolve_last-requires-clause-in_function c =
    let m = c.args.draft.now.«module» in
    let at = c.in-Some.at in
    let ok : FunctionReferencesOk m at.function.now = function_ok m at.function.now at.preceding c.requires.handles c.in-Some.ensures in
    ok.in_expressions
