use Rattle.naga_ir.proofs.ReferencesOfItems.{operands_go_back}
use Rattle.naga_ir.specs.Handles.{FunctionReferencesOk}
use Rattle.naga_ir.specs.ItemReferences.{global_lists}
use Rattle.naga_query.proofs.Functions.{function_ok}
use Rattle.naga_query.proofs.answers.typing.expressions_of.Goals as goal

pub returns-in-Some : goal.returns-in-Some
returns-in-Some c =
    let m = c.args.draft.now.«module» in
    let at = c.in-Some.at in
    let ok : FunctionReferencesOk m at.function.now = function_ok m at.function.now at.preceding c.requires.handles c.in-Some.ensures in
    ok.in_expressions.back

pub returns-in-None : goal.returns-in-None
returns-in-None c = operands_go_back (global_lists c.args.draft.now.«module») c.requires.references
