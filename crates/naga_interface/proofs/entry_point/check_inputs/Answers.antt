use Rattle.std.proofs.Common.{◌≡◌, ◌<◌, get_or, length, take, arith}
use Rattle.naga_interface.specs.EntryPoints.{argument_bindings}
use Rattle.naga_interface.specs.steps.VaryingContexts.{varyings_in}
use Rattle.naga_ir.specs.declared.ir.FunctionArgument.{FunctionArgument}
use Rattle.naga_interface.proofs.VaryingRefusals.{input_refused}
use Rattle.naga_interface.proofs.entry_point.check_inputs.Goals as goal

pub returns-in-Err : goal.returns-in-Err
returns-in-Err c =
    let s = varyings_in c.args.context in
    let arguments = c.args.arguments.now in
    let i = c.loop-index.index in
    let argument : FunctionArgument = c.index-arguments-index.result in
    let at : argument ≡ get_or arguments i argument = c.index-arguments-index.is in
    let within : i < length arguments = omega arith in
    input_refused s arguments i argument within at c.in-Err.error c.argument_error.result c.loop-index.invariant.left
    (record { memory = c.argument_error.ensures.out_of_memory; other = c.argument_error.ensures.other })
    (c.in-Err.ensures.checks (argument_bindings s.interface (take i arguments)) c.loop-index.invariant.added)
