use Rattle.std.proofs.Common.{◌≡◌, ◌<◌, Option, ap, get_or, length, sym, arith}
use Rattle.naga_interface.specs.Functions.{argument_error}
use Rattle.naga_interface.specs.Surroundings.{surroundings}
use Rattle.naga_interface.specs.declared.error.FunctionDeclarationError.{FunctionDeclarationError}
use Rattle.naga_ir.specs.declared.ir.FunctionArgument.{FunctionArgument}
use Rattle.naga_interface.proofs.Conditions.{broken, unless}
use Rattle.naga_interface.proofs.FirstErrors.{refused}
use Rattle.naga_interface.proofs.function.check_arguments.Goals as goal

pub returns-in-Err : goal.returns-in-Err
returns-in-Err c =
    let error_of = argument_error (surroundings c.args.ctx) c.args.is_entry_point in
    let arguments = c.args.arguments.now in
    let i = c.loop-index.index in
    let argument : FunctionArgument = c.index-arguments-index.result in
    let at : argument ≡ get_or arguments i argument = c.index-arguments-index.is in
    let within : i < length arguments = omega arith in
    let error = c.in-Err.error in
    let here = broken (error_of (i, argument)) error c.in-Err.ensures in
    sym (ap (λ (o : Option FunctionDeclarationError). unless o) (refused error_of arguments i argument within at c.loop-index.invariant error here))
