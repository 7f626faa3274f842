use Rattle.std.proofs.Common.{sym}
use Rattle.naga_query.proofs.answers.functions.type_of.Goals as goal
use Rattle.naga_ir.specs.ItemReferences.{global_lists}
use Rattle.naga_typing.specs.PlainLaws.{of_scalar, plain_lawful}

pub returns-in-Ok-clause-exists : goal.returns-in-Ok-clause-exists
returns-in-Ok-clause-exists c = plain_lawful.exist c.args.module.now c.args.expression.now c.args.earlier.now _ c.requires.can_resolve (sym c.in-Ok.ensures)

pub returns-in-Ok-clause-proper : goal.returns-in-Ok-clause-proper
returns-in-Ok-clause-proper c = plain_lawful.proper c.args.module.now c.args.expression.now c.args.earlier.now _ c.requires.can_resolve (sym c.in-Ok.ensures)

pub returns-in-Err : goal.returns-in-Err
returns-in-Err c =
    let bool = of_scalar (global_lists c.args.module.now) _ in
    record { exists = bool.0; proper = bool.1 }
