use Rattle.naga_query.proofs.Validation.{ready_either}
use Rattle.naga_valid.specs.Functions.{surroundings_under}
use Rattle.naga_query.proofs.answers.functions.validate_at.Goals as goal

pub validate_expression-requires : goal.validate_expression-requires
validate_expression-requires c =
    let w = c.args.with in
    let r = c.requires in
    let s = surroundings_under w.validator.now w.resolved w.«module».now w.function.now w.info.now.lists c.args.types.now.types w.kinds.now in
    record { ready = ready_either s c.args.place r.known r.before c.args.expression.now r.there }
