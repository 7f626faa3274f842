use Rattle.std.proofs.Common.{Contains, length, ◌<◌}
use Rattle.std.proofs.lemmas.List.Elements.{All-contains_itself}
use Rattle.naga_image_exprs.proofs.KnownOperands.{known_of_query, looked_up}
use Rattle.naga_image_exprs.proofs.query.validate_image_query.Goals as goal
use Rattle.naga_ir.specs.References.{operands}
use Rattle.naga_ir.specs.declared.expression.Expression.{Expression}
use Rattle.naga_ir.specs.declared.expression.Expression.TheVariants.{ImageQuery}
use Rattle.naga_info.specs.Surroundings.{surroundings}

pub image_at-requires-clause-known : goal.image_at-requires-clause-known
image_at-requires-clause-known c =
    let x : Expression = ImageQuery c.args.image c.args.query in
    looked_up (surroundings c.args.context) c.requires.0 x c.args.image c.requires.1 (known_of_query (Contains (operands x)) c.args.image c.args.query (All-contains_itself (operands x))).0

pub check_query-requires-clause-known : goal.check_query-requires-clause-known
check_query-requires-clause-known c = (known_of_query (λ e. e < length c.args.context.info.now.types) c.args.image c.args.query c.requires.1.typed).1
