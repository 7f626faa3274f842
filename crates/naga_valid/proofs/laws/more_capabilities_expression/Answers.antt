use Rattle.naga_exprs.proofs.MoreCapabilities.{expression-more}
use Rattle.naga_exprs.specs.Math.{math_typing}
use Rattle.naga_valid.proofs.laws.more_capabilities_expression.Goals as goal

pub returns : goal.returns
returns g c =
    let typing = c.args.typing.now in
    expression-more (math_typing (g.T.Typing.accepts_types typing) (g.T.Typing.least_arguments typing)) _ _ c.requires c.args.expression.now
