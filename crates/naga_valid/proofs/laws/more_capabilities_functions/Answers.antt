use Rattle.naga_exprs.specs.Math.{math_typing}
use Rattle.naga_valid.proofs.MoreStages.{accepts-function-more, accepts-functions-more}
use Rattle.naga_valid.proofs.laws.more_capabilities_functions.Goals as goal

pub returns : goal.returns
returns g c =
    let less = c.args.validator.now in
    let more = c.args.more.now in
    record {
      one =
          accepts-function-more g.T.Typing.resolves (λ typing. math_typing (g.T.Typing.accepts_types typing) (g.T.Typing.least_arguments typing)) less more
          c.requires.capabilities c.requires.stages c.args.resolved c.args.module.now;
      all =
          accepts-functions-more g.T.Typing.resolves (λ typing. math_typing (g.T.Typing.accepts_types typing) (g.T.Typing.least_arguments typing)) less more
          c.requires.capabilities c.requires.stages c.args.resolved c.args.module.now;
    }
