use Rattle.naga_valid.proofs.MoreCapabilities.{accepts-more, accepts-same}
use Rattle.naga_valid.proofs.MoreStages.{stages-more}
use Rattle.naga_valid.proofs.laws.more_capabilities.Goals as goal

pub returns : goal.returns
returns g c =
    let m = c.args.module.now in
    record {
      accepted = accepts-more g.T.Typing.resolves m c.args.resolved _ _ c.requires;
      same = accepts-same g.T.Typing.resolves m c.args.resolved _ _ c.requires;
      stages = stages-more _ _ c.requires.capabilities;
    }
