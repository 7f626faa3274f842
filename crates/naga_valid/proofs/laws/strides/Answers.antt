use Rattle.naga_valid.proofs.Strides.{accepts-strides}
use Rattle.naga_valid.specs.State.{settings_of}
use Rattle.naga_valid.proofs.laws.strides.Goals as goal

pub returns : goal.returns
returns g c = accepts-strides (g.T.Typing.resolves c.args.validator.now.typing) c.args.module.now (settings_of c.args.validator.now c.args.resolved)
