use Rattle.naga_valid.proofs.MoreDeclarations.{declarations-more}
use Rattle.naga_valid.proofs.laws.more_capabilities_variables.Goals as goal

pub returns : goal.returns
returns g c = declarations-more c.args.validator.now c.args.more.now c.args.module.now c.requires.capabilities c.requires.infos
