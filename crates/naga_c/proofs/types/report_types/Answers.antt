use Rattle.naga_c.specs.Types.{accepted}
use Rattle.naga_c.proofs.types.report_types.Goals as goal

pub returns : goal.returns
returns c = accepted c.args.accepted.now.validator.infos c.requires.lists c.requires.accepted c.report_rows.ensures
