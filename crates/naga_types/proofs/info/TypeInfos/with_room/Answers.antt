use Rattle.std.proofs.Common.{rules}
use Rattle.naga_types.specs.Infos.{infos_in}
use Rattle.naga_types.proofs.info.TypeInfos.with_room.Goals as goal

pub returns-clause-infos : goal.returns-clause-infos
unfolding infos_in
returns-clause-infos c = search rules
