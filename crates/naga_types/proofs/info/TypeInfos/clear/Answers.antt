use Rattle.std.proofs.Common.{ap, rules}
use Rattle.naga_types.specs.Infos.{Infos, infos_in}
use Rattle.naga_types.proofs.info.TypeInfos.clear.Goals as goal

pub returns : goal.returns
unfolding infos_in
returns c =
    let room = ap (λ (n : Infos). n.room) c.self.view_is in
    search rules
