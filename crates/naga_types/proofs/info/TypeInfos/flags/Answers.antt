use Rattle.std.proofs.Common.{◌∙◌, sym, ap, map}
use Rattle.naga_types.specs.Infos.{Infos}
use Rattle.naga_types.specs.declared.info.TypeInfo.{TypeInfo}
use Rattle.naga_types.proofs.Columns.{infos_flags}
use Rattle.naga_types.proofs.info.TypeInfos.flags.Goals as goal

pub returns : goal.returns
returns c =
    let i = c.self.inside in
    let seen = infos_flags i.flags.items i.uniform_layouts.items i.storage_layouts.items i.immediates_compatibilities.items c.self.invariant in
    c.as_slice.ensures ∙ sym seen ∙ ap (λ (n : Infos). map (λ (info : TypeInfo). info.flags) n.infos) c.self.view_is
