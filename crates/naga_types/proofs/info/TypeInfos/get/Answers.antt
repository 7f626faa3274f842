use Rattle.std.proofs.Common.{◌∙◌, sym, ap, slice_get, arith}
use Rattle.naga_types.specs.Infos.{Infos}
use Rattle.naga_types.proofs.Columns.{columns_seen, infos_get}
use Rattle.naga_types.proofs.info.TypeInfos.get.Goals as goal

pub index-requires : goal.index-requires
index-requires c =
    let i = c.self.inside in
    let seen = columns_seen i.flags i.uniform_layouts i.storage_layouts i.immediates_compatibilities _ c.self.invariant c.self.view_is in
    omega (arith, c.requires, seen.flags_seen.long)

pub returns : goal.returns
returns c =
    let i = c.self.inside in
    sym (ap (λ (n : Infos). slice_get n.infos c.args.handle) c.self.view_is) ∙ infos_get i.flags.items i.uniform_layouts.items i.storage_layouts.items i.immediates_compatibilities.items c.self.invariant c.args.handle _ c.index.ensures c.index-2.ensures c.index-3.ensures c.index-4.ensures
