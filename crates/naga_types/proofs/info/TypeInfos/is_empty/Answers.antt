use Rattle.std.proofs.Common.{rules}
use Rattle.naga_types.proofs.Columns.{columns_seen}
use Rattle.naga_types.proofs.info.TypeInfos.is_empty.Goals as goal

pub returns : goal.returns
returns c =
    let i = c.self.inside in
    let seen = columns_seen i.flags i.uniform_layouts i.storage_layouts i.immediates_compatibilities _ c.self.invariant c.self.view_is in
    let long = seen.flags_seen.long in
    search rules
