use Rattle.std.proofs.Common.{◌<◌, length, rules, arith}
use Rattle.naga_types.proofs.Columns.{column_has_room, columns_seen}
use Rattle.naga_types.proofs.info.TypeInfos.reserve_one.Goals as goal

pub returns-in_err-reserve-clause-within_room : goal.returns-in_err-reserve-clause-within_room
returns-in_err-reserve-clause-within_room c = λ l.
    let i = c.self.inside in
    let seen = columns_seen i.flags i.uniform_layouts i.storage_layouts i.immediates_compatibilities _ c.self.invariant c.self.view_is in
    let within = column_has_room _ i.flags seen.flags_seen l in
    search rules

pub returns-in_err-reserve-2-clause-within_room : goal.returns-in_err-reserve-2-clause-within_room
returns-in_err-reserve-2-clause-within_room c = λ l.
    let i = c.self.inside in
    let seen = columns_seen i.flags i.uniform_layouts i.storage_layouts i.immediates_compatibilities _ c.self.invariant c.self.view_is in
    let within = column_has_room _ i.uniform_layouts seen.uniform_seen l in
    search rules

pub returns-in_err-reserve-3-clause-within_room : goal.returns-in_err-reserve-3-clause-within_room
returns-in_err-reserve-3-clause-within_room c = λ l.
    let i = c.self.inside in
    let seen = columns_seen i.flags i.uniform_layouts i.storage_layouts i.immediates_compatibilities _ c.self.invariant c.self.view_is in
    let within = column_has_room _ i.storage_layouts seen.storage_seen l in
    search rules

pub returns-clause-reserved : goal.returns-clause-reserved
returns-clause-reserved c =
    let i = c.self.inside in
    let seen = columns_seen i.flags i.uniform_layouts i.storage_layouts i.immediates_compatibilities _ c.self.invariant c.self.view_is in
    let first : length c.args.self.now.infos < c.reserve.new.self.room = omega (arith, seen.flags_seen.long, c.in_ok-reserve.ensures.room) in
    let second : length c.args.self.now.infos < c.reserve-2.new.self.room = omega (arith, seen.uniform_seen.long, c.in_ok-reserve-2.ensures.room) in
    let third : length c.args.self.now.infos < c.reserve-3.new.self.room = omega (arith, seen.storage_seen.long, c.in_ok-reserve-3.ensures.room) in
    let fourth = seen.immediates_seen.long in
    search rules

pub returns-clause-within_room : goal.returns-clause-within_room
returns-clause-within_room c = λ l.
    let i = c.self.inside in
    let seen = columns_seen i.flags i.uniform_layouts i.storage_layouts i.immediates_compatibilities _ c.self.invariant c.self.view_is in
    c.reserve-4.ensures.within_room (omega (arith, column_has_room _ i.immediates_compatibilities seen.immediates_seen l))
