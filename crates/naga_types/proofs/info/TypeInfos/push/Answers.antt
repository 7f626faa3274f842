use Rattle.std.proofs.Common.{◌≡◌, ◌∙◌, ◌++◌, ◌∷◌, [], List, sym, ap, length, rules, subst, ◌<◌}
use Rattle.naga_types.specs.Infos.{Infos, infos_in}
use Rattle.naga_types.specs.declared.info.TypeInfo.{TypeInfo}
use Rattle.naga_types.proofs.Columns.{column_has_room, columns_seen, infos_push}
use Rattle.naga_types.proofs.info.TypeInfos.push.Goals as goal

pub push_reserved-requires : goal.push_reserved-requires
push_reserved-requires c =
    let i = c.self.inside in
    let seen = columns_seen i.flags i.uniform_layouts i.storage_layouts i.immediates_compatibilities _ c.self.invariant c.self.view_is in
    let below = subst (λ (xs : List TypeInfo). length xs < c.reserve_one.new.self.room) (sym c.in_ok-reserve_one.ensures.infos) c.in_ok-reserve_one.ensures.reserved in
    column_has_room _ i.flags seen.flags_seen below

pub push_reserved-requires-2 : goal.push_reserved-requires-2
push_reserved-requires-2 c =
    let i = c.self.inside in
    let seen = columns_seen i.flags i.uniform_layouts i.storage_layouts i.immediates_compatibilities _ c.self.invariant c.self.view_is in
    let below = subst (λ (xs : List TypeInfo). length xs < c.reserve_one.new.self.room) (sym c.in_ok-reserve_one.ensures.infos) c.in_ok-reserve_one.ensures.reserved in
    column_has_room _ i.uniform_layouts seen.uniform_seen below

pub push_reserved-requires-3 : goal.push_reserved-requires-3
push_reserved-requires-3 c =
    let i = c.self.inside in
    let seen = columns_seen i.flags i.uniform_layouts i.storage_layouts i.immediates_compatibilities _ c.self.invariant c.self.view_is in
    let below = subst (λ (xs : List TypeInfo). length xs < c.reserve_one.new.self.room) (sym c.in_ok-reserve_one.ensures.infos) c.in_ok-reserve_one.ensures.reserved in
    column_has_room _ i.storage_layouts seen.storage_seen below

pub push_reserved-requires-4 : goal.push_reserved-requires-4
push_reserved-requires-4 c =
    let i = c.self.inside in
    let seen = columns_seen i.flags i.uniform_layouts i.storage_layouts i.immediates_compatibilities _ c.self.invariant c.self.view_is in
    let below = subst (λ (xs : List TypeInfo). length xs < c.reserve_one.new.self.room) (sym c.in_ok-reserve_one.ensures.infos) c.in_ok-reserve_one.ensures.reserved in
    column_has_room _ i.immediates_compatibilities seen.immediates_seen below

pub returns-clause-pushed : goal.returns-clause-pushed
returns-clause-pushed c =
    let i = c.self.inside in
    let x = c.args.info in
    let flags : c.push_reserved.new.self.items ≡ i.flags.items ++ x.flags ∷ [] = search rules in
    let uniform : c.push_reserved-2.new.self.items ≡ i.uniform_layouts.items ++ x.uniform_layout ∷ [] = search rules in
    let storage : c.push_reserved-3.new.self.items ≡ i.storage_layouts.items ++ x.storage_layout ∷ [] = search rules in
    let immediates : c.push_reserved-4.new.self.items ≡ i.immediates_compatibilities.items ++ x.immediates_compatibility ∷ [] = search rules in
    ap (λ xs. infos_in xs c.push_reserved-2.new.self.items c.push_reserved-3.new.self.items c.push_reserved-4.new.self.items) flags ∙ ap (λ xs. infos_in (i.flags.items ++ x.flags ∷ []) xs c.push_reserved-3.new.self.items c.push_reserved-4.new.self.items) uniform
    ∙ ap (λ xs. infos_in (i.flags.items ++ x.flags ∷ []) (i.uniform_layouts.items ++ x.uniform_layout ∷ []) xs c.push_reserved-4.new.self.items) storage
    ∙ ap (infos_in (i.flags.items ++ x.flags ∷ []) (i.uniform_layouts.items ++ x.uniform_layout ∷ []) (i.storage_layouts.items ++ x.storage_layout ∷ [])) immediates
    ∙ infos_push i.flags.items i.uniform_layouts.items i.storage_layouts.items i.immediates_compatibilities.items c.self.invariant x
    ∙ ap (λ (xs : List TypeInfo). xs ++ x ∷ []) (ap (λ (n : Infos). n.infos) c.self.view_is ∙ c.in_ok-reserve_one.ensures.infos)
