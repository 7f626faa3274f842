use Rattle.std.proofs.Common.{◌≡◌, ◌<◌, ◌≤◌, ap, ℕ, Bool, Contains, IfSome, List, Option, Some, false, get_or, length, true, refl, sym, subst, arith, ◌∙◌, rules}
use Rattle.std.proofs.lemmas.List.Elements.{All-set}
use Rattle.std.proofs.lemmas.Option.{slice_get_read}
use Rattle.naga_arena.proofs.Elements.{all_at}
use Rattle.naga_info.specs.Surroundings.{surroundings}
use Rattle.naga_info.proofs.Places.{type_exists}
use Rattle.naga_operator_exprs.proofs.Searches.{in_scope, none_in, one_more}
use Rattle.naga_info.proofs.IntegerSources.{by_itself, component_before, component_exists}
use Rattle.naga_operator_exprs.proofs.integers.Searched.+finds.Goals as goal
use Rattle.naga_info.specs.Integers.{ContainsInteger, component, itself, operand_place}
use Rattle.naga_operator_exprs.specs.Integers.{ContainsForbidden, scope_of}
use Rattle.naga_info.specs.declared.sources.Place.{Place}
use Rattle.naga_info.specs.Sources.{PlaceExists, rank}

-- what is read from a list is in it
read : (items : List ℕ) (i o : ℕ) → i < length items → o ≡ get_or items i o → Contains items o
read items i o below is = (i, below, sym is)

pub last-last-requires-clause-handles : goal.last-last-requires-clause-handles
last-last-requires-clause-handles t c = c.requires.sound.handles

pub last-last-requires-clause-in_function : goal.last-last-requires-clause-in_function
last-last-requires-clause-in_function t c = c.requires.sound.in_function

never : {b : Bool} → b ≡ false → b ≡ true → ⊥
never is isnt = cc (sym is ∙ isnt)

pub is_forbidden_itself-requires : goal.is_forbidden_itself-requires
is_forbidden_itself-requires t c = type_exists (scope_of (surroundings c.args.context)) (in_scope (surroundings c.args.context) c.requires.sound) c.last-last.result c.expression_at.result.now c.expression_at.ensures

-- a list without items has none
empty : (items : List ℕ) (o : ℕ) → length items ≡ 0 → Contains items o → ⊥
empty items o none (k, below, at) = omega (arith, none, below)

pub returns-then-is_empty-clause-found : goal.returns-then-is_empty-clause-found
returns-then-is_empty-clause-found t c =
    let s = scope_of (surroundings c.args.context) in
    let last = c.last-last.result in
    let items = c.components_at-components.result.now in
    let x = c.expression_at.result.now in
    let at = c.expression_at.ensures in
    let none : length items ≡ 0 = search rules in (
      λ h. let own = c.is_forbidden_itself.ensures.yes h in (own.0, c.last-last.ensures.source.given own.0 (itself last x own.0 at own.1), own.2),
      λ h. c.is_forbidden_itself.ensures.no (
        h.0,
        by_itself s last x h.0 (c.last-last.ensures.source.taken h.0 h.1) at (c.last-last.ensures.last x at)
            (λ ty components o is within inside. empty items o none (subst (λ (os : List ℕ). Contains os o) (sym (c.components_at-components.ensures.of_composition ty components (at ∙ ap Some is))) within)),
        h.2,
      ),
    )

pub returns-then-has-clause-found : goal.returns-then-has-clause-found
returns-then-has-clause-found t c =
    let s = scope_of (surroundings c.args.context) in
    let last = c.last-last.result in
    let noted = all_at (λ (note : Option Place). IfSome note (λ p. ContainsForbidden s c.args.forbidden p → ⊥)) c.args.self.now.noted _ (Some last) c.requires.noted (c.has.ensures.0 c.if-has.true) in
    (λ u. absurd (cc u), λ h. absurd (noted (h.0, c.last-last.ensures.source.taken h.0 h.1, h.2)))

pub loop-component-init : goal.loop-component-init
loop-component-init t c = (λ k o below. absurd (omega (arith, below)), c.requires.noted)

pub finds-requires : goal.finds-requires
finds-requires t c =
    let s = scope_of (surroundings c.args.context) in
    let last = c.last-last.result in
    let items = c.components_at-components.result.now in
    let o = c.component-item.result in
    let below : c.loop-component.component-index < length items = search rules in
    let within : Contains items o = read items c.loop-component.component-index o below c.component-item.is in
    let composed = c.components_at-components.ensures.composed o within in
    let there = c.last-last.ensures.source.exists in
    let before : rank s (operand_place last o) < rank s last = component_before s (in_scope (surroundings c.args.context) c.requires.sound) last there composed.0 items o composed.1 within in
    let not_after : rank s last ≤ rank s c.args.place = c.last-last.ensures.source.not_after in
    let under : rank s (operand_place last o) < t = omega (arith, before, not_after, c.decreases) in
    (subst (λ q. rank s q < t) (sym c.operand_place.ensures) under, (c.requires.sound, (c.requires.sources, (subst (PlaceExists s) (sym c.operand_place.ensures) (component_exists s (in_scope (surroundings c.args.context) c.requires.sound) last there composed.0 items o composed.1 within), c.loop-component.invariant.1))))

pub returns-then-finds-clause-found : goal.returns-then-finds-clause-found
returns-then-finds-clause-found t c =
    let s = scope_of (surroundings c.args.context) in
    let last = c.last-last.result in
    let items = c.components_at-components.result.now in
    let o = c.component-item.result in
    let below : c.loop-component.component-index < length items = search rules in
    let within : Contains items o = read items c.loop-component.component-index o below c.component-item.is in
    let composed = c.components_at-components.ensures.composed o within in
    let found = c.finds.ensures.found.0 c.if-finds.true in
    let here : ContainsInteger s (operand_place last o) found.0 = subst (λ q. ContainsInteger s q found.0) c.operand_place.ensures found.1 in
    (λ u. (found.0, c.last-last.ensures.source.given found.0 (component last composed.0 items o found.0 composed.1 within here), found.2), λ h. refl)

pub loop-component-preserved : goal.loop-component-preserved
loop-component-preserved t c =
    let s = scope_of (surroundings c.args.context) in
    let items = c.components_at-components.result.now in
    let i = c.loop-component.component-index in
    let o = c.component-item.result in
    let below : c.loop-component.component-index < length items = search rules in (
      one_more s c.args.forbidden c.last-last.result items i o (slice_get_read items (length items) i o refl below c.component-item.is) c.loop-component.invariant.0
          (λ h. never c.if-finds.false (c.finds.ensures.found.1 (subst (ContainsForbidden s c.args.forbidden) (sym c.operand_place.ensures) h))),
      c.finds.ensures.noted,
    )

pub returns-clause-noted : goal.returns-clause-noted
returns-clause-noted t c =
    let s = scope_of (surroundings c.args.context) in
    let items = c.components_at-components.result.now in
    let some : length items ≡ 0 → ⊥ = search rules in
    let ended : length items ≤ c.loop-component.component-index = search rules in
    All-set (λ (note : Option Place). IfSome note (λ p. ContainsForbidden s c.args.forbidden p → ⊥)) c.loop-component.self.noted c.note_of.result (Some c.last-last.result)
    (none_in s c.args.forbidden c.last-last.result items c.loop-component.component-index c.last-last.ensures.last c.components_at-components.ensures some c.loop-component.invariant.0 ended) c.loop-component.invariant.1

pub returns-clause-found : goal.returns-clause-found
returns-clause-found t c =
    let s = scope_of (surroundings c.args.context) in
    let items = c.components_at-components.result.now in
    let some : length items ≡ 0 → ⊥ = search rules in
    let ended : length items ≤ c.loop-component.component-index = search rules in
    (λ u. absurd (cc u), λ h. absurd (none_in s c.args.forbidden c.last-last.result items c.loop-component.component-index c.last-last.ensures.last c.components_at-components.ensures some c.loop-component.invariant.0 ended (h.0, c.last-last.ensures.source.taken h.0 h.1, h.2)))
