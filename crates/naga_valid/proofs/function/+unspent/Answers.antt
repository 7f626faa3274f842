use Rattle.std.proofs.Common.{rules, ◌≡◌, ◌<◌, ◌-◌, ℕ, Contains, List, get_or, length, subst, sym, arith}
use Rattle.naga_info.proofs.IntegerSources.{component_exists}
use Rattle.naga_info.specs.Integers.{scope_in}
use Rattle.naga_info.specs.Sources.{PlaceExists}
use Rattle.naga_valid.proofs.function.+unspent.Goals as goal

-- what is read from a list is in it
read : (items : List ℕ) (i o : ℕ) → i < length items → o ≡ get_or items i o → Contains items o
read items i o below is = (i, below, sym is)

pub loop-next-preserved : goal.loop-next-preserved
loop-next-preserved t c = c.in-Some.ensures.source.exists

pub unspent-left-requires : goal.unspent-left-requires
unspent-left-requires t c =
    let s = scope_in c.args.«module».now c.args.function.now in
    let last = c.loop-next.last in
    let items = c.components_at-component-items.result.now in
    let o = c.component-item.result in
    let below : c.loop-component.component-index < length items = search rules in
    let within : Contains items o = read items c.loop-component.component-index o below c.component-item.is in
    let composed = c.components_at-component-items.ensures.composed o within in
    let under : c.args.nested - 1 < t = omega (arith, c.decreases, c.if-nested-eq0.false) in (
      under,
      (
        c.requires.handles,
        (
          c.requires.in_function,
          subst (PlaceExists s) (sym c.operand_place-place.ensures)
              (component_exists s (record { handles = c.requires.handles; in_function = c.requires.in_function }) last c.loop-next.invariant composed.0 items o composed.1 within),
        ),
      ),
    )
