use Rattle.std.proofs.Common.{◌≡◌, ◌+◌, min, sym, ap, ◌∙◌}
use Rattle.naga_arena.specs.Numbers.{largest_u32}
use Rattle.naga_types.specs.Composing.{parts_in}
use Rattle.naga_types.specs.steps.Components.{resolutions_of}
use Rattle.naga_types.proofs.ComposeLemmas.{component_exists, parts_more}
use Rattle.naga_types.proofs.compose.all_parts.Goals as goal
use Rattle.naga_typing.specs.Resolutions.{inner_in}

pub inner_with-inner-requires : goal.inner_with-inner-requires
inner_with-inner-requires c = component_exists c.args.types.now c.args.components.now c.loop-index.index c.get.result.now c.requires.components c.get.ensures

pub loop-index-preserved : goal.loop-index-preserved
loop-index-preserved c =
    let types = c.args.types.now in
    let parts : c.from.result ≡ parts_in (inner_in types c.get.result.now) = c.from.ensures ∙ c.parts_in.ensures ∙ ap parts_in (sym c.inner_with-inner.ensures) in
    c.saturating_add-total.ensures
    ∙ ap (λ n. min (c.loop-index.total + n) largest_u32) parts
    ∙ parts_more types (resolutions_of c.args.components.now) c.loop-index.index c.loop-index.total c.get.result.now c.get.ensures c.loop-index.invariant
