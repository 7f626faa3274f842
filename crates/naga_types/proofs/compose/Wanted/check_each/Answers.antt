use Rattle.std.proofs.Common.{◌≡◌, true, false, sym, ap, ◌∙◌}
use Rattle.std.specs.Prelude.{Err}
use Rattle.naga_types.specs.steps.Components.{fits, resolutions_of}
use Rattle.naga_types.specs.Checks.{ok_unless}
use Rattle.naga_types.specs.declared.error.ComposeError.TheVariants.{ComponentType}
use Rattle.naga_types.proofs.ComposeLemmas.{component_exists, one_fits, one_misfits}
use Rattle.naga_types.proofs.compose.Wanted.check_each.Goals as goal

pub fits-requires-clause-component : goal.fits-requires-clause-component
fits-requires-clause-component c = component_exists c.args.types.now c.args.components.now c.loop-index.index c.get.result.now c.requires.components c.get.ensures

pub returns-then-not-fits : goal.returns-then-not-fits
returns-then-not-fits c =
    let wanted = fits c.args.types.now c.args.self.now in
    let given = resolutions_of c.args.components.now in
    let fails : wanted (c.loop-index.index, c.get.result.now) ≡ false = sym c.fits.ensures ∙ c.if-not-fits.true in
    ap (λ n. Err (ComponentType n)) c.saturated.ensures
    ∙ sym (ap (λ o. ok_unless o tt) (one_misfits wanted given c.loop-index.index c.get.result.now c.get.ensures c.loop-index.invariant fails))

pub loop-index-preserved : goal.loop-index-preserved
loop-index-preserved c =
    let wanted = fits c.args.types.now c.args.self.now in
    let given = resolutions_of c.args.components.now in
    let passes : wanted (c.loop-index.index, c.get.result.now) ≡ true = sym c.fits.ensures ∙ c.if-not-fits.false in
    one_fits wanted given c.loop-index.index c.get.result.now c.get.ensures c.loop-index.invariant passes
