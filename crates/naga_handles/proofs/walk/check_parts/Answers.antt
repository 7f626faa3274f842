use Rattle.std.proofs.Common.{◌∙◌, ◌<◌, rules}
use Rattle.naga_ir.specs.Parts.{parts}
use Rattle.naga_handles.proofs.PlacesBefore.{all_below, none_below, one_below}
use Rattle.naga_handles.proofs.walk.check_parts.Goals as goal

pub loop-part-init : goal.loop-part-init
loop-part-init c = none_below c.args.handle (parts c.args.inner.now) _ (c.into_iter-part-iterator.ensures.into_iter_gives ∙ c.parts-part-items.ensures)

pub loop-part-preserved : goal.loop-part-preserved
loop-part-preserved c =
    let below : c.in-Some.part < c.args.handle = search rules in
    one_below c.args.handle (parts c.args.inner.now) _ _ _ c.loop-part.invariant c.in-Some.ensures.steps below

pub returns-clause-before : goal.returns-clause-before
returns-clause-before c = all_below c.args.handle (parts c.args.inner.now) _ c.loop-part.invariant c.in-None.ensures.steps.0
