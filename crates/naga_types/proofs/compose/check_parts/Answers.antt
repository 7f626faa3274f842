use Rattle.std.proofs.Common.{ap, ◌∙◌}
use Rattle.naga_types.specs.Composing.{all_parts, component_count_error}
use Rattle.naga_types.specs.steps.Components.{resolutions_of}
use Rattle.naga_types.specs.Checks.{ok_unless}
use Rattle.naga_types.specs.Layouts.{saturated}
use Rattle.naga_types.proofs.ComposeLemmas.{saturated_parts}
use Rattle.naga_types.proofs.compose.check_parts.Goals as goal

pub returns : goal.returns
returns c =
    let parts = all_parts c.args.types.now (resolutions_of c.args.components.now) in
    c.check_count.ensures
    ∙ ap (λ n. ok_unless (component_count_error n c.from-2.result) tt) (c.from.ensures ∙ c.all_parts-given.ensures)
    ∙ ap (λ n. ok_unless (component_count_error (saturated parts) n) tt) (c.from-2.ensures ∙ c.components.ensures)
    ∙ ap (λ o. ok_unless o tt) (saturated_parts parts c.args.size)
