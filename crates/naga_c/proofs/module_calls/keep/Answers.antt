use Rattle.std.proofs.Common.{Some, ap, refl, ◌∙◌}
use Rattle.naga_c.specs.OpenModules.{opened}
use Rattle.naga_c.proofs.module_calls.keep.Goals as goal

pub returns-in-Ok : goal.returns-in-Ok
returns-in-Ok c = opened c.args.accepted (c.of.ensures ∙ ap Some c.in-Ok.ensures.ok) refl refl c.requires c.counts_of-outcome.ensures refl
