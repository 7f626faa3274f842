use Rattle.naga_typing.specs.Context.{lists_of}
use Rattle.naga_typing.proofs.Existence.{sizing_override_exists}
use Rattle.naga_typing.proofs.index.indexable_length_resolved.Goals as goal

pub override_count-requires-clause-exists : goal.override_count-requires-clause-exists
override_count-requires-clause-exists c = sizing_override_exists (lists_of c.to_ctx-gctx.result) _ _ _ c.pointed_form.ensures.exist c.in-Array.is c.in-Pending.is
