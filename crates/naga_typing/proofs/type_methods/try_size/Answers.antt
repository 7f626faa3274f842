use Rattle.naga_typing.specs.Context.{lists_of}
use Rattle.naga_typing.proofs.Existence.{array_override_exists}
use Rattle.naga_typing.proofs.type_methods.try_size.Goals as goal

pub array_size-requires-clause-exists : goal.array_size-requires-clause-exists
array_size-requires-clause-exists c = array_override_exists (lists_of c.args.gctx) _ _ _ _ c.requires.exist c.in-Array.is
