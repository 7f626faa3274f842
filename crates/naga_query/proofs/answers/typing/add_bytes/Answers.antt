use Rattle.std.proofs.Common.{subst, sym}
use Rattle.naga_ir.specs.ItemReferences.{GlobalLists}
use Rattle.naga_query.proofs.answers.typing.add_bytes.Goals as goal
use Rattle.naga_typing.specs.Context.{ReferencesExist}

pub try_size-requires-clause-exist : goal.try_size-requires-clause-exist
try_size-requires-clause-exist c = subst (λ (l : GlobalLists). ReferencesExist l c.args.inner.now) (sym c.to_ctx.ensures.lists) c.requires.exist

pub size-unchecked-requires-clause-exist : goal.size-unchecked-requires-clause-exist
size-unchecked-requires-clause-exist c = subst (λ (l : GlobalLists). ReferencesExist l c.args.inner.now) (sym c.to_ctx-2.ensures.lists) c.requires.exist
