use Rattle.std.proofs.Common.{subst, sym}
use Rattle.naga_ir.specs.ItemReferences.{GlobalLists, global_lists}
use Rattle.naga_cli.proofs.layout.slots_of.Goals as goal
use Rattle.naga_typing.proofs.Existence.{references_exist}
use Rattle.naga_typing.specs.Context.{ReferencesExist}

pub from_type-requires-clause-exist : goal.from_type-requires-clause-exist
from_type-requires-clause-exist c =
    let m = c.args.«module».now in
    let inner = c.index.result.now.inner in
    let exist : ReferencesExist (global_lists m) inner = references_exist (global_lists m) c.requires.references _ _ c.index.ensures in
    subst (λ (lists : GlobalLists). ReferencesExist (record lists { types = m.types }) inner) (sym c.to_ctx-gctx.ensures.lists) exist
