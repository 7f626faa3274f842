use Rattle.std.proofs.Common.{sym, subst}
use Rattle.naga_ir.specs.ItemReferences.{GlobalLists, global_lists}
use Rattle.naga_query.proofs.answers.typing.add_index.Goals as goal
use Rattle.naga_typing.proofs.Existence.{named_items_exist}
use Rattle.naga_typing.specs.Constants.{NamedItemsExist}

pub get_const_val_from-index-requires-clause-named : goal.get_const_val_from-index-requires-clause-named
get_const_val_from-index-requires-clause-named c =
    let m = c.args.«module».now in
    subst (λ (l : GlobalLists). NamedItemsExist l m.global_expressions) (sym c.to_ctx.ensures.lists) (named_items_exist (global_lists m) c.requires)
