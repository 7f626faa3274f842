use Rattle.std.proofs.Common.{rules, ◌≡◌, Some}
use Rattle.naga_typing.specs.Context.{lists_of}
use Rattle.naga_typing.proofs.Existence.{named_items_exist, override_initialiser_exists}
use Rattle.naga_typing.proofs.type_methods.override_count.Goals as goal

pub get_const_val_from-requires-clause-exists : goal.get_const_val_from-requires-clause-exists
get_const_val_from-requires-clause-exists c =
    let begins : c.index.result.now.init ≡ Some c.in_ok-init.init = search rules in
    override_initialiser_exists (lists_of c.args.gctx) c.requires.references _ _ _ c.index.ensures begins

pub get_const_val_from-requires-clause-named : goal.get_const_val_from-requires-clause-named
get_const_val_from-requires-clause-named c = named_items_exist (lists_of c.args.gctx) c.requires.references
