use Rattle.std.proofs.Common.{Some, ap, ◌∙◌}
use Rattle.naga_typing.specs.Context.{lists_of}
use Rattle.naga_typing.proofs.Existence.{global_type_exists, initialiser_exists, named_constant_exists, named_type_exists}
use Rattle.naga_typing.proofs.context.get_const_val_from.Goals as goal

pub index-requires : goal.index-requires
index-requires c =
    named_constant_exists (lists_of c.args.gctx) c.args.expressions.now c.requires.named c.args.handle c.in-Constant.constant (c.index-expression.ensures ∙ ap Some c.in-Constant.is)

pub index-requires-in-Constant : goal.index-requires-in-Constant
index-requires-in-Constant c = initialiser_exists (lists_of c.args.gctx) c.requires.references _ _ c.index.ensures

pub unnamed_index-requires : goal.unnamed_index-requires
unnamed_index-requires c = global_type_exists (lists_of c.args.gctx) c.requires.references _ _ c.index-in-Constant.ensures

pub unnamed_index-requires-2 : goal.unnamed_index-requires-2
unnamed_index-requires-2 c = named_type_exists (lists_of c.args.gctx) c.args.expressions.now c.requires.named _ _ c.index-expression.ensures
