use Rattle.std.proofs.Common.{◌≡◌, ◌∙◌, Some, slice_get, ap, sym}
use Rattle.std.proofs.lemmas.Option.{same_Some, slice_get-get_or}
use Rattle.naga_ir.proofs.SameType.{type_decides}
use Rattle.naga_ir.proofs.type_paths.is_node.Goals as goal

pub returns : goal.returns
returns c =
    let found = c.index-types-node.result in
    let ty = c.args.ty.now in
    let at : slice_get c.args.types.now c.args.node ≡ Some found = slice_get-get_or c.args.types.now c.args.node found c.requires.node ∙ ap Some (sym c.index-types-node.is) in
    ((λ yes. at ∙ ap Some ((type_decides found ty).0 (sym c.eq.ensures ∙ yes))), (λ there. c.eq.ensures ∙ (type_decides found ty).1 (same_Some found ty (sym at ∙ there))))
