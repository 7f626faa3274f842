use Rattle.std.proofs.Common.{rules, ◌≡◌}
use Rattle.naga_ir.proofs.SameInner.{inner_decides}
use Rattle.naga_typing.specs.Resolutions.{canonical}
use Rattle.naga_typing.proofs.typifier.are_equivalent.Goals as goal

pub returns : goal.returns
returns c =
    let left : canonical c.args.types.now c.args.left.now ≡ c.args.left.now = c.is_pointer.ensures c.if-is_pointer.false c.args.types.now in
    let right : canonical c.args.types.now c.args.right.now ≡ c.args.right.now = c.is_pointer-else-is_pointer.ensures c.if-is_pointer-2.false c.args.types.now in
    let equal = inner_decides c.args.left.now c.args.right.now in
    rw left (rw right (search (rules, equal)))
