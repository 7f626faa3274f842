use Rattle.std.proofs.Common.{rules, ◌≡◌}
use Rattle.naga_ir.proofs.SameInner.{inner_decides}
use Rattle.naga_typing.specs.Resolutions.{canonical}
use Rattle.naga_typing.proofs.typifier.are_equivalent_pointers.Goals as goal

pub returns : goal.returns
returns c =
    let left : c.unwrap_or.result.now ≡ canonical c.args.types.now c.args.left.now = search rules in
    let right : c.unwrap_or-2.result.now ≡ canonical c.args.types.now c.args.right.now = search rules in
    let equal = inner_decides c.unwrap_or.result.now c.unwrap_or-2.result.now in
    search (rules, equal)
