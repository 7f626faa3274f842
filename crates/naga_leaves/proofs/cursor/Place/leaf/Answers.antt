use Rattle.std.proofs.Common.{◌≡◌, ◌+◌, ℕ, Option, Some, sym, ap, ◌∙◌, arith}
use Rattle.std.specs.Option.{option_map}
use Rattle.naga_leaves.proofs.Path.{begins_at_none, leaf_of_nothing}
use Rattle.naga_leaves.specs.Leaf.{bytes_of}
use Rattle.naga_typing.specs.Context.{lists_of}
use Rattle.naga_typing.specs.Leaves.{LeafBytes, moved}
use Rattle.naga_leaves.proofs.cursor.Place.leaf.Goals as goal

pub returns-in_err-leaf-clause-leaf : goal.returns-in_err-leaf-clause-leaf
returns-in_err-leaf-clause-leaf c e =
    ap (option_map bytes_of) c.from_residual.ensures
    ∙ sym (ap (option_map (moved c.args.self.now.part.first)) (leaf_of_nothing (lists_of c.args.gctx.now) e c.args.self.now.part.ty _ c.index.ensures ∙ sym (c.in_err-leaf.ensures (lists_of c.args.gctx.now))))

pub returns-clause-leaf : goal.returns-clause-leaf
returns-clause-leaf c e =
    let begins : c.in_ok-leaf.leaf.first ≡ 0 = begins_at_none _ _ (bytes_of c.in_ok-leaf.leaf) (sym (c.in_ok-leaf.ensures (lists_of c.args.gctx.now))) in
    let sum : c.args.self.now.part.first + c.in_ok-leaf.leaf.first ≡ c.args.self.now.part.first = omega arith in
    sym (ap (option_map (moved c.args.self.now.part.first)) (leaf_of_nothing (lists_of c.args.gctx.now) e c.args.self.now.part.ty _ c.index.ensures ∙ sym (c.in_ok-leaf.ensures (lists_of c.args.gctx.now)))
    ∙ ap (λ (first : ℕ). let leaf : Option LeafBytes = Some (record { first = first; size = c.in_ok-leaf.leaf.size; alignment = c.in_ok-leaf.leaf.alignment }) in leaf) sum)
