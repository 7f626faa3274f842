use Rattle.std.proofs.Common.{◌≡◌, ◌∙◌, ◌+◌, ℕ, zero, suc, Some, length, slice_get, ap, sym, subst, true≢false, arith}
use Rattle.std.proofs.lemmas.Option.{slice_get-get_or}
use Rattle.naga_ir.specs.steps.TypePaths.{Leads, link_of}
use Rattle.naga_ir.proofs.TypePaths.{ends_here, goes_on}
use Rattle.naga_ir.proofs.type_paths.find.Goals as goal

pub is_node-requires-clause-node : goal.is_node-requires-clause-node
is_node-requires-clause-node c = (c.requires.links.1 c.loop-node.link c.in-Some.node c.in-Some.ensures).0

pub returns-clause-absent : goal.returns-clause-absent
returns-clause-absent c contains =
    let ty = c.args.ty.now in
    let at : slice_get c.args.types.now contains.0 ≡ Some ty = slice_get-get_or c.args.types.now contains.0 ty contains.1 ∙ ap Some contains.2 in
    let rest = c.loop-node.invariant.rest contains.0 at in
    ends_here c.args.links.now ty c.loop-node.depth c.loop-node.bits c.loop-node.link rest.0 contains.0 c.in_default.ensures rest.1

pub returns-clause-link : goal.returns-clause-link
returns-clause-link c = (c.in_default.ensures, λ more keeps at. c.loop-node.invariant.back more keeps zero (length c.args.types.now) at)

pub loop-node-smaller : goal.loop-node-smaller
loop-node-smaller c =
    let on = c.requires.links.1 c.loop-node.link c.in-Some.node c.in-Some.ensures in
    omega (arith, on.0, on.1, c.loop-node.invariant.within)

pub loop-node-preserved : goal.loop-node-preserved
loop-node-preserved c =
    let links = c.args.links.now in
    let ty = c.args.ty.now in
    let depth = c.loop-node.depth in
    let bits = c.loop-node.bits in
    let link = c.loop-node.link in
    let node = c.in-Some.node in
    let on = c.requires.links.1 link node c.in-Some.ensures in
    let apart = λ (k : ℕ) (there : slice_get c.args.types.now k ≡ Some ty) (here : node ≡ k).
    true≢false (sym (c.is_node.ensures.1 (ap (slice_get c.args.types.now) here ∙ there)) ∙ c.if-is_node.false) in record {
      within = omega (arith, on.0);
      depth = omega (arith, on.1, c.loop-node.invariant.depth);
      rest = λ k there.
          let before = c.loop-node.invariant.rest k there in
          let rest = goes_on links ty depth bits link node before.0 k c.in-Some.ensures (apart k there) before.1 in
          (rest.0, subst (λ b. Leads links ty (depth + 1) b (link_of node bits) rest.0 k) (sym c.next_bits-bits.ensures) rest.1);
      back = λ more keeps steps k leads.
          c.loop-node.invariant.back more keeps (suc steps) k (node, keeps link node c.in-Some.ensures, subst (λ b. Leads more ty (depth + 1) b (link_of node bits) steps k) c.next_bits-bits.ensures leads);
    }
