use Rattle.std.proofs.Common.{◌≡◌, ◌<◌, ◌+◌, ◌∷◌, [], ℕ, List, Some, get_or, length, sym, subst, ap, arith}
use Rattle.std.specs.List.{slice_get}
use Rattle.std.proofs.lemmas.List.{length-append}
use Rattle.std.proofs.lemmas.Option.{slice_get-get_or}
use Rattle.naga_ir.proofs.ReferencesOfItems.{parts_come_before}
use Rattle.naga_ir.specs.declared.types.«Type».{«Type»}
use Rattle.naga_leaves.proofs.HasLeaves.{one_more_type}
use Rattle.naga_leaves.specs.HasLeaves.{AreLeavesKnown}
use Rattle.naga_leaves.specs.steps.HasLeaves.{ArePartsKnown}
use Rattle.naga_typing.proofs.Existence.{references_exist}
use Rattle.naga_typing.specs.Context.{lists_of}
use Rattle.naga_typing.specs.Leaves.{elements}
use Rattle.naga_leaves.proofs.has_leaves.extend_has_leaves.Goals as goal

-- an element of an equal list
element_of : (xs types : List «Type») (i : ℕ) (x : «Type») → xs ≡ types → i < length xs → slice_get types i ≡ Some (get_or xs i x)
element_of xs types i x e within = subst (λ (ys : List «Type»). slice_get ys i ≡ Some (get_or xs i x)) e (slice_get-get_or xs i x within)

pub type_has_leaves-has-requires-clause-parts : goal.type_has_leaves-has-requires-clause-parts
type_has_leaves-has-requires-clause-parts c t named =
    let many : length c.as_slice.result.now ≡ length c.args.gctx.now.types.now = ap length c.as_slice.ensures.items in
    let at = element_of c.as_slice.result.now c.args.gctx.now.types.now c.loop-index.index c.index-as_slice-index.result c.as_slice.ensures.items (omega arith) in
    let before : t < c.loop-index.index = parts_come_before (lists_of c.args.gctx.now) c.requires.references c.loop-index.index _ t at named in
    omega (arith, before, c.loop-index.invariant.so_far)

pub type_has_leaves-has-requires-clause-exist : goal.type_has_leaves-has-requires-clause-exist
type_has_leaves-has-requires-clause-exist c =
    let many : length c.as_slice.result.now ≡ length c.args.gctx.now.types.now = ap length c.as_slice.ensures.items in
    references_exist (lists_of c.args.gctx.now) c.requires.references _ _
    (element_of c.as_slice.result.now c.args.gctx.now.types.now c.loop-index.index c.index-as_slice-index.result c.as_slice.ensures.items (omega arith))

pub loop-index-preserved : goal.loop-index-preserved
loop-index-preserved c =
    let many : length c.as_slice.result.now ≡ length c.args.gctx.now.types.now = ap length c.as_slice.ensures.items in
    let known = c.loop-index.has_leaves.items in
    let x : «Type» = get_or c.as_slice.result.now c.loop-index.index c.index-as_slice-index.result in
    let at : slice_get c.args.gctx.now.types.now c.loop-index.index ≡ Some x = element_of c.as_slice.result.now c.args.gctx.now.types.now c.loop-index.index c.index-as_slice-index.result c.as_slice.ensures.items (omega arith) in
    let parts : ArePartsKnown known x.inner = λ t named.
    let before : t < c.loop-index.index = parts_come_before (lists_of c.args.gctx.now) c.requires.references c.loop-index.index x t at named in omega (arith, before, c.loop-index.invariant.so_far) in
    record {
      known =
          subst (AreLeavesKnown (lists_of c.args.gctx.now) (elements (lists_of c.args.gctx.now) c.args.length)) (sym c.in_ok-push.ensures.pushed)
          (one_more_type (lists_of c.args.gctx.now) (elements (lists_of c.args.gctx.now) c.args.length) known c.loop-index.invariant.known x c.type_has_leaves-has.result
          (subst (λ (k : ℕ). slice_get c.args.gctx.now.types.now k ≡ Some x) c.loop-index.invariant.so_far at) parts c.type_has_leaves-has.ensures);
      so_far = omega (arith, ap length c.in_ok-push.ensures.pushed, length-append known (c.type_has_leaves-has.result ∷ []), c.loop-index.invariant.so_far);
      end = ap (λ k. k + 1) c.index-end.ensures.value;
    }
