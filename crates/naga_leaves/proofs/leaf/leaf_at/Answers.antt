use Rattle.std.proofs.Common.{◌≡◌, ◌<◌, ◌≤◌, ◌+◌, ℕ, suc, List, [], ◌∷◌, Option, Some, None, IfSome, MatchOption, length, get_or, drop, sym, subst, ap, ◌∙◌, add-one, arith, rules}
use Rattle.std.proofs.Math.Seq.{drop-cons}
use Rattle.std.proofs.lemmas.List.{drop_all}
use Rattle.std.specs.Option.{option_map}
use Rattle.naga_arena.specs.Numbers.{largest_u64}
use Rattle.naga_ir.specs.Handles.{GlobalReferencesOk}
use Rattle.naga_ir.specs.ItemReferences.{GlobalLists}
use Rattle.naga_leaves.proofs.Path.{Following, begin, begins_at_none, end, follow, no_part, too_far}
use Rattle.naga_leaves.specs.Leaf.{bytes_of}
use Rattle.naga_leaves.specs.declared.leaf.Leaf.{Leaf}
use Rattle.naga_typing.proofs.Existence.{references_exist}
use Rattle.naga_typing.specs.Context.{lists_of}
use Rattle.naga_typing.specs.Leaves.{Elements, LeafBytes, elements, leaf_at, moved}
use Rattle.naga_leaves.proofs.leaf.leaf_at.Goals as goal

-- no leaf begins past all numbers if there is none
begins_nowhere : (o : Option LeafBytes) → o ≡ None → IfSome o (λ leaf. largest_u64 < leaf.first)
begins_nowhere o e = subst (λ (o : Option LeafBytes). IfSome o (λ leaf. largest_u64 < leaf.first)) (sym e) tt

-- what is returned if there is no leaf to return
refused : (result : Option Leaf) (g h : GlobalLists) (n ty : ℕ) (path : List ℕ) → result ≡ None → g ≡ h → IfSome (leaf_at g (elements g n) ty path) (λ leaf. largest_u64 < leaf.first)
    → MatchOption result (IfSome (leaf_at h (elements h n) ty path) (λ leaf. largest_u64 < leaf.first)) (λ leaf. leaf_at h (elements h n) ty path ≡ Some (bytes_of leaf))
refused result g h n ty path none same past =
    subst (λ h. MatchOption result (IfSome (leaf_at h (elements h n) ty path) (λ leaf. largest_u64 < leaf.first)) (λ leaf. leaf_at h (elements h n) ty path ≡ Some (bytes_of leaf))) same
    (subst (λ result. MatchOption result (IfSome (leaf_at g (elements g n) ty path) (λ leaf. largest_u64 < leaf.first)) (λ leaf. leaf_at g (elements g n) ty path ≡ Some (bytes_of leaf))) (sym none) past)

module _ (g : GlobalLists) (elements_of : Elements) (whole ty : ℕ) (path : List ℕ) (first k : ℕ) (f : Following g elements_of whole ty path first (drop k path)) where
  -- the next index comes first among those that are left
  next : k < length path → Following g elements_of whole ty path first (get_or path k 0 ∷ drop (suc k) path)
  next within = subst (Following g elements_of whole ty path first) (drop-cons path k 0 within) f

  -- at the end none is left
  none_left : length path ≤ k → Following g elements_of whole ty path first []
  none_left past = subst (Following g elements_of whole ty path first) (drop_all k path past) f

-- one more index leads to the next
one_more : (g : GlobalLists) (elements_of : Elements) (whole ty : ℕ) (path : List ℕ) (first k sum : ℕ) → sum ≡ first
    → Following g elements_of whole ty path first (drop (suc k) path) → Following g elements_of whole ty path sum (drop (k + 1) path)
one_more g elements_of whole ty path first k sum same next =
    subst (λ n. Following g elements_of whole ty path n (drop (k + 1) path)) (sym same)
    (subst (λ j. Following g elements_of whole ty path first (drop j path)) (sym (add-one k)) next)

pub loop-index-init : goal.loop-index-init
loop-index-init c = begin (lists_of c.to_ctx-gctx.result) _ _ _ (omega (arith, c.requires.exists, ap (λ (g : GlobalLists). length g.types) c.to_ctx-gctx.ensures.lists))

pub index-requires : goal.index-requires
index-requires c = c.loop-index.invariant.exists

pub part_at-requires-clause-exist : goal.part_at-requires-clause-exist
part_at-requires-clause-exist c =
    references_exist (lists_of c.to_ctx-gctx.result) (subst GlobalReferencesOk (sym c.to_ctx-gctx.ensures.lists) c.requires.references) _ _ c.index.ensures

pub returns-in_err-part : goal.returns-in_err-part
returns-in_err-part c =
    refused _ (lists_of c.to_ctx-gctx.result) _ _ _ _ c.from_residual.ensures c.to_ctx-gctx.ensures.lists
    (begins_nowhere _ (no_part _ _ _ _ _ _ _ _ (next _ _ _ _ _ _ _ c.loop-index.invariant c.loop-index-test.true) _ c.index.ensures (sym c.in_err-part.ensures)))

pub returns-in_err-first : goal.returns-in_err-first
returns-in_err-first c =
    refused _ (lists_of c.to_ctx-gctx.result) _ _ _ _ c.from_residual-in_err-first.ensures c.to_ctx-gctx.ensures.lists
    (too_far _ _ _ _ _ _ _ _ (next _ _ _ _ _ _ _ c.loop-index.invariant c.loop-index-test.true) _ c.index.ensures _ (sym c.in_ok-part.ensures) (omega (arith, c.in_err-first.ensures)))

pub loop-index-preserved : goal.loop-index-preserved
loop-index-preserved c =
    let first : c.in_ok-first.first ≡ c.loop-index.first + c.in_ok-part.part.first = search rules in
    let f = follow _ _ _ _ _ _ _ _ (next _ _ _ _ _ _ _ c.loop-index.invariant c.loop-index-test.true) _ c.index.ensures _ (sym c.in_ok-part.ensures)
    (subst GlobalReferencesOk (sym c.to_ctx-gctx.ensures.lists) c.requires.references) in
    one_more _ _ _ _ _ _ _ _ first f

pub index-requires-2 : goal.index-requires-2
index-requires-2 c = c.loop-index.invariant.exists

pub returns-in_err-leaf : goal.returns-in_err-leaf
returns-in_err-leaf c =
    refused _ (lists_of c.to_ctx-gctx.result) _ _ _ _ c.from_residual-in_err-leaf.ensures c.to_ctx-gctx.ensures.lists
    (begins_nowhere _ (end _ _ _ _ _ _ _ (none_left _ _ _ _ _ _ _ c.loop-index.invariant c.loop-index-test.false) c.index-2.ensures ∙ ap (option_map (moved c.loop-index.first)) (sym (c.in_err-leaf.ensures (lists_of c.to_ctx-gctx.result)))))

pub returns : goal.returns
returns c =
    let e = end _ _ _ _ _ _ _ (none_left _ _ _ _ _ _ _ c.loop-index.invariant c.loop-index-test.false) c.index-2.ensures ∙ ap (option_map (moved c.loop-index.first)) (sym (c.in_ok-leaf.ensures (lists_of c.to_ctx-gctx.result))) in
    let begins : c.in_ok-leaf.leaf.first ≡ 0 = begins_at_none _ _ (bytes_of c.in_ok-leaf.leaf) (sym (c.in_ok-leaf.ensures (lists_of c.to_ctx-gctx.result))) in
    let sum : c.loop-index.first + c.in_ok-leaf.leaf.first ≡ c.loop-index.first = omega arith in
    subst (λ g. leaf_at g (elements g c.args.length) c.args.ty c.args.path.now ≡ Some (bytes_of record { first = c.loop-index.first; size = c.in_ok-leaf.leaf.size; alignment = c.in_ok-leaf.leaf.alignment })) c.to_ctx-gctx.ensures.lists
    (e ∙ ap (λ (first : ℕ). let leaf : Option LeafBytes = Some (record { first = first; size = c.in_ok-leaf.leaf.size; alignment = c.in_ok-leaf.leaf.alignment }) in leaf) sum)
