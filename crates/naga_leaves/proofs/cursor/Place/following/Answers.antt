use Rattle.std.proofs.Common.{◌≡◌, ◌+◌, ◌<◌, ℕ, suc, List, [], ◌∷◌, Option, None, MatchOption, length, refl, sym, subst, ap, ◌∙◌, arith, rules}
use Rattle.naga_arena.specs.Numbers.{largest_u32}
use Rattle.naga_leaves.proofs.Places.{part_there_is}
use Rattle.naga_leaves.proofs.Steps.{around_there, far_part_follows, follows_it, no_index_follows, no_part_follows, nothing_around, same_lengths}
use Rattle.naga_leaves.specs.declared.leaf.Part.{Part}
use Rattle.naga_leaves.specs.steps.Parts.{part_of}
use Rattle.naga_typing.proofs.Existence.{references_exist}
use Rattle.naga_typing.specs.Context.{lists_of}
use Rattle.naga_typing.specs.Leaves.{elements}
use Rattle.naga_leaves.proofs.cursor.Place.following.Goals as goal

-- a part by its first byte
part_by : (ty first sum : ℕ) → first ≡ sum → ◌≡◌ {A = Part} (record { ty = ty; first = first }) (record { ty = ty; first = sum })
part_by ty first sum e = ap (λ (first : ℕ). let part : Part = record { ty = ty; first = first } in part) e

-- what is returned if nothing follows
nothing : {A : Type 0} (result : Option A) (P : Type 0) (Q : A → Type 0) → result ≡ None → P → MatchOption result P Q
nothing result P Q none h = subst (λ result. MatchOption result P Q) (sym none) h

is_empty : {A : Type 0} (xs : List A) → length xs < 1 → xs ≡ []
is_empty [] h = refl
is_empty (x ∷ xs) h = absurd (omega arith)

pub index-around-requires : goal.index-around-requires
index-around-requires c =
    let same : length c.args.self.now.outer.items ≡ length c.args.self.now.path.items =
    same_lengths (lists_of c.args.gctx.now) c.requires.references (elements (lists_of c.args.gctx.now) c.args.length) c.args.self.now c.requires.place in
    omega arith

pub index-requires-2 : goal.index-requires-2
index-requires-2 c =
    around_there (lists_of c.args.gctx.now) c.requires.references (elements (lists_of c.args.gctx.now) c.args.length) c.args.self.now c.requires.place
    c.in_ok-last.last c.index-around.result.now c.index.result.now (omega arith) c.index-around.ensures c.index.ensures

pub part_at-requires-clause-exist : goal.part_at-requires-clause-exist
part_at-requires-clause-exist c = references_exist (lists_of c.args.gctx.now) c.requires.references _ _ c.index-2.ensures

pub returns-in_err-last : goal.returns-in_err-last
returns-in_err-last c =
    nothing _ _ _ c.from_residual.ensures
    (nothing_around (lists_of c.args.gctx.now) c.requires.references (elements (lists_of c.args.gctx.now) c.args.length) c.args.self.now c.requires.place (suc largest_u32)
    (is_empty c.args.self.now.path.items (omega (arith, c.in_err-last.ensures, c.len.ensures))))

pub returns-in_err-index : goal.returns-in_err-index
returns-in_err-index c =
    nothing _ _ _ c.from_residual-in_err-index.ensures
    (no_index_follows (lists_of c.args.gctx.now) c.requires.references (elements (lists_of c.args.gctx.now) c.args.length) c.args.self.now c.requires.place
    c.in_ok-last.last c.index-around.result.now c.index.result.now (omega arith) c.index-around.ensures c.index.ensures (omega (arith, c.in_err-index.ensures)))

pub returns-in_err-part : goal.returns-in_err-part
returns-in_err-part c =
    nothing _ _ _ c.from_residual-in_err-part.ensures
    (no_part_follows (lists_of c.args.gctx.now) c.requires.references (elements (lists_of c.args.gctx.now) c.args.length) c.args.self.now c.requires.place
    c.in_ok-last.last c.index-around.result.now c.index.result.now (omega arith) c.index-around.ensures c.index.ensures c.in_ok-index.index (search rules)
    (part_there_is (lists_of c.args.gctx.now) (elements (lists_of c.args.gctx.now) c.args.length) c.index-around.result.now.ty c.in_ok-index.index _ c.index-2.ensures ∙ sym c.in_err-part.ensures))

pub returns-in_default : goal.returns-in_default
returns-in_default c =
    far_part_follows (lists_of c.args.gctx.now) c.requires.references (elements (lists_of c.args.gctx.now) c.args.length) c.args.self.now c.requires.place
    c.in_ok-last.last c.index-around.result.now c.index.result.now (omega arith) c.index-around.ensures c.index.ensures c.in_ok-index.index (search rules) (part_of c.in_ok-part.part) c.index_after.result
    (part_there_is (lists_of c.args.gctx.now) (elements (lists_of c.args.gctx.now) c.args.length) c.index-around.result.now.ty c.in_ok-index.index _ c.index-2.ensures ∙ sym c.in_ok-part.ensures)
    (omega (arith, c.in_default.ensures)) (c.index_after.ensures (elements (lists_of c.args.gctx.now) c.args.length))

pub returns : goal.returns
returns c =
    let first : c.in-Some.first ≡ c.index-around.result.now.first + c.in_ok-part.part.first = search rules in
    follows_it (lists_of c.args.gctx.now) c.requires.references (elements (lists_of c.args.gctx.now) c.args.length) c.args.self.now c.requires.place
    c.in_ok-last.last c.index-around.result.now c.index.result.now (omega arith) c.index-around.ensures c.index.ensures
    c.in_ok-index.index _ (part_of c.in_ok-part.part) (search rules) (omega (arith, c.in_ok-index.ensures))
    (part_there_is (lists_of c.args.gctx.now) (elements (lists_of c.args.gctx.now) c.args.length) c.index-around.result.now.ty c.in_ok-index.index _ c.index-2.ensures ∙ sym c.in_ok-part.ensures)
    (part_by c.in_ok-part.part.ty _ _ first) (omega (arith, c.in-Some.ensures))
