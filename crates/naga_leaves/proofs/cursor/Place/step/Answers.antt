use Rattle.std.proofs.Common.{◌≡◌, ◌+◌, ◌<◌, ◌^◌, ℕ, refl, ap, ◌∙◌, arith, rules}
use Rattle.naga_arena.specs.Numbers.{largest_u64}
use Rattle.naga_leaves.proofs.Places.{outer_there}
use Rattle.naga_leaves.proofs.Steps.{Arrives, entered_arrives, passed_fewer, passed_place, passed_same, same_lengths, skipped_place, skipped_steps, type_there, unmoved_place}
use Rattle.naga_leaves.proofs.Visits.{visited_place, visited_steps}
use Rattle.naga_leaves.specs.declared.leaf.Part.{Part}
use Rattle.naga_leaves.specs.steps.Parts.{part_of}
use Rattle.naga_typing.specs.Context.{lists_of}
use Rattle.naga_typing.specs.Leaves.{elements}
use Rattle.naga_leaves.proofs.cursor.Place.step.Goals as goal

-- a part by its first byte
part_by : (ty first sum : ℕ) → first ≡ sum → ◌≡◌ {A = Part} (record { ty = ty; first = first }) (record { ty = ty; first = sum })
part_by ty first sum e = ap (λ (first : ℕ). let part : Part = record { ty = ty; first = first } in part) e

pub next_part-requires-clause-exists : goal.next_part-requires-clause-exists
next_part-requires-clause-exists c = type_there (lists_of c.args.gctx.now) c.requires.references _ c.args.self.now c.requires.place

pub skip-requires-clause-around : goal.skip-requires-clause-around
skip-requires-clause-around c =
    outer_there (lists_of c.args.gctx.now) (elements (lists_of c.args.gctx.now) c.args.length) c.args.self.now.ty c.requires.references c.requires.place.exists c.args.self.now.outer.items c.args.self.now.path.items c.args.self.now.part c.requires.place.leads

pub skip-requires-clause-lengths : goal.skip-requires-clause-lengths
skip-requires-clause-lengths c = same_lengths (lists_of c.args.gctx.now) c.requires.references _ c.args.self.now c.requires.place

pub returns-then-has_no_leaf-clause-place : goal.returns-then-has_no_leaf-clause-place
returns-then-has_no_leaf-clause-place c =
    skipped_place (lists_of c.args.gctx.now) c.requires.references (elements (lists_of c.args.gctx.now) c.args.length) c.args.self.now c.skip.new.self c.requires.place (c.has_no_leaf.ensures c.if-has_no_leaf.true) c.skip.result c.skip.ensures

pub returns-then-has_no_leaf-clause-ok : goal.returns-then-has_no_leaf-clause-ok
returns-then-has_no_leaf-clause-ok c =
    skipped_steps (lists_of c.args.gctx.now) c.requires.references (elements (lists_of c.args.gctx.now) c.args.length) c.args.self.now c.skip.new.self c.requires.place (c.has_no_leaf.ensures c.if-has_no_leaf.true) c.skip.result c.skip.ensures

pub skip-requires-then-branch-clause-around : goal.skip-requires-then-branch-clause-around
skip-requires-then-branch-clause-around c =
    outer_there (lists_of c.args.gctx.now) (elements (lists_of c.args.gctx.now) c.args.length) c.args.self.now.ty c.requires.references c.requires.place.exists c.args.self.now.outer.items c.args.self.now.path.items c.args.self.now.part c.requires.place.leads

pub skip-requires-then-branch-clause-lengths : goal.skip-requires-then-branch-clause-lengths
skip-requires-then-branch-clause-lengths c = same_lengths (lists_of c.args.gctx.now) c.requires.references _ c.args.self.now c.requires.place

pub returns-then-branch-clause-place : goal.returns-then-branch-clause-place
returns-then-branch-clause-place c =
    skipped_place (lists_of c.args.gctx.now) c.requires.references (elements (lists_of c.args.gctx.now) c.args.length) c.args.self.now c.skip-then-branch.new.self c.requires.place (c.in_ok-is_found_without.ensures.none c.if-branch.true) c.skip-then-branch.result c.skip-then-branch.ensures

pub returns-then-branch-clause-ok : goal.returns-then-branch-clause-ok
returns-then-branch-clause-ok c =
    skipped_steps (lists_of c.args.gctx.now) c.requires.references (elements (lists_of c.args.gctx.now) c.args.length) c.args.self.now c.skip-then-branch.new.self c.requires.place (c.in_ok-is_found_without.ensures.none c.if-branch.true) c.skip-then-branch.result c.skip-then-branch.ensures

pub index_after-self-requires : goal.index_after-self-requires
index_after-self-requires c = type_there (lists_of c.args.gctx.now) c.requires.references (elements (lists_of c.args.gctx.now) c.args.length) c.args.self.now c.requires.place

pub returns-in_default-checked_add-clause-place : goal.returns-in_default-checked_add-clause-place
returns-in_default-checked_add-clause-place c =
    passed_place (lists_of c.args.gctx.now) c.requires.references (elements (lists_of c.args.gctx.now) c.args.length) c.args.self.now c.requires.place c.in-Some.index (part_of c.in-Some.part) c.in-Some.ensures.0 c.in-Some.ensures.1 c.in-Some.ensures.2 (record c.args.self.now { next = c.index_after-self.result }) c.index_after-self.result (c.index_after-self.ensures (elements (lists_of c.args.gctx.now) c.args.length)) refl refl refl refl refl

pub returns-in_default-checked_add-clause-ok : goal.returns-in_default-checked_add-clause-ok
returns-in_default-checked_add-clause-ok c =
    let far : largest_u64 < c.args.self.now.part.first + c.in-Some.part.first = omega (arith, c.in_default-checked_add.ensures) in (
      passed_same (lists_of c.args.gctx.now) c.requires.references (elements (lists_of c.args.gctx.now) c.args.length) c.args.self.now c.requires.place c.in-Some.index (part_of c.in-Some.part) c.in-Some.ensures.0 c.in-Some.ensures.1 c.in-Some.ensures.2 (record c.args.self.now { next = c.index_after-self.result }) c.index_after-self.result (c.index_after-self.ensures (elements (lists_of c.args.gctx.now) c.args.length)) refl refl far,
      passed_fewer (lists_of c.args.gctx.now) c.requires.references (elements (lists_of c.args.gctx.now) c.args.length) c.args.self.now c.requires.place c.in-Some.index (part_of c.in-Some.part) c.in-Some.ensures.0 c.in-Some.ensures.1 c.in-Some.ensures.2 (record c.args.self.now { next = c.index_after-self.result }) c.index_after-self.result (c.index_after-self.ensures (elements (lists_of c.args.gctx.now) c.args.length)) refl refl refl refl refl,
    )

pub returns-in_err-enter-clause-place : goal.returns-in_err-enter-clause-place
returns-in_err-enter-clause-place c = unmoved_place _ _ c.args.self.now c.enter.new.self c.in_err-enter.ensures.err c.requires.place

pub visit-requires : goal.visit-requires
visit-requires c =
    let first : c.in-Some-checked_add.first ≡ c.args.self.now.part.first + c.in-Some.part.first = search rules in
    let arrives : Arrives (lists_of c.args.gctx.now) (elements (lists_of c.args.gctx.now) c.args.length) c.args.self.now c.enter.new.self =
    entered_arrives (lists_of c.args.gctx.now) c.requires.references (elements (lists_of c.args.gctx.now) c.args.length) c.args.self.now c.requires.place c.in-Some.index (part_of c.in-Some.part) c.in-Some.ensures.0 c.in-Some.ensures.1 c.in-Some.ensures.2 c.enter.new.self _ c.in_ok-enter.ensures.ok (part_by c.in-Some.part.ty _ _ first) in
    type_there (lists_of c.args.gctx.now) c.requires.references (elements (lists_of c.args.gctx.now) c.args.length) c.enter.new.self arrives.place

pub returns-clause-place : goal.returns-clause-place
returns-clause-place c =
    let first : c.in-Some-checked_add.first ≡ c.args.self.now.part.first + c.in-Some.part.first = search rules in
    let arrives : Arrives (lists_of c.args.gctx.now) (elements (lists_of c.args.gctx.now) c.args.length) c.args.self.now c.enter.new.self =
    entered_arrives (lists_of c.args.gctx.now) c.requires.references (elements (lists_of c.args.gctx.now) c.args.length) c.args.self.now c.requires.place c.in-Some.index (part_of c.in-Some.part) c.in-Some.ensures.0 c.in-Some.ensures.1 c.in-Some.ensures.2 c.enter.new.self _ c.in_ok-enter.ensures.ok (part_by c.in-Some.part.ty _ _ first) in
    let entered : c.enter.new.self.part.first ≡ c.in-Some-checked_add.first = ap (λ (part : Part). part.first) c.in_ok-enter.ensures.ok.part_is in
    let within : c.args.self.now.part.first + c.in-Some.part.first < 2 ^ 64 = search rules in
    visited_place (lists_of c.args.gctx.now) c.requires.references (elements (lists_of c.args.gctx.now) c.args.length) c.args.self.now c.enter.new.self c.visit.new.self arrives
    (omega (arith, entered, first, within)) _ (c.visit.ensures (elements (lists_of c.args.gctx.now) c.args.length))

pub returns-clause-ty : goal.returns-clause-ty
returns-clause-ty c = let visited = c.visit.ensures (elements (lists_of c.args.gctx.now) c.args.length) in visited.ty ∙ c.in_ok-enter.ensures.ok.ty

pub returns-clause-ok : goal.returns-clause-ok
returns-clause-ok c =
    let first : c.in-Some-checked_add.first ≡ c.args.self.now.part.first + c.in-Some.part.first = search rules in
    let arrives : Arrives (lists_of c.args.gctx.now) (elements (lists_of c.args.gctx.now) c.args.length) c.args.self.now c.enter.new.self =
    entered_arrives (lists_of c.args.gctx.now) c.requires.references (elements (lists_of c.args.gctx.now) c.args.length) c.args.self.now c.requires.place c.in-Some.index (part_of c.in-Some.part) c.in-Some.ensures.0 c.in-Some.ensures.1 c.in-Some.ensures.2 c.enter.new.self _ c.in_ok-enter.ensures.ok (part_by c.in-Some.part.ty _ _ first) in
    let entered : c.enter.new.self.part.first ≡ c.in-Some-checked_add.first = ap (λ (part : Part). part.first) c.in_ok-enter.ensures.ok.part_is in
    let within : c.args.self.now.part.first + c.in-Some.part.first < 2 ^ 64 = search rules in
    visited_steps (lists_of c.args.gctx.now) c.requires.references (elements (lists_of c.args.gctx.now) c.args.length) c.args.self.now c.enter.new.self c.visit.new.self arrives
    (omega (arith, entered, first, within)) _ (c.visit.ensures (elements (lists_of c.args.gctx.now) c.args.length))
