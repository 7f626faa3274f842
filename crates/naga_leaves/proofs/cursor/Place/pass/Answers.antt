use Rattle.std.proofs.Common.{◌≡◌, ◌≤◌, suc, sym, subst, ◌∙◌}
use Rattle.naga_arena.specs.Numbers.{largest_u32, largest_u64}
use Rattle.naga_leaves.proofs.Steps.{Arrives, left_is_place, left_steps, same_lengths, turned_arrives, type_there}
use Rattle.naga_leaves.proofs.Visits.{visited_place, visited_steps}
use Rattle.naga_leaves.specs.declared.leaf.Part.{Part}
use Rattle.naga_leaves.specs.steps.Steps.{Follows, IsFollowing}
use Rattle.naga_typing.specs.Context.{lists_of}
use Rattle.naga_typing.specs.Leaves.{elements}
use Rattle.naga_leaves.proofs.cursor.Place.pass.Goals as goal

-- what is so of the first byte of one part is so of an equal part
begins_by : (a b : Part) → a ≡ b → b.first ≤ largest_u64 → a.first ≤ largest_u64
begins_by a b e h = subst (λ (part : Part). part.first ≤ largest_u64) (sym e) h

pub leave-requires : goal.leave-requires
leave-requires c = same_lengths (lists_of c.args.gctx.now) c.requires.references _ c.args.self.now c.requires.place

pub leave-requires-in-None : goal.leave-requires-in-None
leave-requires-in-None c = same_lengths (lists_of c.args.gctx.now) c.requires.references _ c.args.self.now c.requires.place

pub visit-requires : goal.visit-requires
visit-requires c =
    let follows : IsFollowing (lists_of c.args.gctx.now) (elements (lists_of c.args.gctx.now) c.args.length) c.args.self.now c.in-Some-Part.index c.in-Some-Part.part =
    subst (Follows (lists_of c.args.gctx.now) (elements (lists_of c.args.gctx.now) c.args.length) c.args.self.now) c.in-Some-Part.field-0-is c.in-Some-Part.ensures in
    let arrives : Arrives (lists_of c.args.gctx.now) (elements (lists_of c.args.gctx.now) c.args.length) c.args.self.now c.turn.new.self =
    turned_arrives (lists_of c.args.gctx.now) c.requires.references (elements (lists_of c.args.gctx.now) c.args.length) c.args.self.now c.requires.place c.requires.none c.turn.new.self c.in-Some-Part.index c.in-Some-Part.part follows c.turn.ensures in
    type_there (lists_of c.args.gctx.now) c.requires.references (elements (lists_of c.args.gctx.now) c.args.length) c.turn.new.self arrives.place

pub returns-in-Some-Part-clause-place : goal.returns-in-Some-Part-clause-place
returns-in-Some-Part-clause-place c =
    let follows : IsFollowing (lists_of c.args.gctx.now) (elements (lists_of c.args.gctx.now) c.args.length) c.args.self.now c.in-Some-Part.index c.in-Some-Part.part =
    subst (Follows (lists_of c.args.gctx.now) (elements (lists_of c.args.gctx.now) c.args.length) c.args.self.now) c.in-Some-Part.field-0-is c.in-Some-Part.ensures in
    let arrives : Arrives (lists_of c.args.gctx.now) (elements (lists_of c.args.gctx.now) c.args.length) c.args.self.now c.turn.new.self =
    turned_arrives (lists_of c.args.gctx.now) c.requires.references (elements (lists_of c.args.gctx.now) c.args.length) c.args.self.now c.requires.place c.requires.none c.turn.new.self c.in-Some-Part.index c.in-Some-Part.part follows c.turn.ensures in
    visited_place (lists_of c.args.gctx.now) c.requires.references (elements (lists_of c.args.gctx.now) c.args.length) c.args.self.now c.turn.new.self c.visit.new.self arrives
    (begins_by _ _ c.turn.ensures.part_is follows.begins) _ (c.visit.ensures (elements (lists_of c.args.gctx.now) c.args.length))

pub returns-in-Some-Part-clause-ty : goal.returns-in-Some-Part-clause-ty
returns-in-Some-Part-clause-ty c = let visited = c.visit.ensures (elements (lists_of c.args.gctx.now) c.args.length) in visited.ty ∙ c.turn.ensures.ty

pub returns-in-Some-Part-clause-steps : goal.returns-in-Some-Part-clause-steps
returns-in-Some-Part-clause-steps c =
    let follows : IsFollowing (lists_of c.args.gctx.now) (elements (lists_of c.args.gctx.now) c.args.length) c.args.self.now c.in-Some-Part.index c.in-Some-Part.part =
    subst (Follows (lists_of c.args.gctx.now) (elements (lists_of c.args.gctx.now) c.args.length) c.args.self.now) c.in-Some-Part.field-0-is c.in-Some-Part.ensures in
    let arrives : Arrives (lists_of c.args.gctx.now) (elements (lists_of c.args.gctx.now) c.args.length) c.args.self.now c.turn.new.self =
    turned_arrives (lists_of c.args.gctx.now) c.requires.references (elements (lists_of c.args.gctx.now) c.args.length) c.args.self.now c.requires.place c.requires.none c.turn.new.self c.in-Some-Part.index c.in-Some-Part.part follows c.turn.ensures in
    visited_steps (lists_of c.args.gctx.now) c.requires.references (elements (lists_of c.args.gctx.now) c.args.length) c.args.self.now c.turn.new.self c.visit.new.self arrives
    (begins_by _ _ c.turn.ensures.part_is follows.begins) _ (c.visit.ensures (elements (lists_of c.args.gctx.now) c.args.length))

pub returns-in-Some-Index-clause-place : goal.returns-in-Some-Index-clause-place
returns-in-Some-Index-clause-place c =
    left_is_place (lists_of c.args.gctx.now) c.requires.references (elements (lists_of c.args.gctx.now) c.args.length) c.args.self.now c.leave.new.self c.requires.place c.requires.none c.in-Some-Index.next
    (subst (Follows (lists_of c.args.gctx.now) (elements (lists_of c.args.gctx.now) c.args.length) c.args.self.now) c.in-Some-Index.field-0-is c.in-Some-Index.ensures) _ c.leave.ensures

pub returns-in-Some-Index-clause-steps : goal.returns-in-Some-Index-clause-steps
returns-in-Some-Index-clause-steps c =
    left_steps (lists_of c.args.gctx.now) c.requires.references (elements (lists_of c.args.gctx.now) c.args.length) c.args.self.now c.leave.new.self c.requires.place c.requires.none c.in-Some-Index.next
    (subst (Follows (lists_of c.args.gctx.now) (elements (lists_of c.args.gctx.now) c.args.length) c.args.self.now) c.in-Some-Index.field-0-is c.in-Some-Index.ensures) _ c.leave.ensures

pub returns-in-None-clause-place : goal.returns-in-None-clause-place
returns-in-None-clause-place c =
    left_is_place (lists_of c.args.gctx.now) c.requires.references (elements (lists_of c.args.gctx.now) c.args.length) c.args.self.now c.leave-in-None.new.self c.requires.place c.requires.none (suc largest_u32) c.in-None.ensures _ c.leave-in-None.ensures

pub returns-in-None-clause-steps : goal.returns-in-None-clause-steps
returns-in-None-clause-steps c =
    left_steps (lists_of c.args.gctx.now) c.requires.references (elements (lists_of c.args.gctx.now) c.args.length) c.args.self.now c.leave-in-None.new.self c.requires.place c.requires.none (suc largest_u32) c.in-None.ensures _ c.leave-in-None.ensures
