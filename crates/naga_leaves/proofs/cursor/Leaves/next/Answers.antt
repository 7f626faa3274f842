use Rattle.std.proofs.Common.{◌≡◌, Bool, true, false, OnErr, Result, Ok, Err, subst}
use Rattle.naga_leaves.proofs.NextLeaves.{comes_nowhere, comes_on, comes_to_end, comes_to_next, fewer_left}
use Rattle.naga_leaves.specs.Cursor.{elements_for, lists_under}
use Rattle.naga_leaves.specs.steps.Steps.{Steps}
use Rattle.naga_leaves.proofs.cursor.Leaves.next.Goals as goal

-- what is so in any case is so on an error
on_error : {A E : Type 0} (r : Result A E) (P : Type 0) → P → OnErr r P
on_error (Ok x) P h = tt
on_error (Err e) P h = h

-- what is begun is not to begin
not_begun : {P : Type 0} (b : Bool) → b ≡ true → b ≡ false → P
not_begun b e f = cc

pub returns-in_err-step-clause-err : goal.returns-in_err-step-clause-err
returns-in_err-step-clause-err c =
    on_error _ _
    (comes_nowhere c.args.self.now c.steps.self c.steps.invariant.on.same c.steps.invariant.begun c.step.new.self c.step.new.has_leaves c.in_err-step.ensures.ty c.in_err-step.ensures.err)

pub returns-in-Leaf-clause-ok : goal.returns-in-Leaf-clause-ok
returns-in-Leaf-clause-ok c =
    let w = subst (Steps (lists_under c.steps.self) (elements_for c.steps.self) c.steps.self.place c.step.new.self) c.in-Leaf.is c.in_ok-step.ensures.ok in
    comes_to_next c.args.self.now c.steps.self c.steps.invariant.on.same c.steps.invariant.begun c.step.new.self c.step.new.has_leaves c.in_ok-step.ensures.ty _ c.steps.invariant.on.fewer w.0 w.1

pub steps-preserved : goal.steps-preserved
steps-preserved c =
    let w = subst (Steps (lists_under c.steps.self) (elements_for c.steps.self) c.steps.self.place c.step.new.self) c.in-Other.is c.in_ok-step.ensures.ok in
    record {
      cursor = record {
        references = c.steps.invariant.cursor.references;
        place = c.in_ok-step.ensures.place;
        known = c.in_ok-step.ensures.known;
        whole = λ e. not_begun _ c.steps.invariant.begun e;
      };
      begun = c.steps.invariant.begun;
      on = record {
        same = comes_on c.args.self.now c.steps.self c.steps.invariant.on.same c.steps.invariant.begun c.step.new.self c.step.new.has_leaves c.in_ok-step.ensures.ty w.0;
        fewer = fewer_left c.args.self.now c.steps.self c.steps.invariant.on.same c.steps.invariant.begun c.step.new.self c.step.new.has_leaves c.in_ok-step.ensures.ty c.steps.invariant.on.fewer w.1;
      };
    }

pub returns-in-End-clause-ok : goal.returns-in-End-clause-ok
returns-in-End-clause-ok c =
    let w = subst (Steps (lists_under c.steps.self) (elements_for c.steps.self) c.steps.self.place c.step.new.self) c.in-End.is c.in_ok-step.ensures.ok in
    comes_to_end c.args.self.now c.steps.self c.steps.invariant.on.same c.steps.invariant.begun c.step.new.self c.step.new.has_leaves c.in_ok-step.ensures.ty w.0 w.1
