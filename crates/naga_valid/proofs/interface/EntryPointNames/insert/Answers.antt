use Rattle.std.proofs.Common.{rules, ◌≡◌, ◌∙◌, ◌++◌, ◌∷◌, [], false, not, tests, ℕ, List, Some, ap, subst, sym}
use Rattle.naga_ir.specs.declared.ir.ShaderStage.TheVariants as stage
use Rattle.naga_valid.proofs.NamesInOrder.{Name, asked_for, has, in_conflict, no_conflict, none_more, one_more, unnoted}
use Rattle.naga_valid.specs.Interfaces.{is_one_stage}
use Rattle.naga_valid.specs.steps.Interfaces.{AreNamesIn, has_covered_stage}
use Rattle.naga_valid.proofs.interface.EntryPointNames.insert.Goals as goal

pub returns-in_ok-insert-in-Some-Vertex-clause-is_new : goal.returns-in_ok-insert-in-Some-Vertex-clause-is_new
returns-in_ok-insert-in-Some-Vertex-clause-is_new c = λ before are covered.
    let e = c.args.entry_point.now in
    let of_stage : e.stage ≡ Some stage.Vertex = search rules in
    c.in_ok-insert-in-Some-Vertex.ensures.added
    ∙ ap not (asked_for c.as_str-name.result c.args.self.now.vertex.keys ∙ ap (λ (text : List ℕ). has text c.args.self.now.vertex.keys) c.as_str-name.ensures ∙ are.vertex e.name ∙ in_conflict stage.Vertex before e of_stage)

pub returns-in_ok-insert-in-Some-Vertex-clause-added : goal.returns-in_ok-insert-in-Some-Vertex-clause-added
returns-in_ok-insert-in-Some-Vertex-clause-added c = λ before are.
    let e = c.args.entry_point.now in
    let of_stage : e.stage ≡ Some stage.Vertex = search rules in
    record {
      vertex = subst (λ (keys : List Name). AreNamesIn stage.Vertex (before ++ e ∷ []) (λ name. has name keys)) (sym c.in_ok-insert-in-Some-Vertex.ensures.keys)
          (one_more stage.Vertex before e c.args.self.now.vertex.keys c.as_str-name.result are.vertex c.as_str-name.ensures (ap (is_one_stage (Some stage.Vertex)) of_stage));
      fragment = none_more stage.Fragment before e c.args.self.now.fragment.keys are.fragment (ap (is_one_stage (Some stage.Fragment)) of_stage);
      compute = none_more stage.Compute before e c.args.self.now.compute.keys are.compute (ap (is_one_stage (Some stage.Compute)) of_stage);
    }

pub returns-in_ok-insert-in-Some-Fragment-clause-is_new : goal.returns-in_ok-insert-in-Some-Fragment-clause-is_new
returns-in_ok-insert-in-Some-Fragment-clause-is_new c = λ before are covered.
    let e = c.args.entry_point.now in
    let of_stage : e.stage ≡ Some stage.Fragment = search rules in
    c.in_ok-insert-in-Some-Fragment.ensures.added
    ∙ ap not (asked_for c.as_str-name.result c.args.self.now.fragment.keys ∙ ap (λ (text : List ℕ). has text c.args.self.now.fragment.keys) c.as_str-name.ensures ∙ are.fragment e.name ∙ in_conflict stage.Fragment before e of_stage)

pub returns-in_ok-insert-in-Some-Fragment-clause-added : goal.returns-in_ok-insert-in-Some-Fragment-clause-added
returns-in_ok-insert-in-Some-Fragment-clause-added c = λ before are.
    let e = c.args.entry_point.now in
    let of_stage : e.stage ≡ Some stage.Fragment = search rules in
    record {
      vertex = none_more stage.Vertex before e c.args.self.now.vertex.keys are.vertex (ap (is_one_stage (Some stage.Vertex)) of_stage);
      fragment = subst (λ (keys : List Name). AreNamesIn stage.Fragment (before ++ e ∷ []) (λ name. has name keys)) (sym c.in_ok-insert-in-Some-Fragment.ensures.keys)
          (one_more stage.Fragment before e c.args.self.now.fragment.keys c.as_str-name.result are.fragment c.as_str-name.ensures (ap (is_one_stage (Some stage.Fragment)) of_stage));
      compute = none_more stage.Compute before e c.args.self.now.compute.keys are.compute (ap (is_one_stage (Some stage.Compute)) of_stage);
    }

pub returns-in_ok-insert-in-Some-Compute-clause-is_new : goal.returns-in_ok-insert-in-Some-Compute-clause-is_new
returns-in_ok-insert-in-Some-Compute-clause-is_new c = λ before are covered.
    let e = c.args.entry_point.now in
    let of_stage : e.stage ≡ Some stage.Compute = search rules in
    c.in_ok-insert-in-Some-Compute.ensures.added
    ∙ ap not (asked_for c.as_str-name.result c.args.self.now.compute.keys ∙ ap (λ (text : List ℕ). has text c.args.self.now.compute.keys) c.as_str-name.ensures ∙ are.compute e.name ∙ in_conflict stage.Compute before e of_stage)

pub returns-in_ok-insert-in-Some-Compute-clause-added : goal.returns-in_ok-insert-in-Some-Compute-clause-added
returns-in_ok-insert-in-Some-Compute-clause-added c = λ before are.
    let e = c.args.entry_point.now in
    let of_stage : e.stage ≡ Some stage.Compute = search rules in
    record {
      vertex = none_more stage.Vertex before e c.args.self.now.vertex.keys are.vertex (ap (is_one_stage (Some stage.Vertex)) of_stage);
      fragment = none_more stage.Fragment before e c.args.self.now.fragment.keys are.fragment (ap (is_one_stage (Some stage.Fragment)) of_stage);
      compute = subst (λ (keys : List Name). AreNamesIn stage.Compute (before ++ e ∷ []) (λ name. has name keys)) (sym c.in_ok-insert-in-Some-Compute.ensures.keys)
          (one_more stage.Compute before e c.args.self.now.compute.keys c.as_str-name.result are.compute c.as_str-name.ensures (ap (is_one_stage (Some stage.Compute)) of_stage));
    }

pub returns-in-Some-Task : goal.returns-in-Some-Task
returns-in-Some-Task c =
    let e = c.args.entry_point.now in
    let uncovered : has_covered_stage e ≡ false = search (rules, tests) in
    record {
      is_new = λ before are covered. sym (ap not (no_conflict e before uncovered covered));
      added = λ before are. unnoted before e c.args.self.now uncovered are;
    }

pub returns-in-Some-Task-2-clause-is_new : goal.returns-in-Some-Task-2-clause-is_new
returns-in-Some-Task-2-clause-is_new c = λ before are covered.
    let e = c.args.entry_point.now in
    let uncovered : has_covered_stage e ≡ false = search (rules, tests) in
    sym (ap not (no_conflict e before uncovered covered))
