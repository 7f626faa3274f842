use Rattle.std.proofs.Common.{subst}
use Rattle.std.proofs.lemmas.Result.{IfErr-weaker, IfOk-weaker}
use Rattle.naga_draft.specs.OpenFunctions.{SaysNoBlocks}
use Rattle.naga_draft.proofs.FunctionLaws.{argument_added, as_part, expression_added, expression_refused, filter_added, filter_refused, mark_added, mark_refused, mesh_added, mesh_misplaced, mesh_refused, name_added, not_part, payload_added, payload_misplaced, payload_refused, result_added, result_refused, size_added, size_misplaced, size_refused, sizes_added, sizes_misplaced, sizes_refused, stage_added, stage_misplaced, stage_refused, variable_added, variable_refused}
use Rattle.naga_draft.proofs.SaidLaws.{both_ok}
use Rattle.naga_draft.proofs.functions.OpenFunction.add.Goals as goal

pub returns-in-Argument-clause-added : goal.returns-in-Argument-clause-added
returns-in-Argument-clause-added c = λ head parts h plain.
    IfOk-weaker c.push.result _ _ (λ _ e. as_part head parts _ _ _ c.in-Argument.is (argument_added head parts c.args.self.now h c.in-Argument.argument c.push.new.items e)) c.push.ensures.added

pub returns-in-LocalVariable-clause-added : goal.returns-in-LocalVariable-clause-added
returns-in-LocalVariable-clause-added c = λ head parts h plain.
    both_ok c.append.result _ _ _ (λ _ e room. as_part head parts _ _ _ c.in-LocalVariable.is (variable_added head parts c.args.self.now h c.in-LocalVariable.variable c.append.new.items e room)) c.append.ensures.added c.append.ensures.room

pub returns-in-LocalVariable-clause-refused : goal.returns-in-LocalVariable-clause-refused
returns-in-LocalVariable-clause-refused c = λ head parts h.
    IfErr-weaker c.append.result _ _ (λ e full item later. not_part head parts _ _ later c.in-LocalVariable.is (variable_refused head parts c.args.self.now h c.in-LocalVariable.variable (full item) later)) c.append.ensures.full

pub returns-in-Result-clause-added : goal.returns-in-Result-clause-added
returns-in-Result-clause-added c = λ head parts h plain.
    both_ok c.set_once.result _ _ _ (λ _ none set. as_part head parts _ _ _ c.in-Result.is (result_added head parts c.args.self.now h c.in-Result.result c.set_once.new.slot none set)) c.set_once.ensures.first c.set_once.ensures.set

pub returns-in-Result-clause-refused : goal.returns-in-Result-clause-refused
returns-in-Result-clause-refused c = λ head parts h.
    IfErr-weaker c.set_once.result _ _ (λ e again item later. not_part head parts _ _ later c.in-Result.is (result_refused head parts c.args.self.now h c.in-Result.result again later)) c.set_once.ensures.again

pub returns-in-NamedExpression-clause-added : goal.returns-in-NamedExpression-clause-added
returns-in-NamedExpression-clause-added c = λ head parts h plain.
    IfOk-weaker c.push-in-NamedExpression.result _ _ (λ _ e. as_part head parts _ _ _ c.in-NamedExpression.is (name_added head parts c.args.self.now h c.in-NamedExpression.named c.in-NamedExpression.name c.push-in-NamedExpression.new.items e)) c.push-in-NamedExpression.ensures.added

pub returns-in-FilterLeaf-clause-added : goal.returns-in-FilterLeaf-clause-added
returns-in-FilterLeaf-clause-added c = λ head parts h plain.
    both_ok c.set_once-in-FilterLeaf.result _ _ _ (λ _ none set. as_part head parts _ _ _ c.in-FilterLeaf.is (filter_added head parts c.args.self.now h c.in-FilterLeaf.filter c.set_once-in-FilterLeaf.new.slot none set)) c.set_once-in-FilterLeaf.ensures.first c.set_once-in-FilterLeaf.ensures.set

pub returns-in-FilterLeaf-clause-refused : goal.returns-in-FilterLeaf-clause-refused
returns-in-FilterLeaf-clause-refused c = λ head parts h.
    IfErr-weaker c.set_once-in-FilterLeaf.result _ _ (λ e again item later. not_part head parts _ _ later c.in-FilterLeaf.is (filter_refused head parts c.args.self.now h c.in-FilterLeaf.filter again later)) c.set_once-in-FilterLeaf.ensures.again

pub returns-in-Some-clause-added : goal.returns-in-Some-clause-added
returns-in-Some-clause-added c = λ head parts h plain.
    both_ok c.set_once-in-Some.result _ _ _ (λ _ none set. as_part head parts _ _ _ c.in-WorkgroupSizes.is (sizes_added head parts c.args.self.now h c.in-Some.entry c.in-WorkgroupSizes.sizes c.set_once-in-Some.new.slot c.in-Some.is none set)) c.set_once-in-Some.ensures.first c.set_once-in-Some.ensures.set

pub returns-in-Some-clause-refused : goal.returns-in-Some-clause-refused
returns-in-Some-clause-refused c = λ head parts h.
    IfErr-weaker c.set_once-in-Some.result _ _ (λ e again item later. not_part head parts _ _ later c.in-WorkgroupSizes.is (sizes_refused head parts c.args.self.now h c.in-Some.entry c.in-WorkgroupSizes.sizes c.in-Some.is again later)) c.set_once-in-Some.ensures.again

pub returns-in-None-clause-refused : goal.returns-in-None-clause-refused
returns-in-None-clause-refused c = λ head parts h item later.
    not_part head parts _ _ later c.in-WorkgroupSizes.is (sizes_misplaced head parts c.args.self.now h c.in-WorkgroupSizes.sizes c.in-None.is later)

pub returns-in-Some-entry-clause-added : goal.returns-in-Some-entry-clause-added
returns-in-Some-entry-clause-added c = λ head parts h plain.
    both_ok c.set_once-in-Some-entry.result _ _ _ (λ _ none set. as_part head parts _ _ _ c.in-Stage.is (stage_added head parts c.args.self.now h c.in-Some-entry.entry c.in-Stage.stage c.set_once-in-Some-entry.new.slot c.in-Some-entry.is none set)) c.set_once-in-Some-entry.ensures.first c.set_once-in-Some-entry.ensures.set

pub returns-in-Some-entry-clause-refused : goal.returns-in-Some-entry-clause-refused
returns-in-Some-entry-clause-refused c = λ head parts h.
    IfErr-weaker c.set_once-in-Some-entry.result _ _ (λ e again item later. not_part head parts _ _ later c.in-Stage.is (stage_refused head parts c.args.self.now h c.in-Some-entry.entry c.in-Stage.stage c.in-Some-entry.is again later)) c.set_once-in-Some-entry.ensures.again

pub returns-in-None-entry-clause-refused : goal.returns-in-None-entry-clause-refused
returns-in-None-entry-clause-refused c = λ head parts h item later.
    not_part head parts _ _ later c.in-Stage.is (stage_misplaced head parts c.args.self.now h c.in-Stage.stage c.in-None-entry.is later)

pub returns-in-Some-entry-2-clause-added : goal.returns-in-Some-entry-2-clause-added
returns-in-Some-entry-2-clause-added c = λ head parts h plain.
    both_ok c.set_once-in-Some-entry-2.result _ _ _ (λ _ none set. as_part head parts _ _ _ c.in-WorkgroupSize.is (size_added head parts c.args.self.now h c.in-Some-entry-2.entry c.in-WorkgroupSize.size c.set_once-in-Some-entry-2.new.slot c.in-Some-entry-2.is none set)) c.set_once-in-Some-entry-2.ensures.first c.set_once-in-Some-entry-2.ensures.set

pub returns-in-Some-entry-2-clause-refused : goal.returns-in-Some-entry-2-clause-refused
returns-in-Some-entry-2-clause-refused c = λ head parts h.
    IfErr-weaker c.set_once-in-Some-entry-2.result _ _ (λ e again item later. not_part head parts _ _ later c.in-WorkgroupSize.is (size_refused head parts c.args.self.now h c.in-Some-entry-2.entry c.in-WorkgroupSize.size c.in-Some-entry-2.is again later)) c.set_once-in-Some-entry-2.ensures.again

pub returns-in-None-entry-2-clause-refused : goal.returns-in-None-entry-2-clause-refused
returns-in-None-entry-2-clause-refused c = λ head parts h item later.
    not_part head parts _ _ later c.in-WorkgroupSize.is (size_misplaced head parts c.args.self.now h c.in-WorkgroupSize.size c.in-None-entry-2.is later)

pub returns-in-Some-entry-3-clause-added : goal.returns-in-Some-entry-3-clause-added
returns-in-Some-entry-3-clause-added c = λ head parts h plain.
    both_ok c.set_once-in-Some-entry-3.result _ _ _ (λ _ none set. as_part head parts _ _ _ c.in-TaskPayload.is (payload_added head parts c.args.self.now h c.in-Some-entry-3.entry c.in-TaskPayload.payload c.set_once-in-Some-entry-3.new.slot c.in-Some-entry-3.is none set)) c.set_once-in-Some-entry-3.ensures.first c.set_once-in-Some-entry-3.ensures.set

pub returns-in-Some-entry-3-clause-refused : goal.returns-in-Some-entry-3-clause-refused
returns-in-Some-entry-3-clause-refused c = λ head parts h.
    IfErr-weaker c.set_once-in-Some-entry-3.result _ _ (λ e again item later. not_part head parts _ _ later c.in-TaskPayload.is (payload_refused head parts c.args.self.now h c.in-Some-entry-3.entry c.in-TaskPayload.payload c.in-Some-entry-3.is again later)) c.set_once-in-Some-entry-3.ensures.again

pub returns-in-None-entry-3-clause-refused : goal.returns-in-None-entry-3-clause-refused
returns-in-None-entry-3-clause-refused c = λ head parts h item later.
    not_part head parts _ _ later c.in-TaskPayload.is (payload_misplaced head parts c.args.self.now h c.in-TaskPayload.payload c.in-None-entry-3.is later)

pub returns-in-Some-entry-4-clause-added : goal.returns-in-Some-entry-4-clause-added
returns-in-Some-entry-4-clause-added c = λ head parts h plain.
    both_ok c.set_once-in-Some-entry-4.result _ _ _ (λ _ none set. as_part head parts _ _ _ c.in-MeshOutput.is (mesh_added head parts c.args.self.now h c.in-Some-entry-4.entry c.in-MeshOutput.mesh c.set_once-in-Some-entry-4.new.slot c.in-Some-entry-4.is none set)) c.set_once-in-Some-entry-4.ensures.first c.set_once-in-Some-entry-4.ensures.set

pub returns-in-Some-entry-4-clause-refused : goal.returns-in-Some-entry-4-clause-refused
returns-in-Some-entry-4-clause-refused c = λ head parts h.
    IfErr-weaker c.set_once-in-Some-entry-4.result _ _ (λ e again item later. not_part head parts _ _ later c.in-MeshOutput.is (mesh_refused head parts c.args.self.now h c.in-Some-entry-4.entry c.in-MeshOutput.mesh c.in-Some-entry-4.is again later)) c.set_once-in-Some-entry-4.ensures.again

pub returns-in-None-entry-4-clause-refused : goal.returns-in-None-entry-4-clause-refused
returns-in-None-entry-4-clause-refused c = λ head parts h item later.
    not_part head parts _ _ later c.in-MeshOutput.is (mesh_misplaced head parts c.args.self.now h c.in-MeshOutput.mesh c.in-None-entry-4.is later)

pub returns-in-Expression-clause-added : goal.returns-in-Expression-clause-added
returns-in-Expression-clause-added c = λ head parts h plain.
    both_ok c.append-in-Expression.result _ _ _ (λ _ e room. as_part head parts _ _ _ c.in-Expression.is (expression_added head parts c.args.self.now h c.in-Expression.expression c.append-in-Expression.new.items e room)) c.append-in-Expression.ensures.added c.append-in-Expression.ensures.room

pub returns-in-Expression-clause-refused : goal.returns-in-Expression-clause-refused
returns-in-Expression-clause-refused c = λ head parts h.
    IfErr-weaker c.append-in-Expression.result _ _ (λ e full item later. not_part head parts _ _ later c.in-Expression.is (expression_refused head parts c.args.self.now h c.in-Expression.expression (full item) later)) c.append-in-Expression.ensures.full

pub returns-in-Mark-clause-added : goal.returns-in-Mark-clause-added
returns-in-Mark-clause-added c = λ head parts h plain.
    IfOk-weaker c.add.result _ _ (λ _ read. as_part head parts _ _ _ c.in-Mark.is (mark_added head parts c.args.self.now h c.in-Mark.mark c.add.new.self read))
    (c.add.ensures.added _ h.blocks (subst SaysNoBlocks c.in-Mark.is plain))

pub returns-in-Mark-clause-refused : goal.returns-in-Mark-clause-refused
returns-in-Mark-clause-refused c = λ head parts h.
    IfErr-weaker c.add.result _ _ (λ e stuck item later. not_part head parts _ _ later c.in-Mark.is (mark_refused head parts c.args.self.now h c.in-Mark.mark (stuck item) later)) (c.add.ensures.refused _ h.blocks)
