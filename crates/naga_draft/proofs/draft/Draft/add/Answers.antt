use Rattle.std.proofs.Common.{subst}
use Rattle.std.proofs.lemmas.Result.{IfErr-weaker, IfOk-weaker}
use Rattle.naga_draft.specs.Drafts.{SaysNoBlocks}
use Rattle.naga_draft.proofs.DraftLaws.{as_item, capabilities_added, capabilities_refused, comment_added, constant_added, constant_refused, expression_added, expression_refused, filter_added, filter_refused, flags_added, flags_refused, leaf_added, leaf_refused, not_item, override_added, override_refused, predeclared_added, resolved_added, resolved_refused, special_types_added, special_types_refused, type_added, type_refused, variable_added, variable_refused}
use Rattle.naga_draft.proofs.OpenLaws.{part_added, part_misplaced, part_refused}
use Rattle.naga_draft.proofs.SaidLaws.{both_ok, three_ok}
use Rattle.naga_draft.proofs.draft.Draft.add.Goals as goal

pub returns-in-Flags-clause-added : goal.returns-in-Flags-clause-added
returns-in-Flags-clause-added c = λ items h plain.
    both_ok c.set_once.result _ _ _ (λ _ none set. as_item items _ _ _ c.in-Flags.is (flags_added items c.args.self.now h c.in-Flags.flags c.set_once.new.slot none set)) c.set_once.ensures.first c.set_once.ensures.set

pub returns-in-Flags-clause-refused : goal.returns-in-Flags-clause-refused
returns-in-Flags-clause-refused c = λ items h.
    IfErr-weaker c.set_once.result _ _ (λ e again item. not_item items _ _ c.in-Flags.is (flags_refused items c.args.self.now h c.in-Flags.flags again)) c.set_once.ensures.again

pub returns-in-Capabilities-clause-added : goal.returns-in-Capabilities-clause-added
returns-in-Capabilities-clause-added c = λ items h plain.
    both_ok c.set_once-in-Capabilities.result _ _ _ (λ _ none set. as_item items _ _ _ c.in-Capabilities.is (capabilities_added items c.args.self.now h c.in-Capabilities.capabilities c.set_once-in-Capabilities.new.slot none set)) c.set_once-in-Capabilities.ensures.first c.set_once-in-Capabilities.ensures.set

pub returns-in-Capabilities-clause-refused : goal.returns-in-Capabilities-clause-refused
returns-in-Capabilities-clause-refused c = λ items h.
    IfErr-weaker c.set_once-in-Capabilities.result _ _ (λ e again item. not_item items _ _ c.in-Capabilities.is (capabilities_refused items c.args.self.now h c.in-Capabilities.capabilities again)) c.set_once-in-Capabilities.ensures.again

pub returns-in-Resolved-clause-added : goal.returns-in-Resolved-clause-added
returns-in-Resolved-clause-added c = λ items h plain.
    both_ok c.set_once-in-Resolved.result _ _ _ (λ _ none set. as_item items _ _ _ c.in-Resolved.is (resolved_added items c.args.self.now h c.set_once-in-Resolved.new.slot none set)) c.set_once-in-Resolved.ensures.first c.set_once-in-Resolved.ensures.set

pub returns-in-Resolved-clause-refused : goal.returns-in-Resolved-clause-refused
returns-in-Resolved-clause-refused c = λ items h.
    IfErr-weaker c.set_once-in-Resolved.result _ _ (λ e again item. not_item items _ _ c.in-Resolved.is (resolved_refused items c.args.self.now h again)) c.set_once-in-Resolved.ensures.again

pub returns-in-SpecialTypes-clause-added : goal.returns-in-SpecialTypes-clause-added
returns-in-SpecialTypes-clause-added c = λ items h plain.
    both_ok c.set_once-in-SpecialTypes.result _ _ _ (λ _ none set. as_item items _ _ _ c.in-SpecialTypes.is (special_types_added items c.args.self.now h c.in-SpecialTypes.ray_desc c.in-SpecialTypes.ray_intersection c.in-SpecialTypes.ray_vertex_return c.set_once-in-SpecialTypes.new.slot none set)) c.set_once-in-SpecialTypes.ensures.first c.set_once-in-SpecialTypes.ensures.set

pub returns-in-SpecialTypes-clause-refused : goal.returns-in-SpecialTypes-clause-refused
returns-in-SpecialTypes-clause-refused c = λ items h.
    IfErr-weaker c.set_once-in-SpecialTypes.result _ _ (λ e again item. not_item items _ _ c.in-SpecialTypes.is (special_types_refused items c.args.self.now h c.in-SpecialTypes.ray_desc c.in-SpecialTypes.ray_intersection c.in-SpecialTypes.ray_vertex_return again)) c.set_once-in-SpecialTypes.ensures.again

pub returns-in-PredeclaredType-clause-added : goal.returns-in-PredeclaredType-clause-added
returns-in-PredeclaredType-clause-added c = λ items h plain.
    IfOk-weaker c.push.result _ _ (λ _ e. as_item items _ _ _ c.in-PredeclaredType.is (predeclared_added items c.args.self.now h c.in-PredeclaredType.ty c.push.new.items e)) c.push.ensures.added

pub returns-in-Filter-clause-added : goal.returns-in-Filter-clause-added
returns-in-Filter-clause-added c = λ items h plain.
    both_ok c.append.result _ _ _ (λ _ e room. as_item items _ _ _ c.in-Filter.is (filter_added items c.args.self.now h c.in-Filter.filter c.append.new.items e room)) c.append.ensures.added c.append.ensures.room

pub returns-in-Filter-clause-refused : goal.returns-in-Filter-clause-refused
returns-in-Filter-clause-refused c = λ items h.
    IfErr-weaker c.append.result _ _ (λ e full item. not_item items _ _ c.in-Filter.is (filter_refused items c.args.self.now h c.in-Filter.filter (full item))) c.append.ensures.full

pub returns-in-FilterLeaf-clause-added : goal.returns-in-FilterLeaf-clause-added
returns-in-FilterLeaf-clause-added c = λ items h plain.
    both_ok c.set_once-in-FilterLeaf.result _ _ _ (λ _ none set. as_item items _ _ _ c.in-FilterLeaf.is (leaf_added items c.args.self.now h c.in-FilterLeaf.leaf c.set_once-in-FilterLeaf.new.slot none set)) c.set_once-in-FilterLeaf.ensures.first c.set_once-in-FilterLeaf.ensures.set

pub returns-in-FilterLeaf-clause-refused : goal.returns-in-FilterLeaf-clause-refused
returns-in-FilterLeaf-clause-refused c = λ items h.
    IfErr-weaker c.set_once-in-FilterLeaf.result _ _ (λ e again item. not_item items _ _ c.in-FilterLeaf.is (leaf_refused items c.args.self.now h c.in-FilterLeaf.leaf again)) c.set_once-in-FilterLeaf.ensures.again

pub returns-in-Comment-clause-added : goal.returns-in-Comment-clause-added
returns-in-Comment-clause-added c = λ items h plain.
    IfOk-weaker c.add_comment.result _ _ (λ _ e. as_item items _ _ _ c.in-Comment.is (comment_added items c.args.self.now h c.in-Comment.on c.add_comment.new.comments e)) c.add_comment.ensures.added

pub returns-in-Type_-clause-added : goal.returns-in-Type_-clause-added
returns-in-Type_-clause-added c = λ items h plain.
    three_ok c.add_type.result _ _ _ _ (λ _ e different room. as_item items _ _ _ c.in-Type_.is (type_added items c.args.self.now h c.in-Type_.ty c.add_type.new.types e different room))
    c.add_type.ensures.added c.add_type.ensures.different c.add_type.ensures.room

pub returns-in-Type_-clause-refused : goal.returns-in-Type_-clause-refused
returns-in-Type_-clause-refused c = λ items h.
    IfErr-weaker c.add_type.result _ _ (λ e why item. not_item items _ _ c.in-Type_.is (type_refused items c.args.self.now h c.in-Type_.ty (why item))) c.add_type.ensures.refused

pub returns-in-Constant-clause-added : goal.returns-in-Constant-clause-added
returns-in-Constant-clause-added c = λ items h plain.
    both_ok c.append-in-Constant.result _ _ _ (λ _ e room. as_item items _ _ _ c.in-Constant.is (constant_added items c.args.self.now h c.in-Constant.constant c.append-in-Constant.new.items e room)) c.append-in-Constant.ensures.added c.append-in-Constant.ensures.room

pub returns-in-Constant-clause-refused : goal.returns-in-Constant-clause-refused
returns-in-Constant-clause-refused c = λ items h.
    IfErr-weaker c.append-in-Constant.result _ _ (λ e full item. not_item items _ _ c.in-Constant.is (constant_refused items c.args.self.now h c.in-Constant.constant (full item))) c.append-in-Constant.ensures.full

pub returns-in-Override-clause-added : goal.returns-in-Override-clause-added
returns-in-Override-clause-added c = λ items h plain.
    both_ok c.append-in-Override.result _ _ _ (λ _ e room. as_item items _ _ _ c.in-Override.is (override_added items c.args.self.now h c.in-Override.id c.append-in-Override.new.items e room)) c.append-in-Override.ensures.added c.append-in-Override.ensures.room

pub returns-in-Override-clause-refused : goal.returns-in-Override-clause-refused
returns-in-Override-clause-refused c = λ items h.
    IfErr-weaker c.append-in-Override.result _ _ (λ e full item. not_item items _ _ c.in-Override.is (override_refused items c.args.self.now h c.in-Override.id (full item))) c.append-in-Override.ensures.full

pub returns-in-GlobalVariable-clause-added : goal.returns-in-GlobalVariable-clause-added
returns-in-GlobalVariable-clause-added c = λ items h plain.
    both_ok c.append-in-GlobalVariable.result _ _ _ (λ _ e room. as_item items _ _ _ c.in-GlobalVariable.is (variable_added items c.args.self.now h c.in-GlobalVariable.variable c.append-in-GlobalVariable.new.items e room)) c.append-in-GlobalVariable.ensures.added c.append-in-GlobalVariable.ensures.room

pub returns-in-GlobalVariable-clause-refused : goal.returns-in-GlobalVariable-clause-refused
returns-in-GlobalVariable-clause-refused c = λ items h.
    IfErr-weaker c.append-in-GlobalVariable.result _ _ (λ e full item. not_item items _ _ c.in-GlobalVariable.is (variable_refused items c.args.self.now h c.in-GlobalVariable.variable (full item))) c.append-in-GlobalVariable.ensures.full

pub returns-in-Expression-clause-added : goal.returns-in-Expression-clause-added
returns-in-Expression-clause-added c = λ items h plain.
    both_ok c.append-in-Expression.result _ _ _ (λ _ e room. as_item items _ _ _ c.in-Expression.is (expression_added items c.args.self.now h c.in-Expression.expression c.append-in-Expression.new.items e room)) c.append-in-Expression.ensures.added c.append-in-Expression.ensures.room

pub returns-in-Expression-clause-refused : goal.returns-in-Expression-clause-refused
returns-in-Expression-clause-refused c = λ items h.
    IfErr-weaker c.append-in-Expression.result _ _ (λ e full item. not_item items _ _ c.in-Expression.is (expression_refused items c.args.self.now h c.in-Expression.expression (full item))) c.append-in-Expression.ensures.full

pub returns-in-Some-clause-added : goal.returns-in-Some-clause-added
returns-in-Some-clause-added c = λ items h plain.
    IfOk-weaker c.add.result _ _ (λ _ a. as_item items _ _ _ c.in-Part.is a)
    (part_added items c.args.self.now h c.in-Part.part c.in-Some.current c.in-Some.is (subst SaysNoBlocks c.in-Part.is plain) c.add.result c.add.new.self c.add.ensures.added)

pub returns-in-Some-clause-refused : goal.returns-in-Some-clause-refused
returns-in-Some-clause-refused c = λ items h.
    IfErr-weaker c.add.result _ _ (λ e stuck item. not_item items _ _ c.in-Part.is (stuck item))
    (part_refused items c.args.self.now h c.in-Part.part c.in-Some.current c.in-Some.is c.add.result c.add.ensures.refused)

pub returns-in-None-clause-refused : goal.returns-in-None-clause-refused
returns-in-None-clause-refused c = λ items h item. not_item items _ _ c.in-Part.is (part_misplaced items c.args.self.now h c.in-Part.part c.in-None.is)
