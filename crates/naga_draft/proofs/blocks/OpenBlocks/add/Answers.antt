use Rattle.std.proofs.Common.{refl}
use Rattle.naga_draft.proofs.BodyLaws.{begin-added, begin-refused, mark-refused}
use Rattle.naga_draft.specs.declared.blocks.Opener.TheVariants as opener
use Rattle.naga_draft.specs.declared.item.Mark.TheVariants as mark
use Rattle.naga_draft.specs.OpenBlocks.{in_accept, in_block, in_body, in_switch}
use Rattle.naga_draft.proofs.blocks.OpenBlocks.add.Goals as goal

pub returns-in-Statement-clause-refused : goal.returns-in-Statement-clause-refused
returns-in-Statement-clause-refused c = mark-refused (mark.Statement c.in-Statement.statement) c.args.mark c.args.self.now c.push.result c.in-Statement.is c.push.ensures.refused

pub returns-in-Block-clause-added : goal.returns-in-Block-clause-added
returns-in-Block-clause-added c = λ marks read _. begin-added mark.Block c.args.mark opener.Block c.args.self.now c.begin.new.self c.begin.result c.in-Block.is refl refl c.begin.ensures.opened c.begin.ensures.room marks read

pub returns-in-Block-clause-refused : goal.returns-in-Block-clause-refused
returns-in-Block-clause-refused c = begin-refused mark.Block c.args.mark in_block c.args.self.now c.begin.result c.in-Block.is refl c.begin.ensures.refused

pub returns-in-If-clause-added : goal.returns-in-If-clause-added
returns-in-If-clause-added c = λ marks read _. begin-added (mark.If c.in-If.condition) c.args.mark (opener.Accept c.in-If.condition) c.args.self.now c.begin-in-If.new.self c.begin-in-If.result c.in-If.is refl refl c.begin-in-If.ensures.opened c.begin-in-If.ensures.room marks read

pub returns-in-If-clause-refused : goal.returns-in-If-clause-refused
returns-in-If-clause-refused c = begin-refused (mark.If c.in-If.condition) c.args.mark in_accept c.args.self.now c.begin-in-If.result c.in-If.is refl c.begin-in-If.ensures.refused

pub returns-in-Else-clause-refused : goal.returns-in-Else-clause-refused
returns-in-Else-clause-refused c = mark-refused mark.Else c.args.mark c.args.self.now c.open_reject.result c.in-Else.is c.open_reject.ensures.refused

pub returns-in-Switch-clause-added : goal.returns-in-Switch-clause-added
returns-in-Switch-clause-added c = λ marks read _. begin-added (mark.Switch c.in-Switch.selector) c.args.mark (opener.Switch c.in-Switch.selector) c.args.self.now c.begin-in-Switch.new.self c.begin-in-Switch.result c.in-Switch.is refl refl c.begin-in-Switch.ensures.opened c.begin-in-Switch.ensures.room marks read

pub returns-in-Switch-clause-refused : goal.returns-in-Switch-clause-refused
returns-in-Switch-clause-refused c = begin-refused (mark.Switch c.in-Switch.selector) c.args.mark in_switch c.args.self.now c.begin-in-Switch.result c.in-Switch.is refl c.begin-in-Switch.ensures.refused

pub returns-in-Case-clause-refused : goal.returns-in-Case-clause-refused
returns-in-Case-clause-refused c = mark-refused (mark.Case c.in-Case.head) c.args.mark c.args.self.now c.open_case.result c.in-Case.is c.open_case.ensures.refused

pub returns-in-Loop-clause-added : goal.returns-in-Loop-clause-added
returns-in-Loop-clause-added c = λ marks read _. begin-added mark.Loop c.args.mark opener.Body c.args.self.now c.begin-in-Loop.new.self c.begin-in-Loop.result c.in-Loop.is refl refl c.begin-in-Loop.ensures.opened c.begin-in-Loop.ensures.room marks read

pub returns-in-Loop-clause-refused : goal.returns-in-Loop-clause-refused
returns-in-Loop-clause-refused c = begin-refused mark.Loop c.args.mark in_body c.args.self.now c.begin-in-Loop.result c.in-Loop.is refl c.begin-in-Loop.ensures.refused

pub returns-in-Continuing-clause-refused : goal.returns-in-Continuing-clause-refused
returns-in-Continuing-clause-refused c = mark-refused mark.Continuing c.args.mark c.args.self.now c.open_continuing.result c.in-Continuing.is c.open_continuing.ensures.refused

pub returns-in-End-clause-refused : goal.returns-in-End-clause-refused
returns-in-End-clause-refused c = mark-refused mark.End c.args.mark c.args.self.now c.close.result c.in-End.is c.close.ensures.refused

pub returns-in-EndOfLoop-clause-refused : goal.returns-in-EndOfLoop-clause-refused
returns-in-EndOfLoop-clause-refused c = mark-refused (mark.EndOfLoop c.in-EndOfLoop.break_if) c.args.mark c.args.self.now c.close_loop.result c.in-EndOfLoop.is c.close_loop.ensures.refused
