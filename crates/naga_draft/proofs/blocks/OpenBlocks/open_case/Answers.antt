use Rattle.naga_draft.proofs.BlockLemmas.{first_case-added, next_case-added}
use Rattle.naga_draft.proofs.blocks.OpenBlocks.open_case.Goals as goal

pub returns-in-Switch-clause-added : goal.returns-in-Switch-clause-added
returns-in-Switch-clause-added c =
    first_case-added c.args.self.now c.take.new.self c.enter.new.self c.in_ok-opener.opener c.in-Switch.selector c.new.result c.args.next c.in_ok-opener.block c.enter.result
    c.in_ok-opener.ensures.taken c.in-Switch.is c.new.ensures.items c.enter.ensures.opened

pub returns-in-Case-clause-added : goal.returns-in-Case-clause-added
returns-in-Case-clause-added c =
    next_case-added c.args.self.now c.take.new.self c.enter-in-Case.new.self c.in_ok-opener.opener c.in-Case.selector c.in-Case.cases c.in_ok-cases-in-Case.cases c.in-Case.head c.args.next c.in_ok-opener.block c.enter-in-Case.result
    c.in_ok-opener.ensures.taken c.in-Case.is c.in_ok-cases-in-Case.ensures.added c.enter-in-Case.ensures.opened
