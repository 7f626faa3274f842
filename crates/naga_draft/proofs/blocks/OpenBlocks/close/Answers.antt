use Rattle.std.proofs.Common.{refl}
use Rattle.naga_draft.proofs.BlockLemmas.{close-adds}
use Rattle.naga_draft.specs.declared.item.Mark.TheVariants as mark
use Rattle.naga_draft.proofs.blocks.OpenBlocks.close.Goals as goal

pub returns-clause-added : goal.returns-clause-added
returns-clause-added c =
    close-adds c.args.self.now c.take.new.self (record c.take.new.self { block = c.push.new.self }) c.in_ok-opener.opener c.in_ok-opener.block mark.End c.in_ok-statement.statement
    c.in_ok-opener.ensures.taken c.in_ok-statement.ensures.closed refl c.in_ok-push.ensures.pushed
