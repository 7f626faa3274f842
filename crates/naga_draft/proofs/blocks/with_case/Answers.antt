use Rattle.naga_draft.proofs.BlockLemmas.{adds-case}
use Rattle.naga_draft.proofs.blocks.with_case.Goals as goal

pub returns-clause-added : goal.returns-clause-added
returns-clause-added c = adds-case c.args.cases.items c.push.new.self.items _ c.in_ok-push.ensures.items
