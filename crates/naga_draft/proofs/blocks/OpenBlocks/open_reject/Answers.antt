use Rattle.std.proofs.Common.{Err, refl}
use Rattle.naga_draft.proofs.BlockLemmas.{added-along, reject-added}
use Rattle.naga_draft.specs.declared.item.Mark.TheVariants as mark
use Rattle.naga_draft.specs.declared.unread.Unread.TheVariants as unread
use Rattle.naga_draft.proofs.blocks.OpenBlocks.open_reject.Goals as goal
use Rattle.naga_draft.proofs.blocks.OpenBlocks.open_reject.Goals.{in-Accept, in-Block}

pub returns-clause-added : goal.returns-clause-added
returns-clause-added c =
    elim c.match-opener.branch [
      | in-Accept w ↦
          added-along mark.Else c.args.self.now c.match-opener.self w.enter.new.self c.match-opener.result w.enter.result w.result-is w.self-is
          (reject-added c.args.self.now c.take.new.self w.enter.new.self c.in_ok-opener.opener w.in-Accept.condition c.in_ok-opener.accept w.enter.result c.in_ok-opener.ensures.taken w.in-Accept.is w.enter.ensures.opened)
      | in-Block w ↦ added-along mark.Else c.args.self.now c.match-opener.self c.match-opener.self c.match-opener.result (Err unread.Item) w.result-is refl tt
    ]
