use Rattle.std.proofs.Common.{List, [], reverse, sym, ap, subst}
use Rattle.naga_draft.proofs.BlockLemmas.{read-none}
use Rattle.naga_draft.specs.declared.blocks.OuterBlock.{OuterBlock}
use Rattle.naga_draft.specs.OpenBlocks.{IsRead}
use Rattle.naga_draft.proofs.blocks.OpenBlocks.new.Goals as goal

pub returns : goal.returns
returns c =
    subst (λ (outer : List OuterBlock). IsRead [] outer c.new-2.result) (sym (ap reverse c.new.ensures.items)) (read-none c.new-2.result c.new-2.ensures)
