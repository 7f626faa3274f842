use Rattle.std.proofs.Common.{subst}
use Rattle.naga_immediates.proofs.SlotSets.{greatest_size}
use Rattle.naga_immediates.specs.Slots.{IsSetOf, SharesByte}
use Rattle.naga_immediates.proofs.immediates.slots_of_part.Goals as goal

pub returns : goal.returns
returns c =
    greatest_size _ _ c.try_size.result c.from_range.result c.try_size.ensures.value
    (subst (λ n. IsSetOf (SharesByte c.args.offset n) c.from_range.result) c.unwrap_or.ensures c.from_range.ensures)
