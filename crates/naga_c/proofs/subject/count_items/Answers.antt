use Rattle.std.proofs.Common.{rules}
use Rattle.naga_c.proofs.CountLaws.{counted}
use Rattle.naga_c.proofs.subject.count_items.Goals as goal

pub items-preserved : goal.items-preserved
items-preserved c =
    counted c.items.left.now c.in-Some.rest.now c.words_after-left.result.now c.in-Some.head.now c.items.count _ _ (search rules) c.words_after-left.ensures c.items.invariant
