use Rattle.naga_handles.proofs.RankLemmas.{decides, falls_if_ordered}
use Rattle.naga_handles.proofs.order.visit_order.Goals as goal

pub returns-clause-verdict : goal.returns-clause-verdict
returns-clause-verdict c = decides c.args.module.now c.order_of.result c.order_of.ensures.accepted c.order_of.ensures.refused

pub returns-clause-falls : goal.returns-clause-falls
returns-clause-falls c = falls_if_ordered c.args.module.now c.order_of.result c.order_of.ensures.accepted
