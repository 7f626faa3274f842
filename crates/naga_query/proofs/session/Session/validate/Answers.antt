use Rattle.naga_query.proofs.Acceptance.{accepted_module}
use Rattle.naga_query.proofs.session.Session.validate.Goals as goal

pub returns : goal.returns
returns g c = accepted_module _ _ _ _ _ c.in_ok-info.ensures c.functions.ensures.flags c.functions.ensures.in_order
