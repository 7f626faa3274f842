use Rattle.std.proofs.Common.{◌<◌, rules}
use Rattle.naga_query.proofs.Calls.{call_below}
use Rattle.naga_query.proofs.answers.overloads.call_of.Goals as goal

pub returns : goal.returns
returns c =
    let first : c.new.result < c.args.count = search rules in
    call_below c.args.count c.args.fun c.new.result _ _ _ first c.argument_at.ensures c.argument_at-2.ensures c.argument_at-3.ensures
