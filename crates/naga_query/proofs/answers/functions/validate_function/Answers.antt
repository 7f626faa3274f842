use Rattle.std.proofs.Common.{◌≤◌, length, rules, subst, sym}
use Rattle.naga_query.proofs.Functions.{ready_at, preceding_within}
use Rattle.naga_query.proofs.Validation.{known_later}
use Rattle.naga_query.proofs.answers.functions.validate_function.Goals as goal
use Rattle.naga_query.specs.Accepted.{ArgumentsAreThere}

pub validate_each-requires-clause-known : goal.validate_each-requires-clause-known
validate_each-requires-clause-known c =
    let m = c.args.draft.now.«module» in
    let at = c.args.at in
    let known = c.requires.known in
    let later : at.preceding ≤ length c.args.info.now.lists.functions =
    subst (λ n. at.preceding ≤ n) (sym known.functions) (preceding_within m at.function.now at.preceding c.requires.there) in
    let there : ArgumentsAreThere at.function.now = search rules in
    record {
      handles = known.handles;
      function = known_later m at.function.now at.preceding _ later (ready_at m at.function.now at.preceding known.in_order c.requires.there);
      arguments = there;
      flags = known.flags;
    }
