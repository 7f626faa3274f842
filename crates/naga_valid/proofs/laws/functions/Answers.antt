use Rattle.naga_valid.proofs.FunctionLaws.{ready_in_order, flags_known}
use Rattle.naga_valid.proofs.laws.functions.Goals as goal

pub returns : goal.returns
returns g c =
    let m = c.args.module.now in
    let handles = c.requires.accepted.accepted.known.types.accepted.laid_out.handles in
    record {
      handles = handles;
      flags = flags_known _ m _ _ _ c.requires.accepted;
      in_order = ready_in_order m handles;
    }
