use Rattle.naga_types.proofs.HostLeaves.{leaves_of_result}
use Rattle.naga_types.proofs.type_rule.validate_type.Goals as goal

pub returns-clause-leaves : goal.returns-clause-leaves
returns-clause-leaves c =
    leaves_of_result c.args.ctx c.args.gctx c.args.handle c.check_type.result c.requires.references c.requires.laid_out c.requires.known c.requires.exists c.check_type.ensures
