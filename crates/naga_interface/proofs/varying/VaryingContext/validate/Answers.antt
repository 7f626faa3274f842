use Rattle.std.proofs.Common.{rules}
use Rattle.naga_interface.specs.Surroundings.{surroundings}
use Rattle.naga_interface.proofs.KnownParts.{members_exist}
use Rattle.naga_interface.proofs.varying.VaryingContext.validate.Goals as goal

pub check_members-requires-clause-exist : goal.check_members-requires-clause-exist
check_members-requires-clause-exist c =
    let all = members_exist (surroundings c.args.self.interface) c.requires.known c.args.ty c.inner.result.now c.in-Struct.members c.in-Struct.span c.inner.ensures c.in-Struct.is in
    search (rules, all)
