use Rattle.naga_valid.proofs.ModuleLaws.{constructible_array, constructible_struct, flags_of_members}
use Rattle.naga_valid.proofs.laws.struct_flags.Goals as goal

pub returns : goal.returns
returns g c =
    let m = c.args.module.now in
    let valid = c.requires.accepted in
    record {
      members = flags_of_members m _ _ valid c.args.ty;
      constructible_struct = constructible_struct m _ _ valid c.args.ty;
      constructible_array = constructible_array m _ _ valid c.args.ty;
    }
