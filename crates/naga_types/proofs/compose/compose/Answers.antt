use Rattle.std.proofs.Common.{◌<◌, All, length, sym, subst}
use Rattle.naga_ir.specs.declared.types.StructMember.{StructMember}
use Rattle.naga_types.proofs.ComposeLemmas.{base_exists, members_exist}
use Rattle.naga_types.proofs.compose.compose.Goals as goal

pub check_all-requires-in-Array-default-Constant-default-clause-wanted : goal.check_all-requires-in-Array-default-Constant-default-clause-wanted
check_all-requires-in-Array-default-Constant-default-clause-wanted c =
    base_exists c.args.types.now c.args.ty c.index.result.now _ _ _ c.requires.parts c.index.ensures c.in-Array-default-Constant-default.is

pub check_all-requires-in-Struct-clause-wanted : goal.check_all-requires-in-Struct-clause-wanted
check_all-requires-in-Struct-clause-wanted c =
    subst (All (λ (m : StructMember). m.ty < length c.args.types.now)) (sym c.as_slice.ensures)
    (members_exist c.args.types.now c.args.ty c.index.result.now _ _ c.requires.parts c.index.ensures c.in-Struct.is)
