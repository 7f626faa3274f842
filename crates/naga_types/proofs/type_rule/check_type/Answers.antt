use Rattle.std.proofs.Common.{◌<◌, ℕ, All, subst, sym, arith}
use Rattle.naga_ir.proofs.PartLemmas.{base_is, members_are}
use Rattle.naga_ir.specs.declared.types.StructMember.{StructMember}
use Rattle.naga_typing.proofs.Existence.{array_override_exists, references_exist}
use Rattle.naga_typing.specs.Context.{lists_of}
use Rattle.naga_types.proofs.PartsBefore.{before, binding_array_base_before, pointer_base_before}
use Rattle.naga_types.proofs.type_rule.check_type.Goals as goal

pub get-requires : goal.get-requires
get-requires c =
    let stands = pointer_base_before (lists_of c.args.gctx) c.requires.references _ _ c.index-2.ensures _ _ c.in-Pointer.is in
    omega (arith, stands, c.requires.known)

pub validate_array-requires-clause-before : goal.validate_array-requires-clause-before
validate_array-requires-clause-before c =
    base_is (λ (p : ℕ). p < c.args.handle) _ _ _ _ (before (lists_of c.args.gctx) c.requires.references _ _ c.index-2.ensures) c.in-Array.is

pub validate_array-requires-clause-there : goal.validate_array-requires-clause-there
validate_array-requires-clause-there c =
    array_override_exists (lists_of c.args.gctx) _ _ _ _ (references_exist (lists_of c.args.gctx) c.requires.references _ _ c.index-2.ensures) c.in-Array.is

pub validate_struct-requires-clause-members : goal.validate_struct-requires-clause-members
validate_struct-requires-clause-members c =
    subst (All (λ (m : StructMember). m.ty < c.args.handle)) (sym c.as_slice.ensures)
    (members_are (λ (p : ℕ). p < c.args.handle) _ _ _ (before (lists_of c.args.gctx) c.requires.references _ _ c.index-2.ensures) c.in-Struct.is)

pub validate_binding_array-requires-clause-known : goal.validate_binding_array-requires-clause-known
validate_binding_array-requires-clause-known c =
    let stands = binding_array_base_before (lists_of c.args.gctx) c.requires.references _ _ c.index-2.ensures _ _ c.in-BindingArray.is in
    omega (arith, stands, c.requires.known)

pub validate_binding_array-requires-clause-there : goal.validate_binding_array-requires-clause-there
validate_binding_array-requires-clause-there c =
    let stands = binding_array_base_before (lists_of c.args.gctx) c.requires.references _ _ c.index-2.ensures _ _ c.in-BindingArray.is in
    omega (arith, stands, c.requires.exists)
