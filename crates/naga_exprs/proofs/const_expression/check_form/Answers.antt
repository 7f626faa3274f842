use Rattle.std.proofs.Common.{◌<◌, ℕ, List, All, ap, length, subst, sym, ◌∙◌}
use Rattle.naga_arena.proofs.Elements.{all_at}
use Rattle.naga_ir.proofs.Origins.{composition_by_origin, splat_by_origin}
use Rattle.naga_ir.specs.References.{components_of}
use Rattle.naga_typing.specs.Context.{lists_of}
use Rattle.naga_typing.specs.Resolutions.{TypesExist}
use Rattle.naga_exprs.proofs.Operands.{components_before, splatted_before, type_exists}
use Rattle.naga_exprs.proofs.const_expression.check_form.Goals as goal

pub validate_compose_at-requires-clause-there : goal.validate_compose_at-requires-clause-there
validate_compose_at-requires-clause-there g c =
    type_exists (lists_of c.args.gctx) c.requires.references c.args.handle (length c.args.mod_info.now.lists.const_expression_types) c.index-expression.result.now c.index-expression.ensures c.requires.typed c.in-Compose.ty _ (composition_by_origin _ c.in-Compose.ty (sym c.origin.ensures ∙ c.in-Compose.is))

pub validate_compose_at-requires-clause-components :
    goal.validate_compose_at-requires-clause-components
validate_compose_at-requires-clause-components g c =
    let n = length c.args.mod_info.now.lists.const_expression_types in
    let before = components_before (lists_of c.args.gctx) c.requires.references c.args.handle n c.index-expression.result.now c.index-expression.ensures c.requires.typed c.in-Compose.ty (components_of c.index-expression.result.now) (composition_by_origin _ c.in-Compose.ty (sym c.origin.ensures ∙ c.in-Compose.is)) in
    subst (λ (os : List ℕ). All (λ o. o < length c.const_expression_types-types.result.now) os) (sym c.components.ensures)
    (subst (λ (m : ℕ). All (λ o. o < m) (components_of c.index-expression.result.now)) (sym (ap length c.const_expression_types-types.ensures)) before)

pub index-requires : goal.index-requires
index-requires g c =
    let splat = splat_by_origin c.index-expression.result.now c.in-Splat.value (sym c.origin.ensures ∙ c.in-Splat.is) in
    splatted_before (lists_of c.args.gctx) c.requires.references c.args.handle (length c.args.mod_info.now.lists.const_expression_types) c.index-expression.result.now c.index-expression.ensures c.requires.typed splat.0 c.in-Splat.value splat.1

pub check_splat-requires : goal.check_splat-requires
check_splat-requires g c = all_at (TypesExist c.args.gctx.types.now) c.args.mod_info.now.lists.const_expression_types c.in-Splat.value c.index.result.now c.requires.types c.index.ensures
