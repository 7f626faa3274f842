-- What is accepted if overrides must have their values is accepted if they needn't.
use Rattle.std.proofs.Common.{◌≡◌, ℕ, true, false, List, Ok, refl}
use Rattle.naga_flags.specs.declared.flags.Capabilities.{Capabilities}
use Rattle.naga_ir.specs.ItemReferences.{global_lists}
use Rattle.naga_ir.specs.declared.ir.Module.{Module}
use Rattle.naga_ir.specs.declared.types.TypeInner.{TypeInner}
use Rattle.naga_ir.specs.declared.types.TypeInner.TheVariants as form
use Rattle.naga_types.proofs.WeakerConditions.{all-too, passed-too, same}
use Rattle.naga_types.specs.AcceptedTypes.{AreTypesAccepted, surroundings_by, types_rule}
use Rattle.naga_types.specs.Surroundings.{Surroundings}
use Rattle.naga_types.specs.TypeRule.{array_checks, type_rule}
use Rattle.naga_types.specs.declared.info.TypeInfo.{TypeInfo}
use Rattle.naga_typing.specs.declared.layouter.TypeLayout.{TypeLayout}

type_unresolved : (s : Surroundings) (t : ℕ) (inner : TypeInner) (i : TypeInfo) → type_rule (record s { resolved = true }) t inner ≡ Ok i → type_rule (record s { resolved = false }) t inner ≡ Ok i
type_unresolved s t (form.Array base size stride) i is =
    passed-too (array_checks false (record s { resolved = true }) t base size stride) (array_checks false (record s { resolved = false }) t base size stride) _ i (same, (same, ((λ kept. refl), tt))) is
type_unresolved s t _ i is = is

module _ (m : Module) (capabilities : Capabilities) (layouts : List TypeLayout) where
  -- all types are accepted if overrides needn't have their values, with the same infos
  pub unresolved : (infos : List TypeInfo) → AreTypesAccepted m capabilities true layouts infos → AreTypesAccepted m capabilities false layouts infos
  unresolved infos h = record {
    laid_out = h.laid_out;
    each_type =
        all-too (types_rule (global_lists m) capabilities true layouts) (types_rule (global_lists m) capabilities false layouts) m.types
        (λ before k ty i at. type_unresolved (surroundings_by (global_lists m) capabilities true layouts before) k ty.inner i) infos h.each_type;
  }
