-- Accepted types have no short strides, and where arrays may have any, the same are accepted but for those.
use Rattle.std.proofs.Common.{◌≡◌, ◌<◌, ◌≤◌, ◌∙◌, ℕ, Bool, true, false, List, Some, Ok, ap, arith, refl, slice_get, subst, sym}
use Rattle.std.specs.Option.{option_map}
use Rattle.std.proofs.lemmas.Bool.{le-leb}
use Rattle.std.proofs.lemmas.Option.{slice_get_within}
use Rattle.naga_arena.proofs.InOrder.{found_at}
use Rattle.naga_flags.specs.declared.flags.Capabilities.{Capabilities}
use Rattle.naga_ir.proofs.Handles.{global_references_ok}
use Rattle.naga_ir.proofs.ReferencesOfItems.{parts_come_before}
use Rattle.naga_ir.proofs.PartLemmas.{base_is}
use Rattle.naga_ir.specs.ItemReferences.{GlobalLists, global_lists}
use Rattle.naga_ir.specs.declared.ir.Module.{Module}
use Rattle.naga_ir.specs.declared.types.«Type».{«Type»}
use Rattle.naga_ir.specs.declared.types.ArraySize.{ArraySize}
use Rattle.naga_ir.specs.declared.types.TypeInner.{TypeInner}
use Rattle.naga_ir.specs.declared.types.TypeInner.TheVariants as form
use Rattle.naga_types.proofs.CheckedTypes.{accepted_types, size_laid_out, stride_fits}
use Rattle.naga_types.proofs.LeafPlaces.{map_some}
use Rattle.naga_types.proofs.WeakerConditions.{all-too, passed-too, same}
use Rattle.naga_types.specs.AcceptedTypes.{AreTypesAccepted, AreTypesAcceptedBy, IsLaidOut, surroundings_by, types_by, types_rule}
use Rattle.naga_types.specs.Checks.{require}
use Rattle.naga_types.specs.Surroundings.{Surroundings, size_at}
use Rattle.naga_types.specs.TypeRule.{array_checks, type_rule, type_rule_with}
use Rattle.naga_types.specs.declared.error.TypeError.TheVariants.{InvalidArrayStride}
use Rattle.naga_types.specs.declared.info.TypeInfo.{TypeInfo}
use Rattle.naga_typing.specs.Leaves.{HasNoShortStride, itself}
use Rattle.naga_typing.specs.declared.layouter.TypeLayout.{TypeLayout}

any_stride : (s : Surroundings) (t : ℕ) (inner : TypeInner) (i : TypeInfo) → type_rule s t inner ≡ Ok i → type_rule_with true s t inner ≡ Ok i
any_stride s t (form.Array base size stride) i is =
    passed-too (array_checks false s t base size stride) (array_checks true s t base size stride) _ i (same, ((λ kept. refl), (same, tt))) is
any_stride s t _ i is = is

-- the stride of an array is not below the size of its elements, if a type is one
abbrev Fits : Surroundings → TypeInner → Type 0
Fits s inner = (base : ℕ) (size : ArraySize) (stride : ℕ) → inner ≡ form.Array base size stride → size_at s base ≤ stride

no_short_stride : (s : Surroundings) (t : ℕ) (inner : TypeInner) (i : TypeInfo) → Fits s inner → type_rule_with true s t inner ≡ Ok i → type_rule s t inner ≡ Ok i
no_short_stride s t (form.Array base size stride) i fits is =
    passed-too (array_checks true s t base size stride) (array_checks false s t base size stride) _ i
    (same, ((λ kept. ap (λ b. require b (InvalidArrayStride stride (size_at s base))) (le-leb (size_at s base) stride (fits base size stride refl))), (same, tt))) is
no_short_stride s t _ i fits is = is

module _ (m : Module) (capabilities : Capabilities) (resolved : Bool) (layouts : List TypeLayout) (infos : List TypeInfo) where
  abbrev g : GlobalLists
  g = global_lists m

  -- no array has a stride below the size of its elements
  abbrev HaveNoShortStrides : Type 0
  HaveNoShortStrides = (t : ℕ) → HasNoShortStride g t

  -- no accepted type has a short stride
  pub no-short_stride : AreTypesAccepted m capabilities resolved layouts infos → HaveNoShortStrides
  no-short_stride h t u base size stride inside is =
      let found = map_some (λ (ty : «Type»). ty.inner) (slice_get m.types u) (form.Array base size stride) is in
      let exists = slice_get_within m.types u found.0 found.1 in
      stride_fits (accepted_types m capabilities resolved layouts infos h) u base size stride (omega (arith, exists, h.each_type.as_many)) is

  -- what is accepted is accepted where strides may be short
  pub any-stride : AreTypesAccepted m capabilities resolved layouts infos → AreTypesAcceptedBy (type_rule_with true) m capabilities resolved layouts infos
  any-stride h = record {
    laid_out = h.laid_out;
    each_type =
        all-too (types_rule g capabilities resolved layouts) (types_by (type_rule_with true) g capabilities resolved layouts) m.types
        (λ before k ty i at. any_stride (surroundings_by g capabilities resolved layouts before) k ty.inner i) infos h.each_type;
  }

  fits : IsLaidOut m layouts → HaveNoShortStrides → (k : ℕ) (ty : «Type») → slice_get m.types k ≡ Some ty → (before : List TypeInfo) → Fits (surroundings_by g capabilities resolved layouts before) ty.inner
  fits laid_out none k ty at before base size stride is =
      let references = global_references_ok m laid_out.handles in
      let earlier = base_is (λ p. p < k) ty.inner base size stride (λ p names. parts_come_before g references k ty p at names) is in
      let found = found_at m.types base (omega (arith, earlier, slice_get_within m.types k ty at)) in
      subst (λ bytes. bytes ≤ stride) (sym (size_laid_out g layouts laid_out.each_type references base found.0 found.1))
      (none k k base size stride itself (ap (option_map (λ (ty : «Type»). ty.inner)) at ∙ ap Some is))

  -- what is accepted where strides may be short is accepted if no stride is short
  pub strides-fit : HaveNoShortStrides → AreTypesAcceptedBy (type_rule_with true) m capabilities resolved layouts infos → AreTypesAccepted m capabilities resolved layouts infos
  strides-fit none h = record {
    laid_out = h.laid_out;
    each_type =
        all-too (types_by (type_rule_with true) g capabilities resolved layouts) (types_rule g capabilities resolved layouts) m.types
        (λ before k ty i at. no_short_stride (surroundings_by g capabilities resolved layouts before) k ty.inner i (fits h.laid_out none k ty at before)) infos h.each_type;
  }
