-- What is accepted is accepted where strides may be short, and has none.
use Rattle.std.proofs.Common.{◌↔◌, ℕ, List, true}
use Rattle.naga_info.specs.ModuleInfo.{ModuleInfoLists}
use Rattle.naga_ir.specs.ItemReferences.{global_lists}
use Rattle.naga_ir.specs.declared.ir.Module.{Module}
use Rattle.naga_types.proofs.Strides.{any-stride, no-short_stride, strides-fit}
use Rattle.naga_types.specs.AcceptedTypes.{AreTypesAcceptedBy}
use Rattle.naga_types.specs.TypeRule.{TypeRule, type_rule, type_rule_with}
use Rattle.naga_types.specs.declared.info.TypeInfo.{TypeInfo}
use Rattle.naga_typing.specs.Leaves.{HasNoShortStride}
use Rattle.naga_typing.specs.Typings.{Resolves}
use Rattle.naga_typing.specs.declared.layouter.TypeLayout.{TypeLayout}
use Rattle.naga_valid.specs.Accepted.{Accepts, AcceptsBy}
use Rattle.naga_valid.specs.State.{Settings}

module _ (resolves : Resolves) (m : Module) (settings : Settings) (infos : List TypeInfo) (lists : ModuleInfoLists) where
  -- all else of an accepted module is the same by any rule of types
  by_types : (rule other : TypeRule) → ((layouts : List TypeLayout) (infos : List TypeInfo) → AreTypesAcceptedBy rule m settings.capabilities settings.resolved layouts infos
      → AreTypesAcceptedBy other m settings.capabilities settings.resolved layouts infos)
      → AcceptsBy rule resolves m settings infos lists → AcceptsBy other resolves m settings infos lists
  by_types rule other too a =
      let known = a.accepted.known in
      record {
        facts = a.facts;
        accepted = record {
          known = record { types = record { layouts = known.types.layouts; accepted = too known.types.layouts a.facts.infos known.types.accepted }; resolutions = known.resolutions };
          values = a.accepted.values;
        };
        infos_are = a.infos_are;
        lists_are = a.lists_are;
      }

  -- no array of an accepted module has a short stride
  no_short_stride : Accepts resolves m settings infos lists → (t : ℕ) → HasNoShortStride (global_lists m) t
  no_short_stride a = let types = a.accepted.known.types in no-short_stride m settings.capabilities settings.resolved types.layouts a.facts.infos types.accepted

  -- a module is accepted exactly if it is accepted where strides may be short, and has no short stride
  pub accepts-strides : Accepts resolves m settings infos lists ↔ (AcceptsBy (type_rule_with true) resolves m settings infos lists × ((t : ℕ) → HasNoShortStride (global_lists m) t))
  accepts-strides = (
    λ a. (by_types type_rule (type_rule_with true) (any-stride m settings.capabilities settings.resolved) a, no_short_stride a),
    λ h. by_types (type_rule_with true) type_rule (λ layouts infos. strides-fit m settings.capabilities settings.resolved layouts infos h.1) h.0,
  )
