-- When all types of a module are accepted.
use Rattle.std.specs.Prelude.{ℕ, Bool, List, Option, Result, option_map, take}
use Rattle.naga_arena.specs.InOrder.{AllAcceptedInOrder, RuleInOrder}
use Rattle.naga_flags.specs.declared.flags.Capabilities.{Capabilities}
use Rattle.naga_ir.specs.Handles.{HandlesAccepted}
use Rattle.naga_ir.specs.ItemReferences.{GlobalLists, global_lists}
use Rattle.naga_ir.specs.declared.ir.Module.{Module}
use Rattle.naga_ir.specs.declared.types.«Type».{«Type»}
use Rattle.naga_types.specs.Surroundings.{Surroundings, form_at}
use Rattle.naga_types.specs.TypeRule.{TypeRule, type_rule}
use Rattle.naga_types.specs.declared.error.TypeError.{TypeError}
use Rattle.naga_types.specs.declared.info.TypeContext.{TypeContext}
use Rattle.naga_types.specs.declared.info.TypeInfo.{TypeInfo}
use Rattle.naga_typing.specs.Context.{lists_of}
use Rattle.naga_typing.specs.Layout.{AreLayouts}
use Rattle.naga_typing.specs.declared.context.GlobalCtx.{GlobalCtx}
use Rattle.naga_typing.specs.declared.layouter.TypeLayout.{TypeLayout}

-- the rule on the type at a place
abbrev pub rule_at : Surroundings → ℕ → Option (Result TypeInfo TypeError)
rule_at s t = option_map (type_rule s t) (form_at s t)

-- the handles of `m` are right, and `layouts` are the layouts of its types
pub record IsLaidOut (m : Module) (layouts : List TypeLayout) : Type 0 where
  pub handles : HandlesAccepted m
  pub each_type : AreLayouts (global_lists m) layouts

-- what the rule of a type depends on: the capabilities, whether overrides have to have their values, the lists that
-- types refer to, the layouts of all types, and the infos of the types before it
abbrev pub surroundings_by : GlobalLists → Capabilities → Bool → List TypeLayout → List TypeInfo → Surroundings
surroundings_by g capabilities resolved layouts infos = record { capabilities = capabilities.0; resolved = resolved; lists = g; layouts = layouts; infos = infos }

-- `rule` of all types, each by the infos of those before it
abbrev pub types_by : TypeRule → GlobalLists → Capabilities → Bool → List TypeLayout → RuleInOrder «Type» TypeInfo TypeError
types_by rule g capabilities resolved layouts infos t ty = rule (surroundings_by g capabilities resolved layouts infos) t ty.inner

-- the rule of all types, each by the infos of those before it
abbrev pub types_rule : GlobalLists → Capabilities → Bool → List TypeLayout → RuleInOrder «Type» TypeInfo TypeError
types_rule = types_by type_rule

-- the types of `m` have `layouts`, and each keeps `rule`, which gives `infos`
pub record AreTypesAcceptedBy (rule : TypeRule) (m : Module) (capabilities : Capabilities) (resolved : Bool) (layouts : List TypeLayout) (infos : List TypeInfo) : Type 0 where
  pub laid_out : IsLaidOut m layouts
  pub each_type : AllAcceptedInOrder (types_by rule (global_lists m) capabilities resolved layouts) m.types infos

-- the types of a module have these layouts, and each keeps `type_rule`, which gives these infos
abbrev pub AreTypesAccepted : Module → Capabilities → Bool → List TypeLayout → List TypeInfo → Type 0
AreTypesAccepted = AreTypesAcceptedBy type_rule

-- the types of `g` before index `t` are accepted, and their infos are in `ctx`
abbrev pub AreAcceptedBefore : TypeContext → GlobalCtx → ℕ → Type 0
AreAcceptedBefore ctx g t = AllAcceptedInOrder (types_rule (lists_of g) ctx.capabilities ctx.overrides_resolved ctx.layouter.now) (take t g.types.now) (take t ctx.infos.now.infos)
