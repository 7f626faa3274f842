-- Which modules are accepted, and how the others are refused.
use Rattle.std.specs.Prelude.{◌≡◌, ◌⊎◌, ℕ, Bool, List, [], All, IsOk, IsTrue, Result, Some, map, slice_get, unwrap_or}
use Rattle.naga_arena.specs.InOrder.{IsFirstErrorInOrder}
use Rattle.naga_arena.specs.Results.{IsFirstError}
use Rattle.naga_flags.specs.Bits.{CONSTANTS}
use Rattle.naga_flags.specs.Flags.{has}
use Rattle.naga_handles.specs.Faults.{IsFault, IsHandleFault}
use Rattle.naga_handles.specs.declared.error.ValidationFault.TheVariants.{MissingMember}
use Rattle.naga_info.specs.ModuleInfo.{ModuleInfoLists}
use Rattle.naga_info.specs.declared.const_expression_error.ConstExpressionError.{ConstExpressionError}
use Rattle.naga_info.specs.declared.const_expression_error.ConstExpressionError.TheVariants.{Type_ as Unresolved}
use Rattle.naga_ir.specs.Handles.{HandlesAccepted}
use Rattle.naga_ir.specs.ItemReferences.{global_lists}
use Rattle.naga_ir.specs.declared.ir.Module.{Module}
use Rattle.naga_ir.specs.declared.types.«Type».{«Type»}
use Rattle.naga_types.specs.AcceptedTypes.{AreTypesAcceptedBy, IsLaidOut, types_rule}
use Rattle.naga_types.specs.TypeRule.{TypeRule, type_rule}
use Rattle.naga_types.specs.declared.error.TypeError.{TypeError}
use Rattle.naga_types.specs.declared.error.TypeError.TheVariants.{InvalidData}
use Rattle.naga_types.specs.declared.info.TypeInfo.{TypeInfo}
use Rattle.naga_typing.specs.Layout.{layout_results}
use Rattle.naga_typing.specs.Typings.{AreResolved, Resolves, resolve_in_order}
use Rattle.naga_typing.specs.declared.layouter.LayoutError.{LayoutError}
use Rattle.naga_typing.specs.declared.layouter.TypeLayout.{TypeLayout}
use Rattle.naga_typing.specs.declared.typifier.ResolveError.{ResolveError}
use Rattle.naga_valid.specs.State.{Facts, Settings}
use Rattle.naga_valid.specs.Values.{AreValueResults}
use Rattle.naga_valid.specs.declared.error.ValidationError.{ValidationError}
use Rattle.naga_valid.specs.declared.error.ValidationError.TheVariants.{InvalidHandle, Layouter, Type_, ConstExpression}

-- what a module's users learn of its `facts`: what each type may be used for, and the type of each global expression;
-- functions and entry points are not validated
abbrev pub lists_of : Facts → ModuleInfoLists
lists_of facts = record {
  type_flags = map (λ (i : TypeInfo). i.flags) facts.infos;
  functions = [];
  entry_points = [];
  const_expression_types = facts.resolutions;
}

-- the types of `m` are accepted by `rule`, and `infos` are their infos
pub record AreValidTypesBy (rule : TypeRule) (m : Module) (settings : Settings) (infos : List TypeInfo) : Type 0 where
  pub layouts : List TypeLayout
  pub accepted : AreTypesAcceptedBy rule m settings.capabilities settings.resolved layouts infos

-- the types of `m` are accepted by `rule`, and its global expressions have types: their infos and these types are
-- `facts`
pub record AreTypesAndExpressionsAcceptedBy (rule : TypeRule) (resolves : Resolves) (m : Module) (settings : Settings)
    (facts : Facts) : Type 0 where
  pub types : AreValidTypesBy rule m settings facts.infos
  pub resolutions : AreResolved resolves m facts.resolutions

-- the types of a module are accepted, and these are their infos
abbrev pub AreValidTypes : Module → Settings → List TypeInfo → Type 0
AreValidTypes = AreValidTypesBy type_rule

-- the types of a module are accepted, and its global expressions have types: these are the `facts`
abbrev pub AreTypesAndExpressionsAccepted : Resolves → Module → Settings → Facts → Type 0
AreTypesAndExpressionsAccepted = AreTypesAndExpressionsAcceptedBy type_rule

-- all values of the module `m` keep their rules
pub record AreValuesAccepted (m : Module) (settings : Settings) (facts : Facts) : Type 0 where
  pub results : List (Result (Unit {0}) ValidationError)
  pub are_results : AreValueResults settings.capabilities settings.resolved m (lists_of facts) results
  pub all_ok : All IsOk results

-- whether values are validated at all
abbrev pub checks_values : Settings → Bool
checks_values settings = has settings.flags.0 CONSTANTS

-- the module `m` is accepted, where `rule` is the rule of a type, with `facts`: they are known, and the values of `m`
-- keep their rules if they are validated
pub record IsAcceptedBy (rule : TypeRule) (resolves : Resolves) (m : Module) (settings : Settings) (facts : Facts) : Type 0 where
  pub known : AreTypesAndExpressionsAcceptedBy rule resolves m settings facts
  pub values : IsTrue (checks_values settings) → AreValuesAccepted m settings facts

-- a module is accepted, and these are the facts
abbrev pub IsAccepted : Resolves → Module → Settings → Facts → Type 0
IsAccepted = IsAcceptedBy type_rule

-- a module keeps all rules
abbrev pub IsValid : Resolves → Module → Settings → Type 0
IsValid resolves m settings = (facts : Facts) × IsAccepted resolves m settings facts

-- the module `m` is accepted, where `rule` is the rule of a type, with facts of which `infos` are the infos and `lists`
-- what its users learn
pub record AcceptsBy (rule : TypeRule) (resolves : Resolves) (m : Module) (settings : Settings) (infos : List TypeInfo) (lists : ModuleInfoLists) : Type 0 where
  pub facts : Facts
  pub accepted : IsAcceptedBy rule resolves m settings facts
  pub infos_are : infos ≡ facts.infos
  pub lists_are : lists ≡ lists_of facts

-- a module is accepted with facts of which these are the infos and what its users learn
abbrev pub Accepts : Resolves → Module → Settings → List TypeInfo → ModuleInfoLists → Type 0
Accepts = AcceptsBy type_rule

-- the type of index `place` has the name `name`, or has none and `name` is empty
abbrev pub IsNameOf : List «Type» → ℕ → List ℕ → Type 0
IsNameOf types place name = (t : «Type») × (slice_get types place ≡ Some t) × (name ≡ unwrap_or t.name [])

-- a comment documents a member that the type of index `handle` doesn't have
abbrev pub IsMissingMember : Module → ℕ → List ℕ → TypeError → Type 0
IsMissingMember m handle name source = IsFault m (MissingMember handle name) × (source ≡ InvalidData handle)

-- all handles are right, and `e` names the first type that has no layout, and why
abbrev pub IsLayoutRefusal : Module → LayoutError → Type 0
IsLayoutRefusal m e = HandlesAccepted m × IsFirstError (layout_results (global_lists m)) e.ty e.inner

-- all types have layouts, and the type of index `handle` is the first that breaks its rule, with the error `source`
pub record IsTypeRefusal (m : Module) (settings : Settings) (handle : ℕ) (name : List ℕ) (source : TypeError) : Type 0 where
  pub layouts : List TypeLayout
  pub laid_out : IsLaidOut m layouts
  pub first : IsFirstErrorInOrder (types_rule (global_lists m) settings.capabilities settings.resolved layouts) m.types handle source
  pub named : IsNameOf m.types handle name

-- all types keep their rules, and the global expression of index `handle` is the first that has no type
pub record IsUnresolved (resolves : Resolves) (m : Module) (settings : Settings) (handle : ℕ) (source : ConstExpressionError) : Type 0 where
  pub infos : List TypeInfo
  pub types : AreValidTypes m settings infos
  pub error : ResolveError
  pub first : IsFirstErrorInOrder (resolve_in_order resolves m) m.global_expressions handle error
  pub reported_as : source ≡ Unresolved error

-- types and global expressions are known, and `e` is the first error among the values
pub record IsValueRefusal (resolves : Resolves) (m : Module) (settings : Settings) (e : ValidationError) : Type 0 where
  pub facts : Facts
  pub known : AreTypesAndExpressionsAccepted resolves m settings facts
  pub checked : IsTrue (checks_values settings)
  pub results : List (Result (Unit {0}) ValidationError)
  pub are_results : AreValueResults settings.capabilities settings.resolved m (lists_of facts) results
  pub place : ℕ
  pub first : IsFirstError results place e

-- a refusal of a module before its values are validated: a fault of its handles, else the first error of its layouts,
-- else of its types, else of the types of its global expressions
abbrev pub IsEarlyRefusal : Resolves → Module → Settings → ValidationError → Type 0
IsEarlyRefusal resolves m settings (InvalidHandle e) = IsHandleFault m e
IsEarlyRefusal resolves m settings (Layouter e) = IsLayoutRefusal m e
IsEarlyRefusal resolves m settings (Type_ handle name source) =
    IsMissingMember m handle name source ⊎ IsTypeRefusal m settings handle name source
IsEarlyRefusal resolves m settings (ConstExpression handle source) = IsUnresolved resolves m settings handle source
IsEarlyRefusal _ _ _ _ = ⊥

-- `e` is a refusal of the module `m`: one before its values are validated, or the first error of its values
abbrev pub IsRefusal : Resolves → Module → Settings → ValidationError → Type 0
IsRefusal resolves m settings e = IsEarlyRefusal resolves m settings e ⊎ IsValueRefusal resolves m settings e

-- the module `m` is refused with the error `e`, and isn't valid
abbrev pub Refuses : Resolves → Module → Settings → ValidationError → Type 0
Refuses resolves m settings e = IsRefusal resolves m settings e × ¬ (IsValid resolves m settings)
