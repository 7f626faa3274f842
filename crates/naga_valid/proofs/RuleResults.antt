-- What `validate_type` returns is what the rule gives in order.
use Rattle.std.proofs.Common.{◌≡◌, ⊎_elim, ℕ, Bool, List, Some, Ok, Err, Result, IfSome, slice_get, sym, subst, ap, ◌∙◌}
use Rattle.std.specs.Option.{option_map}
use Rattle.naga_arena.specs.InOrder.{given_at}
use Rattle.naga_flags.specs.declared.flags.Capabilities.{Capabilities}
use Rattle.naga_ir.specs.ItemReferences.{global_lists}
use Rattle.naga_ir.specs.declared.ir.Module.{Module}
use Rattle.naga_ir.specs.declared.types.«Type».{«Type»}
use Rattle.naga_types.specs.AcceptedTypes.{surroundings_by, rule_at, types_rule}
use Rattle.naga_types.specs.RuleResults.{IsRuleResult, NeedsMemory}
use Rattle.naga_types.specs.Surroundings.{Surroundings, form_in}
use Rattle.naga_types.specs.TypeRule.{type_rule}
use Rattle.naga_types.specs.declared.error.TypeError.{TypeError}
use Rattle.naga_types.specs.declared.error.TypeError.TheVariants.{OutOfMemory}
use Rattle.naga_types.specs.declared.info.TypeInfo.{TypeInfo}
use Rattle.naga_typing.specs.declared.layouter.TypeLayout.{TypeLayout}

module _ (m : Module) (capabilities : Capabilities) (resolved : Bool) (layouts : List TypeLayout) (infos : List TypeInfo) (t : ℕ) (ty : «Type») (at : slice_get m.types t ≡ Some ty) where
  abbrev known : Surroundings
  known = surroundings_by (global_lists m) capabilities resolved layouts infos

  abbrev ThisRule : Result TypeInfo TypeError → Type 0
  ThisRule r = IfSome (rule_at known t) (λ rule. IsRuleResult rule r)

  given_is : given_at (types_rule (global_lists m) capabilities resolved layouts) m.types infos t ≡ Some (type_rule known t ty.inner)
  given_is = ap (option_map (types_rule (global_lists m) capabilities resolved layouts infos t)) at

  returned : (r : Result TypeInfo TypeError) → ThisRule r → IsRuleResult (type_rule known t ty.inner) r
  returned r said = subst (λ o. IfSome o (λ rule. IsRuleResult rule r)) (ap (λ x. option_map (type_rule known t) (form_in x)) at) said

  -- an info that is returned is the rule's
  pub returns_ok : (i : TypeInfo) → ThisRule (Ok i) → given_at (types_rule (global_lists m) capabilities resolved layouts) m.types infos t ≡ Some (Ok i)
  returns_ok i said =
      given_is ∙ ap Some (sym (⊎_elim (λ (e : Ok i ≡ type_rule known t ty.inner). e) (λ (h : (Ok i ≡ Err OutOfMemory) × NeedsMemory (type_rule known t ty.inner)). cc (h.0)) (returned (Ok i) said)))

  -- an error that is returned is the rule's, unless it is refused memory
  pub returns_err : (e : TypeError) → ThisRule (Err e) → ¬ (e ≡ OutOfMemory) → given_at (types_rule (global_lists m) capabilities resolved layouts) m.types infos t ≡ Some (Err e)
  returns_err e said other =
      given_is ∙ ap Some (sym (⊎_elim
      (λ (e_is : Err e ≡ type_rule known t ty.inner). e_is)
      (λ (h : (Err e ≡ Err OutOfMemory) × NeedsMemory (type_rule known t ty.inner)). absurd (other (same_error e h.0)))
      (returned (Err e) said)))
    where
      same_error : (e : TypeError) → (let one : Result TypeInfo TypeError = Err e in one ≡ Err OutOfMemory) → e ≡ OutOfMemory
      same_error e h = cc h
