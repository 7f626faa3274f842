-- A module that is refused isn't valid.
use Rattle.std.proofs.Common.{◌≡◌, ℕ, List, Result, Err, IsOk, IsTrue, inl, inr, slice_get, refl, sym, subst, ap, ◌∙◌}
use Rattle.naga_arena.proofs.Elements.{all_at}
use Rattle.naga_arena.proofs.InOrder.{accepted_once, refused_not_accepted}
use Rattle.naga_arena.specs.InOrder.{AllAcceptedInOrder, IsFirstErrorInOrder}
use Rattle.naga_handles.specs.Faults.{IsFault, invalid, missing_member}
use Rattle.naga_handles.specs.declared.error.ValidationFault.{ValidationFault}
use Rattle.naga_ir.specs.Handles.{HandlesAccepted}
use Rattle.naga_ir.specs.ItemReferences.{global_lists}
use Rattle.naga_ir.specs.declared.ir.Module.{Module}
use Rattle.naga_types.specs.AcceptedTypes.{types_rule}
use Rattle.naga_types.specs.declared.error.TypeError.{TypeError}
use Rattle.naga_types.specs.declared.info.TypeInfo.{TypeInfo}
use Rattle.naga_typing.proofs.Layouts.{layouts_once}
use Rattle.naga_typing.specs.Kinds.{kind_in_order}
use Rattle.naga_typing.specs.Layout.{layout_results}
use Rattle.naga_typing.specs.Typings.{Resolves, resolve_in_order}
use Rattle.naga_typing.specs.declared.layouter.LayoutError.{LayoutError}
use Rattle.naga_typing.specs.declared.layouter.TypeLayout.{TypeLayout}
use Rattle.naga_valid.specs.Accepted.{AreValidTypes, IsEarlyRefusal, AreTypesAndExpressionsAccepted, IsLayoutRefusal, IsTypeRefusal, IsValid, Refuses, checks_values, lists_of}
use Rattle.naga_valid.specs.Faults.{error_of}
use Rattle.naga_valid.specs.State.{Facts, Settings}
use Rattle.naga_valid.specs.Values.{AreValueResults, value_results}
use Rattle.naga_valid.specs.declared.error.ValidationError.{ValidationError}
use Rattle.naga_valid.specs.declared.error.ValidationError.TheVariants.{Layouter, Type_}
use Rattle.naga_valid.specs.steps.KnownValues.{IsFirstValueError, IsFirstUnresolved}

module _ (resolves : Resolves) (m : Module) (settings : Settings) where
  -- a fault of the handles
  pub fault_refuses : (fault : ValidationFault) → IsFault m fault → ¬ (HandlesAccepted m) → Refuses resolves m settings (error_of fault)
  fault_refuses fault (invalid e wrong) broken = (inl wrong, λ v. broken v.1.known.types.accepted.laid_out.handles)
  fault_refuses fault (missing_member t k lines x among at lacks) broken = (inl (inl (missing_member t k lines x among at lacks, refl)), λ v. broken v.1.known.types.accepted.laid_out.handles)

  -- a type without layout
  pub layout_refuses : (e : LayoutError) → IsLayoutRefusal m e → Refuses resolves m settings (Layouter e)
  layout_refuses e r = (inl r, λ v. let ok = all_at IsOk (layout_results (global_lists m)) e.ty (Err e.inner) v.1.known.types.accepted.laid_out.each_type.accepted r.1.refused in cc (ok))

  -- a type that breaks its rule
  pub type_refuses : (handle : ℕ) (name : List ℕ) (source : TypeError) → IsTypeRefusal m settings handle name source → Refuses resolves m settings (Type_ handle name source)
  type_refuses handle name source r = (inl (inr r), λ v. not_valid v)
    where
      First : List TypeLayout → Type 0
      First layouts = IsFirstErrorInOrder (types_rule (global_lists m) settings.capabilities settings.resolved layouts) m.types handle source

      not_valid : ¬ (IsValid resolves m settings)
      not_valid (facts, v) =
          let types = v.known.types in
          let same = layouts_once (global_lists m) r.layouts types.layouts r.laid_out.each_type types.accepted.laid_out.each_type in
          refused_not_accepted (types_rule (global_lists m) settings.capabilities settings.resolved types.layouts) m.types facts.infos handle source (subst First same r.first) types.accepted.each_type

  -- a global expression without type
  pub unresolved_refuses : (infos : List TypeInfo) → AreValidTypes m settings infos → (e : ValidationError) → IsFirstUnresolved resolves m e → Refuses resolves m settings e
  unresolved_refuses infos types e r = (
    inl (subst (IsEarlyRefusal resolves m settings) (sym r.reported_as) (record { infos = infos; types = types; error = r.error; first = r.first; reported_as = refl })),
    λ v. refused_not_accepted (resolve_in_order resolves m) m.global_expressions v.0.resolutions r.handle r.error r.first v.1.known.resolutions,
  )

  -- the infos of a module are the only ones
  infos_once : (us vs : List TypeInfo) → AreValidTypes m settings us → AreValidTypes m settings vs → us ≡ vs
  infos_once us vs u v =
      let same = layouts_once (global_lists m) u.layouts v.layouts u.accepted.laid_out.each_type v.accepted.laid_out.each_type in
      accepted_once (types_rule (global_lists m) settings.capabilities settings.resolved v.layouts) m.types us vs (subst Of same u.accepted.each_type) v.accepted.each_type
    where
      Of : List TypeLayout → Type 0
      Of layouts = AllAcceptedInOrder (types_rule (global_lists m) settings.capabilities settings.resolved layouts) m.types us

  -- the facts of a module are the only ones
  pub facts_once : (us vs : Facts) → AreTypesAndExpressionsAccepted resolves m settings us → AreTypesAndExpressionsAccepted resolves m settings vs → us ≡ vs
  facts_once us vs u v = record_once (infos_once us.infos vs.infos u.types v.types) (accepted_once (resolve_in_order resolves m) m.global_expressions us.resolutions vs.resolutions u.resolutions v.resolutions)
    where
      record_once : us.infos ≡ vs.infos → us.resolutions ≡ vs.resolutions → us ≡ vs
      record_once i r = ap (λ infos. let facts : Facts = record { infos = infos; resolutions = us.resolutions } in facts) i ∙ ap (λ resolutions. let facts : Facts = record { infos = vs.infos; resolutions = resolutions } in facts) r

  -- the results of values are the only ones
  results_once : (facts : Facts) (rs qs : List (Result (Unit {0}) ValidationError)) → AreValueResults settings.capabilities settings.resolved m (lists_of facts) rs → AreValueResults settings.capabilities settings.resolved m (lists_of facts) qs → rs ≡ qs
  results_once facts rs qs r q =
      r.2 ∙ ap (value_results settings.capabilities settings.resolved m (lists_of facts)) (accepted_once kind_in_order m.global_expressions r.0 q.0 r.1 q.1) ∙ sym q.2

  -- a value that breaks its rule
  pub value_refuses : (facts : Facts) (results : List (Result (Unit {0}) ValidationError)) (e : ValidationError) → AreTypesAndExpressionsAccepted resolves m settings facts → IsTrue (checks_values settings)
      → AreValueResults settings.capabilities settings.resolved m (lists_of facts) results → IsFirstValueError results e → Refuses resolves m settings e
  value_refuses facts results e known checked are first = (
    inr (record { facts = facts; known = known; checked = checked; results = results; are_results = are; place = first.0; first = first.1 }),
    not_valid,
  )
    where
      not_valid : ¬ (IsValid resolves m settings)
      not_valid (others, v) =
          let same = facts_once others facts v.known known in
          let values = v.values checked in
          let theirs = subst (λ (f : Facts). AreValueResults settings.capabilities settings.resolved m (lists_of f) values.results) same values.are_results in
          let ok = all_at IsOk values.results first.0 (Err e) values.all_ok (ap (λ l. slice_get l first.0) (results_once facts values.results results theirs are) ∙ first.1.refused) in
          cc (ok)
