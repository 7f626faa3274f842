-- The leaves of types that hosts may share are aligned, contained and disjoint.
use Rattle.std.proofs.Common.{◌≡◌, ◌<◌, ◌≤◌, ◌+◌, ◌*◌, ⊎_elim, ℕ, Bool, true, List, [], ◌∷◌, ◌++◌, Option, Some, Result, Ok, Err, IfOk, IfSome, IsOk, length, slice_get, take, refl, sym, ap, subst, ◌∙◌}
use Rattle.std.specs.Option.{option_map}
use Rattle.std.proofs.lemmas.Nat.Gcd.{dvd_refl, dvd_trans, mod-eq-zero_of_dvd}
use Prim.Native.Nat.{◌∣◌}
use Rattle.std.proofs.lemmas.Option.{slice_get_within}
use Rattle.naga_arena.proofs.InOrder.{found_at}
use Rattle.naga_arena.specs.InOrder.{AllAcceptedInOrder}
use Rattle.naga_flags.proofs.HasLemmas.{has-trans}
use Rattle.naga_flags.specs.Bits.{SIZED}
use Rattle.naga_flags.specs.Flags.{has}
use Rattle.naga_flags.specs.declared.flags.Capabilities.{Capabilities}
use Rattle.naga_ir.specs.Handles.{GlobalReferencesOk}
use Rattle.naga_ir.specs.ItemReferences.{GlobalLists, global_lists}
use Rattle.naga_ir.specs.declared.ir.Module.{Module}
use Rattle.naga_ir.specs.declared.types.«Type».{«Type»}
use Rattle.naga_types.proofs.HostInside.{IsHostType}
use Rattle.naga_types.proofs.CheckedTypes.{CheckedTypes, accepted_types, info_of, accepted_with_next}
use Rattle.naga_types.proofs.LeafPlaces.{leaves_aligned, leaves_contained, leaves_disjoint}
use Rattle.naga_types.proofs.SharedParts.{HasLimit, IsShared, all_placed, at_end, at_size}
use Rattle.naga_types.proofs.StorageOfUniform.{storage_alignment, storage_of_uniform, uniform_multiple}
use Rattle.naga_types.specs.AcceptedTypes.{AreAcceptedBefore, AreTypesAccepted, surroundings_by, rule_at, types_rule}
use Rattle.naga_types.specs.HostLayouts.{data_for_hosts}
use Rattle.naga_types.specs.HostLeaves.{AlignsLeaves, AllLeavesAreSeparate, IsLaidOutForHosts, LeavesAreSeparate, resolved_for_hosts, sized_for_hosts}
use Rattle.naga_types.specs.Layouts.{Layout, in_storage, in_uniform}
use Rattle.naga_types.specs.RuleResults.{NeedsMemory, IsRuleResult}
use Rattle.naga_types.specs.Surroundings.{form_in, info_in, surroundings}
use Rattle.naga_types.specs.TypeRule.{type_rule}
use Rattle.naga_types.specs.declared.error.TypeError.{TypeError}
use Rattle.naga_types.specs.declared.error.TypeError.TheVariants.{OutOfMemory}
use Rattle.naga_types.specs.declared.info.TypeContext.{TypeContext}
use Rattle.naga_types.specs.declared.info.TypeInfo.{TypeInfo}
use Rattle.naga_typing.specs.Context.{lists_of}
use Rattle.naga_typing.specs.Layout.{AreLayouts, alignment_at}
use Rattle.naga_typing.specs.Leaves.{AreSeparate, elements, size_at_index}
use Rattle.naga_typing.specs.declared.context.GlobalCtx.{GlobalCtx}
use Rattle.naga_typing.specs.declared.layouter.TypeLayout.{TypeLayout}

-- a layout that is Ok is an alignment
some_alignment : (l : Layout) → IsOk l → (a : ℕ) × (l ≡ Ok a)
some_alignment (Ok a) ok = (a, refl)
some_alignment (Err e) ok = cc ok

-- what holds of the alignment of a layout holds if there is one
if_alignment : (l : Layout) (P : ℕ → Type 0) → ((a : ℕ) → l ≡ Ok a → P a) → IfOk l P
if_alignment (Ok a) P h = h a refl
if_alignment (Err e) P h = tt

module _ (w : CheckedTypes) (t : ℕ) where
  -- hosts may share a type
  abbrev Shared : ℕ → ℕ → Type 0
  Shared n = IsShared w n

  -- a type ends by a byte
  abbrev Limit : ℕ → ℕ → ℕ → Type 0
  Limit n = HasLimit w n

  -- what is laid out for hosts is data that they may share
  is_host : (flags : ℕ) → has flags data_for_hosts ≡ true → IsLaidOutForHosts w.lists w.infos t flags → IsHostType w t
  is_host flags hosts h =
      (slice_get_within w.infos t h.info h.info_is, ap (λ o. has (info_in o).flags.0 data_for_hosts) h.info_is ∙ has-trans h.info.flags.0 flags data_for_hosts h.has_flags hosts)

  -- what is laid out for hosts is shared with them
  shared : (n flags : ℕ) → has flags data_for_hosts ≡ true → IsLaidOutForHosts w.lists w.infos t flags → Shared n t
  shared n flags hosts h =
      let host = is_host flags hosts h in
      let uniform_in : in_uniform (info_of w t) ≡ h.info.uniform_layout = ap (λ o. in_uniform (info_in o)) h.info_is in
      let storage_in : in_storage (info_of w t) ≡ h.info.storage_layout = ap (λ o. in_storage (info_in o)) h.info_is in
      record {
        host = host;
        layout =
            ⊎_elim
            (λ (ok : IsOk h.info.uniform_layout). let u = some_alignment h.info.uniform_layout ok in storage_of_uniform w t host u.0 (uniform_in ∙ u.1))
            (λ (ok : IsOk h.info.storage_layout). let a = some_alignment h.info.storage_layout ok in storage_in ∙ a.1 ∙ ap Ok (storage_alignment w t host a.0 (storage_in ∙ a.1)))
            h.has_layout;
      }

  -- the leaves of what is shared are separate
  separate : (n limit : ℕ) → Shared n t → Limit n t limit → AreSeparate w.lists n t limit
  separate n limit good ends =
      let placed = all_placed w n in
      record {
        aligned = λ path leaf at. mod-eq-zero_of_dvd leaf.alignment (leaves_aligned w.lists (elements w.lists n) (Shared n) (Limit n) (alignment_at w.layouts) placed path t leaf good at).1;
        contained = λ path leaf at. leaves_contained w.lists (elements w.lists n) (Shared n) (Limit n) (alignment_at w.layouts) placed path t limit leaf good ends at;
        disjoint = λ path path′ leaf leaf′ differ at at′. leaves_disjoint w.lists (elements w.lists n) (Shared n) (Limit n) (alignment_at w.layouts) placed path path′ t leaf leaf′ differ good at at′;
      }

  -- multiples of the alignment of its layout align the leaves of what is laid out for hosts
  aligns_leaves : (number : ℕ) → alignment_at w.layouts t ∣ number → IsLaidOutForHosts w.lists w.infos t data_for_hosts → AlignsLeaves w.lists t number
  aligns_leaves number multiple h n path leaf at =
      let divides = leaves_aligned w.lists (elements w.lists n) (Shared n) (Limit n) (alignment_at w.layouts) (all_placed w n) path t leaf (shared n data_for_hosts refl h) at in
      mod-eq-zero_of_dvd leaf.alignment (dvd_trans leaf.alignment divides.0 multiple)

  -- the layouts of what is laid out for hosts align its leaves
  layouts_align : (h : IsLaidOutForHosts w.lists w.infos t data_for_hosts) → IfOk h.info.uniform_layout (AlignsLeaves w.lists t) × IfOk h.info.storage_layout (AlignsLeaves w.lists t)
  layouts_align h =
      let host = is_host data_for_hosts refl h in (
        if_alignment h.info.uniform_layout (AlignsLeaves w.lists t) (λ u is. aligns_leaves u (uniform_multiple w t host u (ap (λ o. in_uniform (info_in o)) h.info_is ∙ is)) h),
        if_alignment h.info.storage_layout (AlignsLeaves w.lists t) (λ a is.
            aligns_leaves a (subst (λ b. alignment_at w.layouts t ∣ b) (sym (storage_alignment w t host a (ap (λ o. in_storage (info_in o)) h.info_is ∙ is))) (dvd_refl (alignment_at w.layouts t))) h),
      )

  -- what is laid out as sized is
  sized_info : (h : IsLaidOutForHosts w.lists w.infos t sized_for_hosts) → has (info_in (slice_get w.infos t)).flags.0 SIZED ≡ true
  sized_info h = ap (λ (o : Option TypeInfo). has (info_in o).flags.0 SIZED) h.info_is ∙ has-trans h.info.flags.0 sized_for_hosts SIZED h.has_flags refl

  -- the leaves of each type that keeps its rule are separate
  pub leaves_of_checked : LeavesAreSeparate w.lists w.infos t
  leaves_of_checked = record {
    layouts = layouts_align;
    sized = λ h n. separate n (size_at_index w.lists t) (shared n sized_for_hosts refl h) (at_size (sized_info h) refl);
    runtime_sized = λ h first stride ends n. separate n (first + n * stride) (shared n resolved_for_hosts refl h) (at_end first stride ends refl);
  }

-- the leaves of the next type are separate, if the infos before it are the rule's
pub leaves_of_next : (g : GlobalLists) (capabilities : Capabilities) (resolved : Bool) (layouts : List TypeLayout) (infos : List TypeInfo) (t : ℕ) (x : «Type») (info : TypeInfo) → GlobalReferencesOk g → AreLayouts g layouts
    → t ≤ length infos → AllAcceptedInOrder (types_rule g capabilities resolved layouts) (take t g.types) (take t infos) → slice_get g.types t ≡ Some x
    → type_rule (surroundings_by g capabilities resolved layouts infos) t x.inner ≡ Ok info → LeavesAreSeparate g (take t infos ++ info ∷ []) t
leaves_of_next g capabilities resolved layouts infos t x info references laid_out within accepted at rule =
    leaves_of_checked (record {
      lists = g;
      capabilities = capabilities;
      resolved = resolved;
      layouts = layouts;
      infos = take t infos ++ info ∷ [];
      references = references;
      laid_out = laid_out;
      each_accepted = accepted_with_next g capabilities resolved layouts infos t x info within accepted.follow at rule;
    }) t

-- the leaves of a type that is accepted are separate, if the types before it are accepted with these infos
pub leaves_of_result : (ctx : TypeContext) (g : GlobalCtx) (t : ℕ) (result : Result TypeInfo TypeError) → GlobalReferencesOk (lists_of g) → AreLayouts (lists_of g) ctx.layouter.now → t ≤ length ctx.infos.now.infos
    → t < length g.types.now → IfSome (rule_at (surroundings ctx g) t) (λ rule. IsRuleResult rule result) → AreAcceptedBefore ctx g t
    → IfOk result (λ info. LeavesAreSeparate (lists_of g) (take t ctx.infos.now.infos ++ info ∷ []) t)
leaves_of_result ctx g t (Err e) references laid_out first_error_or exists said before = tt
leaves_of_result ctx g t (Ok info) references laid_out first_error_or exists said before =
    let found = found_at g.types.now t exists in
    let rule : Result TypeInfo TypeError = type_rule (surroundings ctx g) t found.0.inner in
    let returned : IsRuleResult rule (Ok info) = subst (λ o. IfSome o (λ rule. IsRuleResult rule (Ok info))) (ap (λ x. option_map (type_rule (surroundings ctx g) t) (form_in x)) found.1) said in
    let is : rule ≡ Ok info = ⊎_elim (λ (e : Ok info ≡ rule). sym e) (λ (h : (Ok info ≡ Err OutOfMemory) × NeedsMemory rule). cc (h.0)) returned in
    leaves_of_next (lists_of g) ctx.capabilities ctx.overrides_resolved ctx.layouter.now ctx.infos.now.infos t found.0 info references laid_out first_error_or before found.1 is

-- the leaves of each type of a module whose types are accepted are separate
pub leaves_of_accepted : (m : Module) (capabilities : Capabilities) (resolved : Bool) (layouts : List TypeLayout) (infos : List TypeInfo) → AreTypesAccepted m capabilities resolved layouts infos
    → AllLeavesAreSeparate (global_lists m) infos
leaves_of_accepted m capabilities resolved layouts infos accepted = leaves_of_checked (accepted_types m capabilities resolved layouts infos accepted)
