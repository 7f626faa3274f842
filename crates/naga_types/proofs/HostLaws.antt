-- The laws of data that hosts may share, and of the flags of structs and arrays, in a module whose types are accepted.
use Rattle.std.proofs.Common.{◌≡◌, ◌<◌, ◌&&◌, ℕ, Bool, true, List, All, Contains, Some, length, slice_get, refl, sym, subst, ap, true≢false, ◌∙◌}
use Rattle.std.proofs.lemmas.Bool.{and_from, and_parts}
use Rattle.std.proofs.lemmas.List.Elements.{All-contains}
use Rattle.std.proofs.lemmas.List.Sums.{list_all-from_AllPass}
use Rattle.std.proofs.lemmas.Option.{slice_get_within}
use Rattle.naga_arena.proofs.Elements.{all-of, all_at}
use Rattle.naga_flags.proofs.HasLemmas.{has-bit_and}
use Rattle.naga_flags.specs.Bits.{CONSTRUCTIBLE}
use Rattle.naga_flags.specs.Flags.{has}
use Rattle.naga_flags.specs.declared.flags.Capabilities.{Capabilities}
use Rattle.naga_ir.specs.ItemReferences.{GlobalLists, global_lists}
use Rattle.naga_ir.specs.declared.ir.Module.{Module}
use Rattle.naga_ir.specs.declared.types.ArraySize.{ArraySize}
use Rattle.naga_ir.specs.declared.types.ArraySize.TheVariants.{Constant, Pending, Dynamic}
use Rattle.naga_ir.specs.declared.types.StructMember.{StructMember}
use Rattle.naga_ir.specs.declared.types.TypeInner.TheVariants.{Array, Struct}
use Rattle.naga_types.proofs.HostForms.{struct_info}
use Rattle.naga_types.proofs.HostInside.{leaf-alignments_inside}
use Rattle.naga_types.proofs.CheckedTypes.{Judged, CheckedTypes, accepted_types, array_info_is, base_before, info_of, known, known_is, member_before, rule_is}
use Rattle.naga_types.proofs.KeptConditions.{granted-value}
use Rattle.naga_types.proofs.StorageLayouts.{storage-by_leaves}
use Rattle.naga_types.proofs.StructFlags.{has-members_flags, has-struct_flags}
use Rattle.naga_types.proofs.UniformLayouts.{uniform-by_leaves}
use Rattle.naga_types.specs.AcceptedTypes.{AreTypesAccepted}
use Rattle.naga_types.specs.FlagsOfParts.{IsConstantSize, IsConstructible, IsConstructibleAt, IsConstructibleByElements, IsConstructibleByMembers, MembersHaveFlags}
use Rattle.naga_types.specs.FormFlags.{array_flags}
use Rattle.naga_types.specs.HostLayouts.{IsForHosts, HaveLeafAlignments, HasStorageByLeaves, HasUniformByLeaves}
use Rattle.naga_types.specs.Surroundings.{Surroundings, flags_at, info_in}
use Rattle.naga_types.specs.TypeRule.{array_info}
use Rattle.naga_types.specs.declared.info.TypeInfo.{TypeInfo}
use Rattle.naga_typing.proofs.LeafAlignments.{place-in}
use Rattle.naga_typing.specs.Leaves.{inner_at}
use Rattle.naga_typing.specs.declared.layouter.TypeLayout.{TypeLayout}

-- only arrays of a constant size may be constructible
constant-only : (size : ArraySize) → has (array_flags size) CONSTRUCTIBLE ≡ true → IsConstantSize size
constant-only (Constant n) h = (n, refl)
constant-only (Pending o) h = absurd (true≢false (sym h))
constant-only Dynamic h = absurd (true≢false (sym h))

-- each array of a constant size may be constructible
constant-may : (size : ArraySize) → IsConstantSize size → has (array_flags size) CONSTRUCTIBLE ≡ true
constant-may size constant = ap (λ (x : ArraySize). has (array_flags x) CONSTRUCTIBLE) constant.1

module _ (m : Module) (capabilities : Capabilities) (resolved : Bool) (layouts : List TypeLayout) (infos : List TypeInfo) (accepted : AreTypesAccepted m capabilities resolved layouts infos)
    (t : ℕ) (info : TypeInfo) (at : slice_get infos t ≡ Some info) where
  abbrev g : GlobalLists
  g = global_lists m

  abbrev w : CheckedTypes
  w = accepted_types m capabilities resolved layouts infos accepted

  within : t < length infos
  within = slice_get_within infos t info at

  same : info_of w t ≡ info
  same = ap info_in at

  for_hosts_too : IsForHosts info → IsForHosts (info_of w t)
  for_hosts_too = subst IsForHosts (sym same)

  -- all types inside data that hosts may share have leaf alignments
  pub host-alignments_inside : IsForHosts info → HaveLeafAlignments g t
  host-alignments_inside for_hosts = leaf-alignments_inside w t (within, for_hosts_too for_hosts)

  -- data that hosts may share has a storage layout exactly if its leaves are aligned as `HasStorageByLeaves` says
  pub host-storage : IsForHosts info → HasStorageByLeaves g t info
  host-storage for_hosts = subst (HasStorageByLeaves g t) same (storage-by_leaves w t within (for_hosts_too for_hosts))

  -- data that hosts may share has a uniform layout exactly if its leaves are laid out as `HasUniformByLeaves` says
  pub host-uniform : IsForHosts info → HasUniformByLeaves g infos t info
  host-uniform for_hosts = subst (HasUniformByLeaves g infos t) same (uniform-by_leaves w t within (for_hosts_too for_hosts))

  -- the members of a struct have its flags, except `IO_SHAREABLE`
  pub struct-flags : MembersHaveFlags g infos t info
  struct-flags members span p flags is in_list apart h =
      let j = w.each_accepted t within in
      let s : Surroundings = known w t j in
      let given : struct_info s t members span ≡ info_of w t = granted-value _ (struct_info s t members span) (info_of w t) (rule_is w t j (Struct members span) is) in
      let each = has-struct_flags s members flags apart (ap (λ (x : TypeInfo). has x.flags.0 flags) (given ∙ same) ∙ h) in
      let place = place-in members p in_list in
      let before = member_before w t j members span place.0 p is place.1 in
      ap (λ (x : TypeInfo). has x.flags.0 flags) (sym (known_is w t j p.ty before)) ∙ all_at (λ (x : StructMember). has (flags_at s x.ty) flags ≡ true) members place.0 p each place.1

  abbrev judged_here : Judged w t
  judged_here = w.each_accepted t within

  -- what the rule of the type depends on
  abbrev known_here : Surroundings
  known_here = known w t judged_here

  module _ (members : List StructMember) (span : ℕ) (is : inner_at g t ≡ Some (Struct members span)) where
    -- a member has the flag `CONSTRUCTIBLE` by what the rule of the struct depends on, if it has it by all infos
    known_too : (p : StructMember) → Contains members p → IsConstructibleAt infos p.ty → has (flags_at known_here p.ty) CONSTRUCTIBLE ≡ true
    known_too p in_list h =
        let place = place-in members p in_list in
        let before = member_before w t judged_here members span place.0 p is place.1 in
        ap (λ (x : TypeInfo). has x.flags.0 CONSTRUCTIBLE) (known_is w t judged_here p.ty before) ∙ h

    -- a constructible struct has constructible members
    each_member : IsConstructible info → All (λ (p : StructMember). IsConstructibleAt infos p.ty) members
    each_member h = all-of (λ (p : StructMember). IsConstructibleAt infos p.ty) members (λ p in_list. struct-flags members span p CONSTRUCTIBLE is in_list refl h)

    -- a struct of constructible members is constructible
    whole_struct : All (λ (p : StructMember). IsConstructibleAt infos p.ty) members → IsConstructible info
    whole_struct h =
        let given : struct_info known_here t members span ≡ info_of w t = granted-value _ (struct_info known_here t members span) (info_of w t) (rule_is w t judged_here (Struct members span) is) in
        let each : All (λ (p : StructMember). has (flags_at known_here p.ty) CONSTRUCTIBLE ≡ true) members =
        all-of (λ (p : StructMember). has (flags_at known_here p.ty) CONSTRUCTIBLE ≡ true) members
        (λ p in_list. known_too p in_list (All-contains (λ (x : StructMember). IsConstructibleAt infos x.ty) members p h in_list)) in
        sym (ap (λ (x : TypeInfo). has x.flags.0 CONSTRUCTIBLE) (given ∙ same)) ∙ has-members_flags known_here members CONSTRUCTIBLE refl refl refl
        ∙ list_all-from_AllPass (λ (p : StructMember). has (flags_at known_here p.ty) CONSTRUCTIBLE) members each

  -- a struct is constructible exactly if all its members are
  pub constructible-struct : IsConstructibleByMembers g infos t info
  constructible-struct members span is = (each_member members span is, whole_struct members span is)

  module _ (base : ℕ) (size : ArraySize) (stride : ℕ) (is : inner_at g t ≡ Some (Array base size stride)) where
    -- the infos of an array's elements, as its rule sees them, are their infos
    base_is : has (flags_at known_here base) CONSTRUCTIBLE ≡ has (info_in (slice_get infos base)).flags.0 CONSTRUCTIBLE
    base_is = ap (λ (x : TypeInfo). has x.flags.0 CONSTRUCTIBLE) (known_is w t judged_here base (base_before w t judged_here base size stride is))

    -- an array is constructible if its elements are and its size allows it
    array_is : has info.flags.0 CONSTRUCTIBLE ≡ (has (flags_at known_here base) CONSTRUCTIBLE && has (array_flags size) CONSTRUCTIBLE)
    array_is =
        let given : array_info known_here t base size stride ≡ info_of w t = array_info_is known_here t base size stride (info_of w t) (rule_is w t judged_here (Array base size stride) is) in
        sym (ap (λ (x : TypeInfo). has x.flags.0 CONSTRUCTIBLE) (given ∙ same)) ∙ has-bit_and (flags_at known_here base) (array_flags size) CONSTRUCTIBLE

    -- a constructible array has a constant size and constructible elements
    both_parts : IsConstructible info → IsConstantSize size × IsConstructibleAt infos base
    both_parts h =
        let both = and_parts (has (flags_at known_here base) CONSTRUCTIBLE) (has (array_flags size) CONSTRUCTIBLE) (sym array_is ∙ h) in
        (constant-only size both.1, sym base_is ∙ both.0)

    -- an array with a constant size and constructible elements is constructible
    whole_array : IsConstantSize size × IsConstructibleAt infos base → IsConstructible info
    whole_array h = array_is ∙ and_from (has (flags_at known_here base) CONSTRUCTIBLE) (has (array_flags size) CONSTRUCTIBLE) (base_is ∙ h.1) (constant-may size h.0)

  -- an array is constructible exactly if its size is constant and its elements are constructible
  pub constructible-array : IsConstructibleByElements g infos t info
  constructible-array base size stride is = (both_parts base size stride is, whole_array base size stride is)
