-- Data that hosts may share has a storage layout exactly if all inside it is aligned by leaves.
use Rattle.std.proofs.Common.{◌≡◌, ◌%◌, ◌<◌, ℕ, zero, suc, Bool, true, max, List, Some, Ok, Err, IsOk, length, map, slice_get, refl, sym, subst, ap, ◌∙◌, arith}
use Rattle.naga_arena.proofs.Elements.{all_at}
use Rattle.naga_flags.proofs.HasLemmas.{has-trans}
use Rattle.naga_flags.specs.Bits.{HOST_SHAREABLE}
use Rattle.naga_flags.specs.Flags.{has}
use Rattle.naga_flags.specs.declared.flags.Capabilities.{Capabilities}
use Rattle.naga_ir.specs.ItemReferences.{GlobalLists}
use Rattle.naga_ir.proofs.PartLemmas.{base_is, members_are}
use Rattle.naga_ir.specs.declared.types.ArraySize.{ArraySize}
use Rattle.naga_ir.specs.declared.types.StructMember.{StructMember}
use Rattle.naga_ir.specs.declared.types.TypeInner.{TypeInner}
use Rattle.naga_ir.specs.declared.types.TypeInner.TheVariants as form
use Rattle.naga_types.proofs.ByLeaves.{IsExactly, aligned-array, aligned-leaf, aligned-struct, of-leaf_alignment, same-layout}
use Rattle.naga_types.proofs.HostAlignments.{PartsBefore, leaf-alignment}
use Rattle.naga_types.proofs.HostForms.{HostForm, host-form, leaf, array, struct, struct_info}
use Rattle.naga_types.proofs.CheckedTypes.{CheckedTypes, alignment_is, alignment_of_type, info_of, known, known_is, own_form, parts_before}
use Rattle.naga_types.proofs.LayoutParts.{aligned_if_none_fails, array-laid_out, array-layout_is, contains-place, greatest-placed, none_fails_if_aligned, storage-laid_out, storage-layout_is}
use Rattle.naga_types.specs.AcceptedTypes.{surroundings_by}
use Rattle.naga_types.specs.HostLayouts.{IsStorageAligned, IsForHosts, HasStorageByLeaves, data_for_hosts}
use Rattle.naga_types.specs.Layouts.{Layout, in_storage}
use Rattle.naga_types.specs.Surroundings.{Surroundings, flags_at, info_at}
use Rattle.naga_types.specs.TypeRule.{array_info}
use Rattle.naga_types.specs.declared.info.TypeInfo.{TypeInfo}
use Rattle.naga_typing.proofs.TypesInside.{AllInside, all-further_inside, all-in_array, all-in_leaf, all-in_struct}
use Rattle.naga_typing.proofs.LeafAlignments.{place-in}
use Rattle.naga_typing.specs.Layout.{alignment_at, alignment_of, greatest}
use Rattle.naga_typing.specs.Leaves.{IsLeafAlignment, inner_at, element, itself, member}
use Rattle.naga_typing.specs.declared.layouter.TypeLayout.{TypeLayout}

module _ (g : GlobalLists) (capabilities : Capabilities) (resolved : Bool) (layouts : List TypeLayout) where
  -- the storage layout of a type is there exactly if all inside is aligned by leaves, and
  -- then at the layouter's alignment
  abbrev pub StorageIsExactly : ℕ → Layout → Type 0
  StorageIsExactly t = IsExactly g (IsStorageAligned g) t (alignment_at layouts t)

  -- what is known of the parts of a type
  abbrev pub KnownParts : List TypeInfo → ℕ → Type 0
  KnownParts before t = (p : ℕ) → p < t → has (flags_at (surroundings_by g capabilities resolved layouts before) p) data_for_hosts ≡ true
      → IsLeafAlignment g p (alignment_at layouts p) × StorageIsExactly p (info_at (surroundings_by g capabilities resolved layouts before) p).storage_layout

  module _ (before : List TypeInfo) (t : ℕ) (info : TypeInfo) (own : IsLeafAlignment g t (alignment_at layouts t)) where
    abbrev s : Surroundings
    s = surroundings_by g capabilities resolved layouts before

    of_array : (base : ℕ) (size : ArraySize) (stride : ℕ) → inner_at g t ≡ Some (form.Array base size stride) → alignment_at layouts t ≡ alignment_at layouts base
        → IsLeafAlignment g base (alignment_at layouts base) → StorageIsExactly base (info_at s base).storage_layout → array_info s t base size stride ≡ info → StorageIsExactly t info.storage_layout
    of_array base size stride is same alignment inner given = record { if_there = if_there; is_there = is_there }
      where
        storage : (array_info s t base size stride).storage_layout ≡ info.storage_layout
        storage = ap (λ (i : TypeInfo). i.storage_layout) given

        if_there : (a : ℕ) → info.storage_layout ≡ Ok a → (alignment_at layouts t ≡ a) × AllInside g (IsStorageAligned g) t
        if_there a e =
            let r = array-laid_out t (alignment_at layouts base) stride (info_at s base).storage_layout a (storage ∙ e) in
            let further = inner.if_there r.base r.base_is in
            let number : max r.base (alignment_at layouts base) ≡ alignment_at layouts base = omega (arith, further.0) in
            let multiple : stride % alignment_at layouts base ≡ 0 = subst (λ n. stride % n ≡ 0) number r.aligned in
            (omega (arith, same, number, r.is), all-in_array g (IsStorageAligned g) t base size stride is (aligned-array g t base size stride is (of-leaf_alignment g (λ a. stride % a ≡ 0) base (alignment_at layouts base) alignment multiple)) further.1)

        is_there : AllInside g (IsStorageAligned g) t → info.storage_layout ≡ Ok (alignment_at layouts t)
        is_there all =
            let there = inner.is_there (all-further_inside g (IsStorageAligned g) t base (element t base size stride itself is) all) in
            let here = all t itself in
            let number : alignment_at layouts base ≡ max (alignment_at layouts base) (alignment_at layouts base) = omega arith in
            let multiple = subst (λ n. stride % n ≡ 0) number (here.of_stride base size stride is (alignment_at layouts base) alignment) in
            sym storage ∙ array-layout_is t (alignment_at layouts base) stride (info_at s base).storage_layout (alignment_at layouts base) there multiple ∙ ap (λ n. let l : Layout = Ok n in l) (sym number ∙ sym same)

    of_struct : (members : List StructMember) (span : ℕ) → inner_at g t ≡ Some (form.Struct members span) → alignment_at layouts t ≡ greatest (map (λ (m : StructMember). alignment_at layouts m.ty) members)
        → ((i : ℕ) (m : StructMember) → slice_get members i ≡ Some m → (has (flags_at s m.ty) HOST_SHAREABLE ≡ true) × IsLeafAlignment g m.ty (alignment_at layouts m.ty) × StorageIsExactly m.ty (info_at s m.ty).storage_layout)
        → struct_info s t members span ≡ info → StorageIsExactly t info.storage_layout
    of_struct members span is same each given = record { if_there = if_there; is_there = is_there }
      where
        storage : (struct_info s t members span).storage_layout ≡ info.storage_layout
        storage = ap (λ (i : TypeInfo). i.storage_layout) given

        if_there : (a : ℕ) → info.storage_layout ≡ Ok a → (alignment_at layouts t ≡ a) × AllInside g (IsStorageAligned g) t
        if_there a e =
            let r = storage-laid_out s t members span a (storage ∙ e) in
            let placed = λ (i : ℕ) (m : StructMember) (at : slice_get members i ≡ Some m). aligned_if_none_fails s in_storage t members i m r.1 at in
            let further = λ (i : ℕ) (m : StructMember) (at : slice_get members i ≡ Some m). (each i m at).2.if_there (placed i m at).alignment (placed i m at).is_alignment in
            let number = greatest-placed s in_storage t members (alignment_at layouts) (λ i m at. (placed i m at).is_alignment ∙ ap (λ n. let l : Layout = Ok n in l) (sym (further i m at).0)) in (
              same ∙ sym number ∙ r.2,
              all-in_struct g (IsStorageAligned g) t members span is
                  (aligned-struct g t members span is (of-leaf_alignment g (λ a. span % a ≡ 0) t (alignment_at layouts t) own r.0)
                  (λ m c. let at = place-in members m c in
                  of-leaf_alignment g (λ a. m.offset % a ≡ 0) m.ty (alignment_at layouts m.ty) (each at.0 m at.1).1 (subst (λ n. m.offset % n ≡ 0) (sym (further at.0 m at.1).0) (placed at.0 m at.1).aligned)))
                  (λ m c. let at = place-in members m c in (further at.0 m at.1).1),
            )

        is_there : AllInside g (IsStorageAligned g) t → info.storage_layout ≡ Ok (alignment_at layouts t)
        is_there all =
            let here = all t itself in
            let there = λ (i : ℕ) (m : StructMember) (at : slice_get members i ≡ Some m).
            (each i m at).2.is_there (all-further_inside g (IsStorageAligned g) t m.ty (member t members span m itself is (contains-place members i m at)) all) in
            let kept = none_fails_if_aligned s in_storage t members (λ i m at. record {
              shareable = (each i m at).0;
              alignment = alignment_at layouts m.ty;
              is_alignment = there i m at;
              aligned = here.of_offset members span m is (contains-place members i m at) (alignment_at layouts m.ty) (each i m at).1;
            }) in
            sym storage ∙ storage-layout_is s t members span (here.of_span members span is (alignment_at layouts t) own) kept
            ∙ ap (λ n. let l : Layout = Ok n in l) (greatest-placed s in_storage t members (alignment_at layouts) there ∙ sym same)

    by_parts : (inner : TypeInner) → inner_at g t ≡ Some inner → PartsBefore t inner → alignment_at layouts t ≡ alignment_of layouts inner → KnownParts before t → HostForm s t info inner → StorageIsExactly t info.storage_layout
    by_parts _ is earlier same part (leaf inner one uniform storage) = record {
      if_there = λ a e. (same-layout (alignment_at layouts t) a (sym storage ∙ e), all-in_leaf g (IsStorageAligned g) t inner is one (aligned-leaf g t inner is one));
      is_there = λ all. storage;
    }
    by_parts _ is earlier same part (array base size stride flags given) =
        let p = part base (base_is (λ p. p < t) (form.Array base size stride) base size stride earlier refl) flags in
        of_array base size stride is same p.0 p.1 given
    by_parts _ is earlier same part (struct members span kept flags given) =
        let named = members_are (λ p. p < t) (form.Struct members span) members span earlier refl in
        of_struct members span is same
        (λ i m at.
        let its = all_at (λ (m : StructMember). has (flags_at s m.ty) data_for_hosts ≡ true) members i m flags at in
        let p = part m.ty (all_at (λ (m : StructMember). m.ty < t) members i m named at) its in
        (has-trans (flags_at s m.ty) data_for_hosts HOST_SHAREABLE its refl, p.0, p.1)) given

module _ (w : CheckedTypes) where
  -- the storage layout of a type, exactly
  abbrev IsExact : ℕ → TypeInfo → Type 0
  IsExact t info = StorageIsExactly w.lists w.capabilities w.resolved w.layouts t info.storage_layout

  below : (n t : ℕ) → t < n → t < length w.infos → IsForHosts (info_of w t) → IsExact t (info_of w t)
  below zero t under within for_hosts = absurd (omega (arith, under))
  below (suc n) t under within for_hosts =
      let j = w.each_accepted t within in
      by_parts w.lists w.capabilities w.resolved w.layouts j.known t (info_of w t) (leaf-alignment w t within for_hosts) j.ty.inner (own_form w t j) (parts_before w t j)
      (alignment_is w t j j.ty.inner (own_form w t j))
      (λ p before flags.
      let earlier : p < length w.infos = omega (arith, before, within) in
      let its : IsForHosts (info_of w p) = ap (λ (x : TypeInfo). has x.flags.0 data_for_hosts) (sym (known_is w t j p before)) ∙ flags in
      (leaf-alignment w p earlier its, subst (IsExact p) (sym (known_is w t j p before)) (below n p (omega (arith, before, under)) earlier its)))
      (host-form (known w t j) t (info_of w t) for_hosts j.ty.inner j.by_rule)

  -- the storage layout of all data that hosts may share is exact
  pub storage-exactly : (t : ℕ) → t < length w.infos → IsForHosts (info_of w t) → StorageIsExactly w.lists w.capabilities w.resolved w.layouts t (in_storage (info_of w t))
  storage-exactly t within for_hosts = below (suc t) t (omega arith) within for_hosts

  -- data that hosts may share has a storage layout exactly if all types inside it are aligned by leaves,
  -- and then at its leaf alignment
  pub storage-by_leaves : (t : ℕ) → t < length w.infos → IsForHosts (info_of w t) → HasStorageByLeaves w.lists t (info_of w t)
  storage-by_leaves t within for_hosts =
      let exact = storage-exactly t within for_hosts in
      record {
        exactly = (λ there. all_inside exact (in_storage (info_of w t)) refl there, λ all. is_ok (exact.is_there all));
        alignment = λ there. of-leaf_alignment w.lists (λ a. in_storage (info_of w t) ≡ Ok a) t (alignment_of_type w t) (leaf-alignment w t within for_hosts)
            (exact.is_there (all_inside exact (in_storage (info_of w t)) refl there));
      }
    where
      all_inside : IsExact t (info_of w t) → (l : Layout) → in_storage (info_of w t) ≡ l → IsOk l → AllInside w.lists (IsStorageAligned w.lists) t
      all_inside exact (Ok a) e there = (exact.if_there a e).1
      all_inside exact (Err x) e there = absurd (cc there)

      is_ok : in_storage (info_of w t) ≡ Ok (alignment_of_type w t) → IsOk (in_storage (info_of w t))
      is_ok e = subst IsOk (sym e) refl
