-- Data that hosts may share has a uniform layout exactly if all inside it is laid out so by leaves.
use Rattle.std.proofs.Common.{◌≡◌, ◌%◌, ◌<◌, ℕ, zero, suc, Bool, true, false, max, List, Option, Some, None, Ok, Err, IsOk, if◌then◌else◌, length, map, slice_get, refl, sym, subst, ap, ◌∙◌, arith}
use Rattle.naga_arena.proofs.Elements.{all_at}
use Rattle.naga_flags.proofs.HasLemmas.{has-trans}
use Rattle.naga_flags.specs.Bits.{HOST_SHAREABLE, SIZED}
use Rattle.naga_flags.specs.Flags.{has}
use Rattle.naga_flags.specs.declared.flags.Capabilities.{Capabilities}
use Rattle.naga_ir.specs.ItemReferences.{GlobalLists}
use Rattle.naga_ir.proofs.PartLemmas.{base_is, members_are}
use Rattle.naga_ir.specs.declared.types.ArraySize.{ArraySize}
use Rattle.naga_ir.specs.declared.types.StructMember.{StructMember}
use Rattle.naga_ir.specs.declared.types.TypeInner.{TypeInner}
use Rattle.naga_ir.specs.declared.types.TypeInner.TheVariants as form
use Rattle.naga_types.proofs.ByLeaves.{IsExactly, of-leaf_alignment, same-layout, uniform-array, uniform-leaf, uniform-struct}
use Rattle.naga_types.proofs.HostAlignments.{PartsBefore, leaf-alignment}
use Rattle.naga_types.proofs.HostForms.{HostForm, host-form, leaf, array, struct, struct_info}
use Rattle.naga_types.proofs.CheckedTypes.{CheckedTypes, alignment_is, alignment_of_type, info_of, known, known_is, own_form, parts_before}
use Rattle.naga_types.proofs.LayoutParts.{aligned_if_none_fails, array-laid_out, array-layout_is, contains-place, greatest-placed, none_fails_if_aligned}
use Rattle.naga_types.proofs.UniformParts.{UniformKept, greatest-above, rooms-kept, rooms-left, sizes-fixed, sizes-kept, uniform-laid_out, uniform-layout_is}
use Rattle.naga_types.specs.AcceptedTypes.{surroundings_by}
use Rattle.naga_types.specs.HostLayouts.{IsForHosts, IsUniformAligned, HasUniformByLeaves, data_for_hosts, uniform_alignment, uniform_alignment_in}
use Rattle.naga_types.specs.Layouts.{Layout, greatest_alignment, in_uniform, min_uniform}
use Rattle.naga_types.specs.Surroundings.{Surroundings, flags_at, info_at, info_in}
use Rattle.naga_types.specs.TypeRule.{array_info}
use Rattle.naga_types.specs.declared.info.TypeInfo.{TypeInfo}
use Rattle.naga_typing.proofs.TypesInside.{AllInside, all-further_inside, all-in_array, all-in_leaf, all-in_struct}
use Rattle.naga_typing.proofs.LeafAlignments.{place-in}
use Rattle.naga_typing.specs.Layout.{alignment_at, alignment_of, greatest}
use Rattle.naga_typing.specs.Leaves.{IsLeafAlignment, inner_at, is_leaf, element, itself, member}
use Rattle.naga_typing.specs.declared.layouter.TypeLayout.{TypeLayout}

-- the uniform alignment of a leaf is its own
uniform_of_leaf : (inner : TypeInner) (found : Option TypeInner) (a : ℕ) → found ≡ Some inner → is_leaf inner ≡ true → uniform_alignment_in found a ≡ a
uniform_of_leaf inner found a is one = ap (λ o. uniform_alignment_in o a) is ∙ ap (λ b. if b then a else max a min_uniform) one

-- the alignment of anything else is at least 16
uniform_of_others : (inner : TypeInner) (found : Option TypeInner) (a : ℕ) → found ≡ Some inner → is_leaf inner ≡ false → uniform_alignment_in found a ≡ max a min_uniform
uniform_of_others inner found a is none = ap (λ o. uniform_alignment_in o a) is ∙ ap (λ b. if b then a else max a min_uniform) none

-- above 16 it is the leaf alignment
uniform_above : (found : Option TypeInner) (a : ℕ) → max (uniform_alignment_in found a) min_uniform ≡ max a min_uniform
uniform_above None a = refl
uniform_above (Some inner) a = by (is_leaf inner)
  where
    by : (b : Bool) → max (if b then a else max a min_uniform) min_uniform ≡ max a min_uniform
    by true = refl
    by false = omega arith

module _ (g : GlobalLists) (capabilities : Capabilities) (resolved : Bool) (layouts : List TypeLayout) (infos : List TypeInfo) where
  -- the uniform alignment of a type by the layouter's
  abbrev pub uniform_at : ℕ → ℕ
  uniform_at t = uniform_alignment g t (alignment_at layouts t)

  -- the uniform layout of a type is there exactly if all inside is laid out so, and then at the uniform alignment
  abbrev pub UniformIsExactly : ℕ → Layout → Type 0
  UniformIsExactly t = IsExactly g (IsUniformAligned g infos) t (uniform_at t)

  -- what is known of a part of a type
  pub record KnownUniform (before : List TypeInfo) (p : ℕ) : Type 0 where
    pub alignment : IsLeafAlignment g p (alignment_at layouts p)
    pub same_info : info_at (surroundings_by g capabilities resolved layouts before) p ≡ info_in (slice_get infos p)
    pub uniform : UniformIsExactly p (info_at (surroundings_by g capabilities resolved layouts before) p).uniform_layout

  module _ (before : List TypeInfo) (t : ℕ) (info : TypeInfo) (own : IsLeafAlignment g t (alignment_at layouts t)) where
    abbrev s : Surroundings
    s = surroundings_by g capabilities resolved layouts before

    as_layout : (a b : ℕ) → a ≡ b → (let l : Layout = Ok a in l ≡ Ok b)
    as_layout a b e = ap (λ n. let l : Layout = Ok n in l) e

    of_array : (base : ℕ) (size : ArraySize) (stride : ℕ) → inner_at g t ≡ Some (form.Array base size stride) → alignment_at layouts t ≡ alignment_at layouts base
        → KnownUniform before base → array_info s t base size stride ≡ info → UniformIsExactly t info.uniform_layout
    of_array base size stride is same known given = record { if_there = if_there; is_there = is_there }
      where
        uniform : (array_info s t base size stride).uniform_layout ≡ info.uniform_layout
        uniform = ap (λ (i : TypeInfo). i.uniform_layout) given

        number : uniform_at t ≡ max (alignment_at layouts base) min_uniform
        number = uniform_of_others (form.Array base size stride) (inner_at g t) (alignment_at layouts t) is refl ∙ ap (λ a. max a min_uniform) same

        above : max (uniform_at base) min_uniform ≡ max (alignment_at layouts base) min_uniform
        above = uniform_above (inner_at g base) (alignment_at layouts base)

        if_there : (a : ℕ) → info.uniform_layout ≡ Ok a → (uniform_at t ≡ a) × AllInside g (IsUniformAligned g infos) t
        if_there a e =
            let r = array-laid_out t (max (alignment_at layouts base) min_uniform) stride (info_at s base).uniform_layout a (uniform ∙ e) in
            let further = known.uniform.if_there r.base r.base_is in
            let total : max r.base (max (alignment_at layouts base) min_uniform) ≡ uniform_at t = omega (arith, further.0, above, number) in
            let multiple : stride % uniform_at t ≡ 0 = subst (λ n. stride % n ≡ 0) total r.aligned in (
              sym total ∙ r.is,
              all-in_array g (IsUniformAligned g infos) t base size stride is
                  (uniform-array g t infos base size stride is (of-leaf_alignment g (λ a. stride % uniform_alignment g t a ≡ 0) t (alignment_at layouts t) own multiple)) further.1,
            )

        is_there : AllInside g (IsUniformAligned g infos) t → info.uniform_layout ≡ Ok (uniform_at t)
        is_there all =
            let there = known.uniform.is_there (all-further_inside g (IsUniformAligned g infos) t base (element t base size stride itself is) all) in
            let here = all t itself in
            let total : uniform_at t ≡ max (uniform_at base) (max (alignment_at layouts base) min_uniform) = omega (arith, above, number) in
            let multiple = subst (λ n. stride % n ≡ 0) total (here.of_stride base size stride is (alignment_at layouts t) own) in
            sym uniform ∙ array-layout_is t (max (alignment_at layouts base) min_uniform) stride (info_at s base).uniform_layout (uniform_at base) there multiple ∙ as_layout _ _ (sym total)

    of_struct : (members : List StructMember) (span : ℕ) → inner_at g t ≡ Some (form.Struct members span) → alignment_at layouts t ≡ greatest (map (λ (m : StructMember). alignment_at layouts m.ty) members)
        → ((i : ℕ) (m : StructMember) → slice_get members i ≡ Some m → (has (flags_at s m.ty) HOST_SHAREABLE ≡ true) × KnownUniform before m.ty)
        → struct_info s t members span ≡ info → UniformIsExactly t info.uniform_layout
    of_struct members span is same each given = record { if_there = if_there; is_there = is_there }
      where
        uniform : (struct_info s t members span).uniform_layout ≡ info.uniform_layout
        uniform = ap (λ (i : TypeInfo). i.uniform_layout) given

        -- the greatest alignment of the members is the alignment of the struct
        total : greatest_alignment s in_uniform members ≡ greatest (map (λ (m : StructMember). uniform_at m.ty) members) → max (greatest_alignment s in_uniform members) min_uniform ≡ uniform_at t
        total number =
            ap (λ n. max n min_uniform) number
            ∙ greatest-above (λ (m : StructMember). uniform_at m.ty) (λ (m : StructMember). alignment_at layouts m.ty) min_uniform members (λ m. uniform_above (inner_at g m.ty) (alignment_at layouts m.ty))
            ∙ ap (λ n. max n min_uniform) (sym same)
            ∙ sym (uniform_of_others (form.Struct members span) (inner_at g t) (alignment_at layouts t) is refl)

        same_flags : (i : ℕ) (m : StructMember) → slice_get members i ≡ Some m → flags_at s m.ty ≡ (info_in (slice_get infos m.ty)).flags.0
        same_flags i m at = ap (λ (x : TypeInfo). x.flags.0) (each i m at).1.same_info

        if_there : (a : ℕ) → info.uniform_layout ≡ Ok a → (uniform_at t ≡ a) × AllInside g (IsUniformAligned g infos) t
        if_there a e =
            let r = uniform-laid_out s t members span a (uniform ∙ e) in
            let placed = λ (i : ℕ) (m : StructMember) (at : slice_get members i ≡ Some m). aligned_if_none_fails s in_uniform t members i m r.0.placed at in
            let further = λ (i : ℕ) (m : StructMember) (at : slice_get members i ≡ Some m). (each i m at).1.uniform.if_there (placed i m at).alignment (placed i m at).is_alignment in
            let number = greatest-placed s in_uniform t members uniform_at (λ i m at. (placed i m at).is_alignment ∙ as_layout _ _ (sym (further i m at).0)) in (
              sym (total number) ∙ r.1,
              all-in_struct g (IsUniformAligned g infos) t members span is
                  (uniform-struct g t infos members span is (of-leaf_alignment g (λ a. span % a ≡ 0) t (alignment_at layouts t) own r.0.whole)
                  (λ m c. let at = place-in members m c in
                  of-leaf_alignment g (λ a. m.offset % uniform_alignment g m.ty a ≡ 0) m.ty (alignment_at layouts m.ty) (each at.0 m at.1).1.alignment
                  (subst (λ n. m.offset % n ≡ 0) (sym (further at.0 m at.1).0) (placed at.0 m at.1).aligned))
                  (λ m c. let at = place-in members m c in subst (λ n. has n SIZED ≡ true) (same_flags at.0 m at.1) (sizes-fixed s t members span r.0.sized at.0 m at.1))
                  (rooms-left s t members span r.0.rooms))
                  (λ m c. let at = place-in members m c in (further at.0 m at.1).1),
            )

        is_there : AllInside g (IsUniformAligned g infos) t → info.uniform_layout ≡ Ok (uniform_at t)
        is_there all =
            let here = all t itself in
            let there = λ (i : ℕ) (m : StructMember) (at : slice_get members i ≡ Some m).
            (each i m at).1.uniform.is_there (all-further_inside g (IsUniformAligned g infos) t m.ty (member t members span m itself is (contains-place members i m at)) all) in
            let kept : UniformKept s t members span = record {
              whole = here.of_span members span is (alignment_at layouts t) own;
              rooms = rooms-kept s t members span (λ i m next inside room. here.of_room members span i m next inside room is);
              placed = none_fails_if_aligned s in_uniform t members (λ i m at. record {
                shareable = (each i m at).0;
                alignment = uniform_at m.ty;
                is_alignment = there i m at;
                aligned = here.of_offset members span m is (contains-place members i m at) (alignment_at layouts m.ty) (each i m at).1.alignment;
              });
              sized = sizes-kept s t members span (λ i m at. subst (λ n. has n SIZED ≡ true) (sym (same_flags i m at)) (here.of_size members span m is (contains-place members i m at)));
            } in
            sym uniform ∙ uniform-layout_is s t members span kept ∙ as_layout _ _ (total (greatest-placed s in_uniform t members uniform_at there))

    by_parts : (inner : TypeInner) → inner_at g t ≡ Some inner → PartsBefore t inner → alignment_at layouts t ≡ alignment_of layouts inner
        → ((p : ℕ) → p < t → has (flags_at s p) data_for_hosts ≡ true → KnownUniform before p) → HostForm s t info inner → UniformIsExactly t info.uniform_layout
    by_parts _ is earlier same part (leaf inner one uniform storage) =
        let number = uniform_of_leaf inner (inner_at g t) (alignment_at layouts t) is one in
        record {
          if_there = λ a e. (number ∙ same-layout (alignment_at layouts t) a (sym uniform ∙ e), all-in_leaf g (IsUniformAligned g infos) t inner is one (uniform-leaf g t infos inner is one));
          is_there = λ all. uniform ∙ as_layout _ _ (sym number);
        }
    by_parts _ is earlier same part (array base size stride flags given) =
        of_array base size stride is same (part base (base_is (λ p. p < t) (form.Array base size stride) base size stride earlier refl) flags) given
    by_parts _ is earlier same part (struct members span kept flags given) =
        let named = members_are (λ p. p < t) (form.Struct members span) members span earlier refl in
        of_struct members span is same
        (λ i m at.
        let its = all_at (λ (m : StructMember). has (flags_at s m.ty) data_for_hosts ≡ true) members i m flags at in
        (has-trans (flags_at s m.ty) data_for_hosts HOST_SHAREABLE its refl, part m.ty (all_at (λ (m : StructMember). m.ty < t) members i m named at) its)) given

module _ (w : CheckedTypes) where
  -- the uniform layout of a type, exactly
  abbrev IsExact : ℕ → TypeInfo → Type 0
  IsExact t info = UniformIsExactly w.lists w.capabilities w.resolved w.layouts w.infos t info.uniform_layout

  below : (n t : ℕ) → t < n → t < length w.infos → IsForHosts (info_of w t) → IsExact t (info_of w t)
  below zero t under within for_hosts = absurd (omega (arith, under))
  below (suc n) t under within for_hosts =
      let j = w.each_accepted t within in
      by_parts w.lists w.capabilities w.resolved w.layouts w.infos j.known t (info_of w t) (leaf-alignment w t within for_hosts) j.ty.inner (own_form w t j) (parts_before w t j)
      (alignment_is w t j j.ty.inner (own_form w t j))
      (λ p before flags.
      let earlier : p < length w.infos = omega (arith, before, within) in
      let its : IsForHosts (info_of w p) = ap (λ (x : TypeInfo). has x.flags.0 data_for_hosts) (sym (known_is w t j p before)) ∙ flags in
      record {
        alignment = leaf-alignment w p earlier its;
        same_info = known_is w t j p before;
        uniform = subst (IsExact p) (sym (known_is w t j p before)) (below n p (omega (arith, before, under)) earlier its);
      })
      (host-form (known w t j) t (info_of w t) for_hosts j.ty.inner j.by_rule)

  -- the uniform layout of all data that hosts may share is exact
  pub uniform-exactly : (t : ℕ) → t < length w.infos → IsForHosts (info_of w t) → UniformIsExactly w.lists w.capabilities w.resolved w.layouts w.infos t (in_uniform (info_of w t))
  uniform-exactly t within for_hosts = below (suc t) t (omega arith) within for_hosts

  -- data that hosts may share has a uniform layout exactly if all types inside it are laid out so,
  -- and then at its uniform alignment
  pub uniform-by_leaves : (t : ℕ) → t < length w.infos → IsForHosts (info_of w t) → HasUniformByLeaves w.lists w.infos t (info_of w t)
  uniform-by_leaves t within for_hosts =
      let exact = uniform-exactly t within for_hosts in
      record {
        exactly = (λ there. all_inside exact (in_uniform (info_of w t)) refl there, λ all. is_ok (exact.is_there all));
        alignment = λ there. of-leaf_alignment w.lists (λ a. in_uniform (info_of w t) ≡ Ok (uniform_alignment w.lists t a)) t (alignment_of_type w t)
            (leaf-alignment w t within for_hosts) (exact.is_there (all_inside exact (in_uniform (info_of w t)) refl there));
      }
    where
      all_inside : IsExact t (info_of w t) → (l : Layout) → in_uniform (info_of w t) ≡ l → IsOk l → AllInside w.lists (IsUniformAligned w.lists w.infos) t
      all_inside exact (Ok a) e there = (exact.if_there a e).1
      all_inside exact (Err x) e there = absurd (cc there)

      is_ok : in_uniform (info_of w t) ≡ Ok (uniform_alignment w.lists t (alignment_of_type w t)) → IsOk (in_uniform (info_of w t))
      is_ok e = subst IsOk (sym e) refl
