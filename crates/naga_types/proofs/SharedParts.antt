-- Parts of types that hosts may share: they are shared too, placed, and follow each other.
use Rattle.std.proofs.Common.{◌≡◌, ◌<◌, ◌≤◌, ◌+◌, ◌*◌, ⊎_elim, ℕ, suc, true, List, [], ◌∷◌, ◌++◌, Option, Some, Ok, length, slice_get, refl, sym, ap, subst, ◌∙◌, arith, length-append}
use Rattle.std.specs.Prelude.{◌-◌, ltb}
use Rattle.std.specs.Option.{option_map, unwrap_or}
use Rattle.std.proofs.lemmas.Bool.{cases_lt, ltb-true}
use Rattle.std.proofs.lemmas.Nat.{rows}
use Rattle.std.proofs.lemmas.Nat.Gcd.{dvd_of_mod-eq-zero, dvd_refl}
use Rattle.std.proofs.Math.Nat.{dvd-mul_left_of_dvd}
use Prim.Native.Nat.{◌∣◌}
use Rattle.std.proofs.lemmas.Option.{cond_some, same_Some, slice_get_within}
use Rattle.naga_arena.proofs.Progress.{slice_get-seam}
use Rattle.naga_flags.proofs.HasLemmas.{has-trans}
use Rattle.naga_flags.specs.Bits.{HOST_SHAREABLE, SIZED}
use Rattle.naga_flags.specs.Flags.{has}
use Rattle.naga_ir.specs.ItemReferences.{GlobalLists}
use Rattle.naga_ir.specs.declared.types.ArraySize.{ArraySize}
use Rattle.naga_ir.specs.declared.types.ArraySize.TheVariants.{Constant, Pending, Dynamic}
use Rattle.naga_ir.specs.declared.types.StructMember.{StructMember}
use Rattle.naga_ir.specs.declared.types.TypeInner.{TypeInner}
use Rattle.naga_ir.specs.declared.types.TypeInner.TheVariants.{Array, Struct}
use Rattle.naga_types.proofs.GreatestLemmas.{at_most_greatest}
use Rattle.naga_types.proofs.HostAlignments.{leaf-alignment}
use Rattle.naga_types.proofs.HostInside.{IsHostType, inside}
use Rattle.naga_types.proofs.CheckedTypes.{CheckedTypes, Judged, alignment_is, alignment_of_type, array_has, base_before, element_sized, info_of, known, known_is, member_before, rule_is, size_is, stride_fits}
use Rattle.naga_types.proofs.LayoutParts.{contains-place}
use Rattle.naga_types.proofs.LeafPlaces.{AllArePlaced, EndsBy, IsPlaced, map_some}
use Rattle.naga_types.proofs.PowersDivide.{powers_divide}
use Rattle.naga_types.proofs.StorageLayouts.{storage-exactly}
use Rattle.naga_types.proofs.StorageOfUniform.{powers}
use Rattle.naga_types.proofs.StructPlaces.{earlier_sized, ends_within, flags_are, members_follow, members_sized}
use Rattle.naga_types.specs.FormFlags.{array_flags}
use Rattle.naga_types.specs.HostLayouts.{IsStorageAligned, data_for_hosts}
use Rattle.naga_types.specs.Checks.{first}
use Rattle.naga_types.specs.Layouts.{in_storage}
use Rattle.naga_types.specs.StructRule.{struct_rule}
use Rattle.naga_types.specs.Surroundings.{Surroundings, info_at, size_at}
use Rattle.naga_types.specs.TypeRule.{type_rule}
use Rattle.naga_types.specs.declared.info.TypeInfo.{TypeInfo}
use Rattle.naga_typing.proofs.TypesInside.{AllInside, all-further_inside}
use Rattle.naga_typing.specs.Layout.{alignment_of, element_count, size_of}
use Rattle.naga_typing.specs.Leaves.{EndsInArray, IsInside, IsLeafAlignment, Part, array, element, elements, inner_at, is_leaf, itself, last_member, member, part_at, size_at_index}
use Rattle.naga_typing.specs.declared.layouter.TypeLayout.{TypeLayout}

-- an array of a fixed size has as many elements as its layout counts
fixed_count : (g : GlobalLists) (n : ℕ) (size : ArraySize) → has (array_flags size) SIZED ≡ true → elements g n size ≡ element_count g size
fixed_count g n (Constant count) h = refl
fixed_count g n (Pending o) h = refl
fixed_count g n Dynamic h = cc h

-- a runtime-sized array that is another has its elements
same_array : (g : GlobalLists) (n b base : ℕ) (size : ArraySize) (s stride : ℕ) → Some (Array b Dynamic s) ≡ Some (Array base size stride) → 0 + n * s ≡ elements g n size * stride
same_array g n b base size s stride e =
    let sizes : Dynamic ≡ size = cc in
    let strides : s ≡ stride = cc in
    let none : 0 + n * s ≡ n * s = omega arith in
    none ∙ ap (λ k. n * k) strides ∙ ap (λ k. elements g n k * stride) sizes

-- structs that are the same have the same members
same_members : (members others : List StructMember) (span own : ℕ) → Some (Struct members span) ≡ Some (Struct others own) → members ≡ others
same_members members others span own e = cc

-- the alignment of a leaf needs no layouts
leaf_alignment : (layouts : List TypeLayout) (inner : TypeInner) → is_leaf inner ≡ true → alignment_of layouts inner ≡ alignment_of [] inner
leaf_alignment layouts (Array base size stride) leaf = cc leaf
leaf_alignment layouts (Struct members span) leaf = cc leaf
leaf_alignment layouts _ leaf = refl

-- an element of a size that the stride is not below ends before each later one begins
next_ends : (i k stride size : ℕ) → i < k → size ≤ stride → i * stride + size ≤ k * stride
next_ends i k stride size before fits = let row = row_below i k stride before in omega (arith, row, fits)
  where
    row_below : (i k stride : ℕ) → i < k → i * stride + stride ≤ k * stride
    row_below i k stride before = grind (arith, rows)

module _ (w : CheckedTypes) (n : ℕ) where
  -- the alignment of the layout of a type
  abbrev al : ℕ → ℕ
  al = alignment_of_type w

  -- the part of an index, if runtime-sized arrays have `n` elements
  abbrev parts_of : TypeInner → ℕ → Option Part
  parts_of = part_at (elements w.lists n)

  -- hosts may share a type, and it is aligned in storage buffers
  pub record IsShared (t : ℕ) : Type 0 where
    pub host : IsHostType w t
    pub layout : in_storage (info_of w t) ≡ Ok (al t)

  -- the first byte after a type: by its size, or after the array that it ends in
  pub data HasLimit (t limit : ℕ) : Type 0 where
    at_size : has (info_of w t).flags.0 SIZED ≡ true → limit ≡ size_at_index w.lists t → HasLimit t limit
    at_end : (first stride : ℕ) → EndsInArray w.lists t first stride → limit ≡ first + n * stride → HasLimit t limit

  size_of_form : (t : ℕ) (inner : TypeInner) → inner_at w.lists t ≡ Some inner → size_at_index w.lists t ≡ size_of w.lists inner
  size_of_form t inner form = ap (λ o. unwrap_or (option_map (size_of w.lists) o) 0) form

  module _ (t : ℕ) (shared : IsShared t) where
    -- the type keeps its rule
    abbrev j : Judged w t
    j = w.each_accepted t shared.host.0

    -- by this
    abbrev s : Surroundings
    s = known w t j

    -- all types inside it are aligned by leaves
    all_aligned : AllInside w.lists (IsStorageAligned w.lists) t
    all_aligned = ((storage-exactly w t shared.host.0 shared.host.1).if_there (al t) shared.layout).1

    -- all types inside it are shared with hosts
    part_shared : (p : ℕ) → IsInside w.lists t p → IsShared p
    part_shared p i =
        let host = inside w t p i shared.host in
        record {
          host = host;
          layout = (storage-exactly w p host.0 host.1).is_there (all-further_inside w.lists (IsStorageAligned w.lists) t p i all_aligned);
        }

    -- at their leaf alignments
    leaf_alignment_of : (p : ℕ) → IsInside w.lists t p → IsLeafAlignment w.lists p (al p)
    leaf_alignment_of p i = let host = inside w t p i shared.host in leaf-alignment w p host.0 host.1

    module _ (base : ℕ) (size : ArraySize) (stride : ℕ) (form : inner_at w.lists t ≡ Some (Array base size stride)) where
      base_inside : IsInside w.lists t base
      base_inside = element t base size stride itself form

      before : base < t
      before = base_before w t j base size stride form

      array_rule : type_rule s t (Array base size stride) ≡ Ok (info_of w t)
      array_rule = rule_is w t j (Array base size stride) form

      base_sized : has (info_of w base).flags.0 SIZED ≡ true
      base_sized = ap (λ (i : TypeInfo). has i.flags.0 SIZED) (sym (known_is w t j base before)) ∙ element_sized s t base size stride (info_of w t) array_rule

      stride_multiple : al base ∣ stride
      stride_multiple = dvd_of_mod-eq-zero (al base) ((all_aligned t itself).of_stride base size stride form (al base) (leaf_alignment_of base base_inside))

      array_place : (i : ℕ) (part : Part) → parts_of (Array base size stride) i ≡ Some part → IsPlaced IsShared al t part
      array_place i part at =
          subst (λ (p : Part). IsPlaced IsShared al t p) (cond_some (ltb i (elements w.lists n size)) _ part at).1 (record {
            good = part_shared base base_inside;
            divides = subst (λ a. al base ∣ a) (sym (alignment_is w t j (Array base size stride) form)) (dvd_refl (al base));
            aligned = dvd-mul_left_of_dvd (al base) stride_multiple i;
          })

      -- an element ends by each multiple of the stride behind its first byte
      element_ends : (i k : ℕ) (part : Part) → parts_of (Array base size stride) i ≡ Some part → i < k → EndsBy HasLimit part (k * stride)
      element_ends i k part at behind =
          subst (λ (p : Part). EndsBy HasLimit p (k * stride)) (cond_some (ltb i (elements w.lists n size)) _ part at).1 (record {
            own = size_at_index w.lists base;
            is_own = at_size base_sized refl;
            within = next_ends i k stride (size_at_index w.lists base) behind (stride_fits w t base size stride shared.host.0 form);
          })

      within_count : (i : ℕ) (part : Part) → parts_of (Array base size stride) i ≡ Some part → i < elements w.lists n size
      within_count i part at = ltb-true i (elements w.lists n size) (cond_some (ltb i (elements w.lists n size)) _ part at).0

      -- an array ends where its elements end
      array_limit : (limit : ℕ) → HasLimit t limit → limit ≡ elements w.lists n size * stride
      array_limit limit (at_size sized e) =
          let fixed = (array_has s t base size stride (info_of w t) array_rule SIZED sized).1 in
          e ∙ size_of_form t (Array base size stride) form ∙ ap (λ k. k * stride) (sym (fixed_count w.lists n size fixed))
      array_limit limit (at_end first stride′ ends e) = e ∙ by_end first stride′ ends
        where
          by_end : (first stride′ : ℕ) → EndsInArray w.lists t first stride′ → first + n * stride′ ≡ elements w.lists n size * stride
          by_end _ _ (array b stride′ at) = same_array w.lists n b base size stride′ stride (sym at ∙ form)
          by_end _ _ (last_member front m span b stride′ at last) = cc (at, form)

    module _ (members : List StructMember) (span : ℕ) (form : inner_at w.lists t ≡ Some (Struct members span)) where
      struct_is : struct_rule s t members span ≡ Ok (info_of w t)
      struct_is = rule_is w t j (Struct members span) form

      for_hosts : has (info_of w t).flags.0 HOST_SHAREABLE ≡ true
      for_hosts = has-trans (info_of w t).flags.0 data_for_hosts HOST_SHAREABLE shared.host.1 refl

      module _ (k : ℕ) (m : StructMember) (at : slice_get members k ≡ Some m) where
        -- the member as a part
        abbrev part : Part
        part = record { ty = m.ty; first = m.offset }

        member_inside : IsInside w.lists t m.ty
        member_inside = member t members span m itself form (contains-place members k m at)

        first_before : m.ty < t
        first_before = member_before w t j members span k m form at

        member_within : m.ty < length w.infos
        member_within = let before = first_before in omega (arith, before, shared.host.0)

        member_is : info_at s m.ty ≡ info_of w m.ty
        member_is = known_is w t j m.ty first_before

        member_size : size_at s m.ty ≡ size_at_index w.lists m.ty
        member_size = size_is w m.ty (w.each_accepted m.ty member_within)

        member_divides : al m.ty ∣ al t
        member_divides =
            let whole = alignment_is w t j (Struct members span) form in
            let below = at_most_greatest (λ (m : StructMember). al m.ty) members k m at in
            powers_divide (al m.ty) (al t) (omega (arith, whole, below)) (powers w m.ty) (powers w t)

        member_place : IsPlaced IsShared al t part
        member_place = record {
          good = part_shared m.ty member_inside;
          divides = member_divides;
          aligned = dvd_of_mod-eq-zero (al m.ty) ((all_aligned t itself).of_offset members span m form (contains-place members k m at) (al m.ty) (leaf_alignment_of m.ty member_inside));
        }

        -- a member of a fixed size ends by a byte that its size does not pass
        sized_ends : (limit : ℕ) → has (info_at s m.ty).flags.0 SIZED ≡ true → m.offset + size_at s m.ty ≤ limit → EndsBy HasLimit part limit
        sized_ends limit sized below = record {
          own = size_at_index w.lists m.ty;
          is_own = at_size (ap (λ (i : TypeInfo). has i.flags.0 SIZED) (sym member_is) ∙ sized) refl;
          within = let size = member_size in omega (arith, size, below);
        }

        -- a member ends before each one behind it begins
        member_ends_before : (i : ℕ) (q : StructMember) → slice_get members i ≡ Some q → k < i → EndsBy HasLimit part q.offset
        member_ends_before i q there behind =
            let within = slice_get_within members i q there in
            let sized = earlier_sized s t members span (info_of w t) struct_is k m at (omega (arith, behind, within)) in
            sized_ends q.offset sized (members_follow s t members span (info_of w t) struct_is for_hosts (i - suc k) k i m q (omega (arith, behind)) at there)

        -- a member ends where a struct ends that ends in an array
        member_ends_at_last : (front : List StructMember) (q : StructMember) (b stride : ℕ) → members ≡ front ++ q ∷ [] → inner_at w.lists q.ty ≡ Some (Array b Dynamic stride) → EndsBy HasLimit part (q.offset + n * stride)
        member_ends_at_last front q b stride same last =
            let within = slice_get_within members k m at in
            let long : length members ≡ length front + 1 = ap length same ∙ length-append front (q ∷ []) in
            let last_is : slice_get members (length front) ≡ Some q = ap (λ l. slice_get l (length front)) same ∙ slice_get-seam front [] q in
            ⊎_elim
            (λ (earlier : k < length front).
            let ends = member_ends_before (length front) q last_is earlier in
            let below : m.offset + ends.own ≤ q.offset = ends.within in
            record { own = ends.own; is_own = ends.is_own; within = omega (arith, below) })
            (λ (here : length front ≤ k).
            let place : k ≡ length front = omega (arith, within, long) in
            let one : q ≡ m = same_Some q m (sym last_is ∙ ap (slice_get members) (sym place) ∙ at) in
            let own : inner_at w.lists m.ty ≡ Some (Array b Dynamic stride) = ap (λ (x : StructMember). inner_at w.lists x.ty) (sym one) ∙ last in
            let there : q.offset ≡ m.offset = ap (λ (x : StructMember). x.offset) one in
            record { own = n * stride; is_own = at_end 0 stride (array b stride own) (let none : n * stride ≡ 0 + n * stride = omega arith in none); within = omega (arith, there) })
            (cases_lt k (length front))

        -- a member ends where its struct ends
        member_ends : (limit : ℕ) → HasLimit t limit → EndsBy HasLimit part limit
        member_ends limit (at_size sized e) =
            let whole = size_of_form t (Struct members span) form in
            let below = ends_within s t members span (info_of w t) struct_is k m at in
            let struct_sized = ap (λ flags. has flags SIZED) (sym (flags_are s t members span (info_of w t) struct_is)) ∙ sized in
            sized_ends limit (members_sized s members k m struct_sized at) (omega (arith, whole, below, e))
        member_ends limit (at_end first stride ends e) = subst (EndsBy HasLimit part) (sym e) (by_end first stride ends)
          where
            by_end : (first stride : ℕ) → EndsInArray w.lists t first stride → EndsBy HasLimit part (first + n * stride)
            by_end _ _ (array b stride at) = cc (at, form)
            by_end _ _ (last_member front q own b stride there last) = member_ends_at_last front q b stride (same_members members (front ++ q ∷ []) span own (sym form ∙ there)) last

  -- the parts of each type are placed
  placed_by_form : (t : ℕ) (inner : TypeInner) (i : ℕ) (part : Part) → IsShared t → inner_at w.lists t ≡ Some inner → parts_of inner i ≡ Some part → IsPlaced IsShared al t part
  placed_by_form t (Array base size stride) i part shared form at = array_place t shared base size stride form i part at
  placed_by_form t (Struct members span) i part shared form at =
      let split = map_some _ (slice_get members i) part at in
      subst (λ p. IsPlaced IsShared al t p) split.2 (member_place t shared members span form i split.0 split.1)
  placed_by_form t _ i part shared form at = cc at

  -- the parts of a type end where the type ends
  ends_by_form : (t : ℕ) (inner : TypeInner) (i limit : ℕ) (part : Part) → IsShared t → HasLimit t limit → inner_at w.lists t ≡ Some inner → parts_of inner i ≡ Some part → EndsBy HasLimit part limit
  ends_by_form t (Array base size stride) i limit part shared ends form at =
      subst (λ l. EndsBy HasLimit part l) (sym (array_limit t shared base size stride form limit ends))
      (element_ends t shared base size stride form i (elements w.lists n size) part at (within_count t shared base size stride form i part at))
  ends_by_form t (Struct members span) i limit part shared ends form at =
      let split = map_some _ (slice_get members i) part at in
      subst (λ p. EndsBy HasLimit p limit) split.2 (member_ends t shared members span form i split.0 split.1 limit ends)
  ends_by_form t _ i limit part shared ends form at = cc at

  -- each ends before the next begins
  follow_by_form : (t : ℕ) (inner : TypeInner) (i j : ℕ) (p q : Part) → IsShared t → inner_at w.lists t ≡ Some inner → parts_of inner i ≡ Some p → parts_of inner j ≡ Some q → i < j → EndsBy HasLimit p q.first
  follow_by_form t (Array base size stride) i j p q shared form at there before =
      let split = cond_some (ltb j (elements w.lists n size)) _ q there in
      subst (λ (r : Part). EndsBy HasLimit p r.first) split.1 (element_ends t shared base size stride form i j p at before)
  follow_by_form t (Struct members span) i j p q shared form at there before =
      let split = map_some _ (slice_get members i) p at in
      let other = map_some _ (slice_get members j) q there in
      subst (λ r. EndsBy HasLimit r q.first) split.2
      (subst (λ (r : Part). EndsBy HasLimit (record { ty = split.0.ty; first = split.0.offset }) r.first) other.2 (member_ends_before t shared members span form i split.0 split.1 j other.0 other.1 before))
  follow_by_form t _ i j p q shared form at there before = cc at

  -- a leaf ends where the type ends
  leaf_limit : (t : ℕ) (inner : TypeInner) (limit : ℕ) → HasLimit t limit → inner_at w.lists t ≡ Some inner → is_leaf inner ≡ true → size_of w.lists inner ≤ limit
  leaf_limit t inner limit (at_size sized e) form leaf = let size = size_of_form t inner form in omega (arith, size, e)
  leaf_limit t inner limit (at_end first s ends e) form leaf = absurd (no_end first s ends)
    where
      no_end : (first s : ℕ) → EndsInArray w.lists t first s → ⊥
      no_end _ _ (array b s at) = absurd (let same : inner ≡ Array b Dynamic s = same_Some inner (Array b Dynamic s) (sym form ∙ at) in cc (leaf, ap is_leaf same))
      no_end _ _ (last_member front q own b s at last) = absurd (let same : inner ≡ Struct (front ++ q ∷ []) own = same_Some inner (Struct (front ++ q ∷ []) own) (sym form ∙ at) in cc (leaf, ap is_leaf same))

  -- the parts of all types that hosts may share are placed
  pub all_placed : AllArePlaced w.lists (elements w.lists n) IsShared HasLimit al
  all_placed = record {
    placed = placed_by_form;
    ends = ends_by_form;
    follow = follow_by_form;
    leaf_divides = λ t inner shared form leaf. subst (λ a. alignment_of [] inner ∣ a) (sym (alignment_is w t (w.each_accepted t shared.host.0) inner form ∙ leaf_alignment w.layouts inner leaf)) (dvd_refl (alignment_of [] inner));
    leaf_ends = λ t inner limit shared ends form leaf. leaf_limit t inner limit ends form leaf;
  }
