-- Types that keep their rule by the infos of the types before them.
use Rattle.std.proofs.Common.{◌≡◌, ◌<◌, ◌≤◌, ⊎_elim, ℕ, Bool, true, false, List, [], ◌∷◌, ◌++◌, Some, None, Ok, Contains, length, slice_get, take, refl, sym, ap, subst, ◌∙◌, arith, length-append}
use Rattle.std.specs.Prelude.{leb}
use Rattle.std.specs.Option.{option_map, option_map_or, unwrap_or}
use Rattle.std.proofs.lemmas.Bool.{and_parts, cases_lt, leb-true}
use Rattle.std.proofs.lemmas.List.{length-take, length-take-le, take_all}
use Rattle.std.proofs.lemmas.Option.{same_Some, slice_get_within}
use Rattle.naga_arena.proofs.Elements.{all_at}
use Rattle.naga_arena.proofs.InOrder.{found_at, get_before, get_stays}
use Rattle.naga_arena.proofs.Progress.{slice_get-seam}
use Rattle.naga_arena.specs.InOrder.{FollowInOrder}
use Rattle.naga_flags.proofs.HasLemmas.{has-bit_and, has-trans}
use Rattle.naga_flags.specs.Bits.{SIZED}
use Rattle.naga_flags.specs.Flags.{has}
use Rattle.naga_flags.specs.declared.flags.Capabilities.{Capabilities}
use Rattle.naga_ir.proofs.Handles.{global_references_ok}
use Rattle.naga_ir.proofs.ReferencesOfItems.{parts_come_before}
use Rattle.naga_ir.specs.Handles.{GlobalReferencesOk}
use Rattle.naga_ir.specs.ItemReferences.{GlobalLists, global_lists}
use Rattle.naga_ir.specs.declared.ir.Module.{Module}
use Rattle.naga_ir.proofs.PartLemmas.{base_is, members_are}
use Rattle.naga_ir.specs.Parts.{parts}
use Rattle.naga_ir.specs.declared.types.«Type».{«Type»}
use Rattle.naga_ir.specs.declared.types.ArraySize.{ArraySize}
use Rattle.naga_ir.specs.declared.types.StructMember.{StructMember}
use Rattle.naga_ir.specs.declared.types.TypeInner.{TypeInner}
use Rattle.naga_ir.specs.declared.types.TypeInner.TheVariants.{Array, Struct}
use Rattle.naga_types.proofs.KeptConditions.{granted_ok, none_stands, unless-kept}
use Rattle.naga_types.proofs.LeafPlaces.{map_some}
use Rattle.naga_types.specs.AcceptedTypes.{AreTypesAccepted, surroundings_by, types_rule}
use Rattle.naga_types.specs.FormFlags.{array_flags, element_flags}
use Rattle.naga_types.specs.Checks.{first}
use Rattle.naga_types.specs.Surroundings.{Surroundings, flags_at, info_at, info_in, size_at}
use Rattle.naga_types.specs.TypeRule.{array_checks, array_info, type_rule}
use Rattle.naga_types.specs.declared.info.TypeInfo.{TypeInfo}
use Rattle.naga_typing.proofs.Layouts.{layout_by_parts}
use Rattle.naga_typing.specs.Layout.{AreLayouts, alignment_at, alignment_in, alignment_of, layout_of, size_of}
use Rattle.naga_typing.specs.Leaves.{inner_at, size_at_index}
use Rattle.naga_typing.specs.declared.layouter.TypeLayout.{TypeLayout}

-- type `t` keeps its rule by infos that agree with `infos` on the types before it, and its own info is the rule's
pub record IsAcceptedType (g : GlobalLists) (capabilities : Capabilities) (resolved : Bool) (layouts : List TypeLayout) (infos : List TypeInfo) (t : ℕ) : Type 0 where
  pub ty : «Type»
  pub at : slice_get g.types t ≡ Some ty
  pub known : List TypeInfo
  pub before : (p : ℕ) → p < t → slice_get known p ≡ slice_get infos p
  pub by_rule : type_rule (surroundings_by g capabilities resolved layouts known) t ty.inner ≡ Ok (info_in (slice_get infos t))

-- lists of a module and the layouts of their types, of which some have infos by the rule
pub record CheckedTypes : Type 0 where
  pub lists : GlobalLists
  pub capabilities : Capabilities
  pub resolved : Bool
  pub layouts : List TypeLayout
  pub infos : List TypeInfo
  pub references : GlobalReferencesOk lists
  pub laid_out : AreLayouts lists layouts
  pub each_accepted : (t : ℕ) → t < length infos → IsAcceptedType lists capabilities resolved layouts infos t

-- types that the rule accepts in their order keep their rule
pub accepted_in_order : (g : GlobalLists) (capabilities : Capabilities) (resolved : Bool) (layouts : List TypeLayout) (count : ℕ) (infos : List TypeInfo)
    → FollowInOrder (types_rule g capabilities resolved layouts) (take count g.types) infos → (t : ℕ) → t < length infos → IsAcceptedType g capabilities resolved layouts infos t
accepted_in_order g capabilities resolved layouts count infos follow t within =
    let found = found_at infos t within in
    let Types = take count g.types in
    let split = map_some (types_rule g capabilities resolved layouts (take t infos) t) (slice_get Types t) _ (follow t found.0 found.1) in
    let short : t < count = omega (arith, length-take count g.types, slice_get_within Types t split.0 split.1) in
    record {
      ty = split.0;
      at = sym (get_before g.types count t short) ∙ split.1;
      known = take t infos;
      before = λ p earlier. get_before infos t p earlier;
      by_rule = split.2 ∙ ap (λ o. Ok (info_in o)) (sym found.1);
    }

-- a type still keeps its rule when there are more infos
accepted_still : (g : GlobalLists) (capabilities : Capabilities) (resolved : Bool) (layouts : List TypeLayout) (infos more : List TypeInfo) (t : ℕ) → t < length infos
    → IsAcceptedType g capabilities resolved layouts infos t → IsAcceptedType g capabilities resolved layouts (infos ++ more) t
accepted_still g capabilities resolved layouts infos more t within j = record {
  ty = j.ty;
  at = j.at;
  known = j.known;
  before = λ p earlier. j.before p earlier ∙ sym (get_stays infos more p (omega (arith, within, earlier)));
  by_rule = j.by_rule ∙ ap (λ o. Ok (info_in o)) (sym (get_stays infos more t within));
}

-- the next type keeps its rule too, by all infos, if its own info is the rule's
pub accepted_with_next : (g : GlobalLists) (capabilities : Capabilities) (resolved : Bool) (layouts : List TypeLayout) (infos : List TypeInfo) (t : ℕ) (x : «Type») (info : TypeInfo) → t ≤ length infos
    → FollowInOrder (types_rule g capabilities resolved layouts) (take t g.types) (take t infos) → slice_get g.types t ≡ Some x
    → type_rule (surroundings_by g capabilities resolved layouts infos) t x.inner ≡ Ok info → (p : ℕ) → p < length (take t infos ++ info ∷ []) → IsAcceptedType g capabilities resolved layouts (take t infos ++ info ∷ []) p
accepted_with_next g capabilities resolved layouts infos t x info within follow at rule p below =
    let so_many : length (take t infos) ≡ t = length-take-le t infos within in
    let seam : slice_get (take t infos ++ info ∷ []) t ≡ Some info = ap (slice_get (take t infos ++ info ∷ [])) (sym so_many) ∙ slice_get-seam (take t infos) [] info in
    let next : IsAcceptedType g capabilities resolved layouts (take t infos ++ info ∷ []) t = record {
      ty = x;
      at = at;
      known = infos;
      before = λ q earlier. sym (get_before infos t q earlier) ∙ sym (get_stays (take t infos) (info ∷ []) q (omega (arith, so_many, earlier)));
      by_rule = rule ∙ ap (λ o. Ok (info_in o)) (sym seam);
    } in
    ⊎_elim
    (λ (earlier : p < length (take t infos)). accepted_still g capabilities resolved layouts (take t infos) (info ∷ []) p earlier (accepted_in_order g capabilities resolved layouts t (take t infos) follow p earlier))
    (λ (here : length (take t infos) ≤ p).
    let last : t ≡ p = omega (arith, so_many, here, below, length-append (take t infos) (info ∷ [])) in
    subst (IsAcceptedType g capabilities resolved layouts (take t infos ++ info ∷ [])) last next)
    (cases_lt p (length (take t infos)))

-- all types of a module whose types are accepted keep their rule
abbrev pub accepted_types : (m : Module) (capabilities : Capabilities) (resolved : Bool) (layouts : List TypeLayout) (infos : List TypeInfo) → AreTypesAccepted m capabilities resolved layouts infos → CheckedTypes
accepted_types m capabilities resolved layouts infos accepted =
    let all : take (length m.types) m.types ≡ m.types = take_all (length m.types) m.types (omega arith) in
    record {
      lists = global_lists m;
      capabilities = capabilities;
      resolved = resolved;
      layouts = layouts;
      infos = infos;
      references = global_references_ok m accepted.laid_out.handles;
      laid_out = accepted.laid_out.each_type;
      each_accepted = accepted_in_order (global_lists m) capabilities resolved layouts (length m.types) infos
          (subst (λ types. FollowInOrder (types_rule (global_lists m) capabilities resolved layouts) types infos) (sym all) accepted.each_type.follow);
    }

-- the size in the layout of a type is the type's
pub size_laid_out : (g : GlobalLists) (layouts : List TypeLayout) → AreLayouts g layouts → GlobalReferencesOk g → (t : ℕ) (ty : «Type») → slice_get g.types t ≡ Some ty
    → option_map_or (λ (layout : TypeLayout). layout.size) (slice_get layouts t) 0 ≡ size_at_index g t
size_laid_out g layouts laid_out references t ty at =
    ap (λ o. option_map_or (λ (layout : TypeLayout). layout.size) o 0) (layout_by_parts g layouts laid_out references t ty at) ∙ ap (λ o. unwrap_or (option_map (size_of g) (option_map (λ (ty : «Type»). ty.inner) o)) 0) (sym at)

module _ (w : CheckedTypes) where
  -- the info of a type
  abbrev pub info_of : ℕ → TypeInfo
  info_of t = info_in (slice_get w.infos t)

  -- the alignment of its layout
  abbrev pub alignment_of_type : ℕ → ℕ
  alignment_of_type t = alignment_at w.layouts t

  -- the type keeps its rule
  abbrev pub Judged : ℕ → Type 0
  Judged t = IsAcceptedType w.lists w.capabilities w.resolved w.layouts w.infos t

  module _ (t : ℕ) (j : Judged t) where
    -- what its rule depends on
    abbrev pub known : Surroundings
    known = surroundings_by w.lists w.capabilities w.resolved w.layouts j.known

    -- the infos that its rule depends on are the infos of the types before it
    pub known_is : (p : ℕ) → p < t → info_at known p ≡ info_of p
    known_is p earlier = ap info_in (j.before p earlier)

    -- the type that its rule reads is its own
    pub own_form : inner_at w.lists t ≡ Some j.ty.inner
    own_form = ap (option_map (λ (ty : «Type»). ty.inner)) j.at

    -- no other `TypeInner` is the type's
    pub form_is : (inner : TypeInner) → inner_at w.lists t ≡ Some inner → j.ty.inner ≡ inner
    form_is inner form = same_Some j.ty.inner inner (sym own_form ∙ form)

    -- the rule of its variant gives its info
    pub rule_is : (inner : TypeInner) → inner_at w.lists t ≡ Some inner → type_rule known t inner ≡ Ok (info_of t)
    rule_is inner form = ap (type_rule known t) (sym (form_is inner form)) ∙ j.by_rule

    -- the layout of a type is the layout of its `TypeInner`
    laid_out_at : slice_get w.layouts t ≡ Some (layout_of w.lists w.layouts j.ty)
    laid_out_at = layout_by_parts w.lists w.layouts w.laid_out w.references t j.ty j.at

    -- the alignment of a type is the alignment of its `TypeInner`
    pub alignment_is : (inner : TypeInner) → inner_at w.lists t ≡ Some inner → alignment_of_type t ≡ alignment_of w.layouts inner
    alignment_is inner form = ap alignment_in laid_out_at ∙ ap (alignment_of w.layouts) (form_is inner form)

    -- the size of a type is the size of its `TypeInner`
    pub size_is : size_at known t ≡ size_at_index w.lists t
    size_is = size_laid_out w.lists w.layouts w.laid_out w.references t j.ty j.at

    -- the types that it names come before it
    pub parts_before : (p : ℕ) → Contains (parts j.ty.inner) p → p < t
    parts_before p names = parts_come_before w.lists w.references t j.ty p j.at names

    -- the base of an array comes before it
    pub base_before : (base : ℕ) (size : ArraySize) (stride : ℕ) → inner_at w.lists t ≡ Some (Array base size stride) → base < t
    base_before base size stride form =
        base_is (λ p. p < t) j.ty.inner base size stride parts_before (form_is (Array base size stride) form)

    -- the type of each member of a struct comes before it
    pub member_before : (members : List StructMember) (span k : ℕ) (m : StructMember) → inner_at w.lists t ≡ Some (Struct members span) → slice_get members k ≡ Some m → m.ty < t
    member_before members span k m form there =
        all_at (λ (m : StructMember). m.ty < t) members k m
        (members_are (λ p. p < t) j.ty.inner members span parts_before (form_is (Struct members span) form)) there

module _ (s : Surroundings) (t base : ℕ) (size : ArraySize) (stride : ℕ) (i : TypeInfo) (is : type_rule s t (Array base size stride) ≡ Ok i) where
  -- the info of an array is that by its base
  pub array_info_is : array_info s t base size stride ≡ i
  array_info_is = (granted_ok (first (array_checks false s t base size stride)) _ i is).1

  array_kept : first (array_checks false s t base size stride) ≡ None
  array_kept = (granted_ok (first (array_checks false s t base size stride)) _ i is).0

  -- the elements of an array have fixed sizes
  pub element_sized : has (flags_at s base) SIZED ≡ true
  element_sized =
      has-trans (flags_at s base) element_flags SIZED (unless-kept (has (flags_at s base) element_flags) _ (none_stands (array_checks false s t base size stride) 0 _ array_kept refl)) refl

  -- the stride of an array is not below the size of its elements
  pub element_fits : size_at s base ≤ stride
  element_fits = leb-true (size_at s base) stride (unless-kept (leb (size_at s base) stride) _ (none_stands (array_checks false s t base size stride) 1 _ array_kept refl))

  -- an array has flags that its base has and its size allows
  pub array_has : (flag : ℕ) → has i.flags.0 flag ≡ true → (has (flags_at s base) flag ≡ true) × (has (array_flags size) flag ≡ true)
  array_has flag h = and_parts (has (flags_at s base) flag) _ (sym (has-bit_and (flags_at s base) (array_flags size) flag) ∙ ap (λ (x : TypeInfo). has x.flags.0 flag) array_info_is ∙ h)

module _ (w : CheckedTypes) where
  -- the stride of an array is not below the size of its elements
  pub stride_fits : (t base : ℕ) (size : ArraySize) (stride : ℕ) → t < length w.infos → inner_at w.lists t ≡ Some (Array base size stride) → size_at_index w.lists base ≤ stride
  stride_fits t base size stride within form =
      let j = w.each_accepted t within in
      let before = base_before w t j base size stride form in
      let own = size_is w base (w.each_accepted base (omega (arith, before, within))) in
      subst (λ bytes. bytes ≤ stride) own (element_fits (known w t j) t base size stride (info_of w t) (rule_is w t j (Array base size stride) form))
