-- Laws of layouts: there is one list of them, each follows from the layouts of the parts of its type,
-- and alignments are powers of two.
use Rattle.std.proofs.Common.{◌≡◌, ◌<◌, ◌≤◌, ◌++◌, ◌∷◌, ◌⊎◌, ⊎_elim, inl, inr, Bool, true, false, if◌then◌else◌, ℕ, zero, suc, max, List, [], All, Option, Some, None, Result, Err, IsOk, map, length, slice_get, take, refl, sym, subst, ap, ◌∙◌, arith}
use Rattle.std.specs.Int.{is_power_of_two}
use Rattle.std.specs.Option.{option_map}
use Rattle.std.proofs.lemmas.List.{length-take, take_all}
use Rattle.std.proofs.lemmas.Option.{slice_get-map, slice_get_within}
use Rattle.naga_arena.proofs.Elements.{all_at}
use Rattle.naga_arena.proofs.InOrder.{accepted_once, found_at, get_before, get_stays}
use Rattle.naga_ir.specs.Handles.{GlobalReferencesOk}
use Rattle.naga_ir.proofs.ReferencesOfItems.{parts_come_before}
use Rattle.naga_ir.specs.ItemReferences.{GlobalLists}
use Rattle.naga_ir.specs.declared.types.«Type».{«Type»}
use Rattle.naga_ir.specs.declared.types.StructMember.{StructMember}
use Rattle.naga_ir.specs.declared.types.TypeInner.{TypeInner}
use Rattle.naga_ir.specs.declared.types.TypeInner.TheVariants.{Scalar, Vector, Matrix, CooperativeMatrix, Atomic, Array, Struct}
use Rattle.naga_ir.proofs.PartLemmas.{base_is, members_are}
use Rattle.naga_typing.proofs.InOrder.{value_by_all, value_by_those_before}
use Rattle.naga_typing.proofs.Powers.{power_of_one, power_of_vector}
use Rattle.naga_typing.specs.Layout.{AreLayouts, alignment_at, alignment_in, alignment_of, greatest, layout_in_order, layout_of, layout_results, layout_rule, size_of, size_rule, width_of}
use Rattle.naga_typing.specs.declared.layouter.LayoutErrorInner.{LayoutErrorInner}
use Rattle.naga_typing.specs.declared.layouter.LayoutErrorInner.TheVariants.{NonPowerOfTwoWidth}
use Rattle.naga_typing.specs.declared.layouter.TypeLayout.{TypeLayout}
use Rattle.naga_typing.specs.steps.Layout.{PartsLaidOut}

-- the alignment of an index stays when more types are laid out
at_stays : (layouts more : List TypeLayout) (t : ℕ) → t < length layouts → alignment_at (layouts ++ more) t ≡ alignment_at layouts t
at_stays layouts more t within = ap alignment_in (get_stays layouts more t within)

members_stay : (layouts more : List TypeLayout) (members : List StructMember) → All (λ (m : StructMember). m.ty < length layouts) members
    → map (λ (m : StructMember). alignment_at (layouts ++ more) m.ty) members ≡ map (λ (m : StructMember). alignment_at layouts m.ty) members
members_stay layouts more [] all = refl
members_stay layouts more (m ∷ members) all =
    ap (λ a. a ∷ map (λ (m : StructMember). alignment_at (layouts ++ more) m.ty) members) (at_stays layouts more m.ty (all 0 m (omega arith)))
    ∙ ap (λ rest. alignment_at layouts m.ty ∷ rest) (members_stay layouts more members (λ k d within. all (suc k) d (omega (arith, within))))

-- the alignment of a type stays when its parts are laid out already
alignment_stays : (layouts more : List TypeLayout) (inner : TypeInner) → PartsLaidOut layouts inner → alignment_of (layouts ++ more) inner ≡ alignment_of layouts inner
alignment_stays layouts more (Array base size stride) laid_out = at_stays layouts more base (base_is (λ (p : ℕ). p < length layouts) (Array base size stride) base size stride laid_out refl)
alignment_stays layouts more (Struct members span) laid_out =
    ap greatest (members_stay layouts more members (members_are (λ (p : ℕ). p < length layouts) (Struct members span) members span laid_out refl))
alignment_stays layouts more _ laid_out = refl

-- the alignments in these layouts are powers of two
abbrev pub ArePowers : List TypeLayout → Type 0
ArePowers layouts = (t : ℕ) → is_power_of_two (alignment_at layouts t) ≡ true

one_of_both : (a b : ℕ) → (max a b ≡ a) ⊎ (max a b ≡ b)
one_of_both zero b = inr (omega arith)
one_of_both (suc a) zero = inl (omega arith)
one_of_both (suc a) (suc b) = ⊎_elim (λ (h : max a b ≡ a). inl (omega (arith, h))) (λ (h : max a b ≡ b). inr (omega (arith, h))) (one_of_both a b)

greatest_power : (a b : ℕ) → is_power_of_two a ≡ true → is_power_of_two b ≡ true → is_power_of_two (max a b) ≡ true
greatest_power a b p q = ⊎_elim (λ (h : max a b ≡ a). ap is_power_of_two h ∙ p) (λ (h : max a b ≡ b). ap is_power_of_two h ∙ q) (one_of_both a b)

members_power : (layouts : List TypeLayout) (members : List StructMember) → ArePowers layouts → is_power_of_two (greatest (map (λ (m : StructMember). alignment_at layouts m.ty) members)) ≡ true
members_power layouts [] powers = power_of_one
members_power layouts (m ∷ members) powers =
    greatest_power (alignment_at layouts m.ty) (greatest (map (λ (m : StructMember). alignment_at layouts m.ty) members)) (powers m.ty) (members_power layouts members powers)

form_power : (layouts : List TypeLayout) (inner : TypeInner) → ArePowers layouts → is_power_of_two (width_of inner) ≡ true → is_power_of_two (alignment_of layouts inner) ≡ true
form_power layouts (Scalar scalar) powers width = width
form_power layouts (Vector size scalar) powers width = power_of_vector size scalar.width ∙ width
form_power layouts (Matrix columns rows scalar) powers width = power_of_vector rows scalar.width ∙ width
form_power layouts (CooperativeMatrix columns rows scalar role) powers width = width
form_power layouts (Atomic scalar) powers width = width
form_power layouts (Array base size stride) powers width = powers base
form_power layouts (Struct members span) powers width = members_power layouts members powers
form_power layouts _ powers width = power_of_one

module _ (g : GlobalLists) where
  -- there is one list of layouts at most
  pub layouts_once : (us vs : List TypeLayout) → AreLayouts g us → AreLayouts g vs → us ≡ vs
  layouts_once us vs u v = accepted_once (layout_in_order g) g.types us vs u.in_order v.in_order

  module _ (layouts : List TypeLayout) (are : AreLayouts g layouts) where
    -- the layout of each type follows from the layouts of its parts
    pub layout_by_parts : GlobalReferencesOk g → (t : ℕ) (x : «Type») → slice_get g.types t ≡ Some x → slice_get layouts t ≡ Some (layout_of g layouts x)
    layout_by_parts ok t x at = value_by_all (layout_of g) g.types layouts are.in_order t x at (λ before more so_many.
        let laid_out : PartsLaidOut before x.inner = λ p names. omega (arith, so_many, parts_come_before g ok t x p at names) in
        ap (λ (a : ℕ). let l : TypeLayout = record { size = size_of g x.inner; alignment = a } in l) (alignment_stays before more x.inner laid_out))

    good_width : (width : Bool) (r : Result (Unit {0}) LayoutErrorInner) → IsOk (if width then r else Err NonPowerOfTwoWidth) → width ≡ true
    good_width true r ok = refl
    good_width false r ok = absurd (cc ok)

    width_power : (t : ℕ) (x : «Type») → slice_get g.types t ≡ Some x → is_power_of_two (width_of x.inner) ≡ true
    width_power t x at =
        good_width (is_power_of_two (width_of x.inner)) (size_rule g x.inner)
        (all_at IsOk (layout_results g) t (layout_rule g x.inner) are.accepted (slice_get-map (λ (y : «Type»). layout_rule g y.inner) g.types t ∙ ap (option_map (λ (y : «Type»). layout_rule g y.inner)) at))

    -- the layout of a type whose predecessors have such alignments has one too
    one_power : (t : ℕ) (l : TypeLayout) → ArePowers (take t layouts) → slice_get layouts t ≡ Some l → is_power_of_two l.alignment ≡ true
    one_power t l powers at =
        let x = found_at g.types t (omega (arith, are.in_order.as_many, slice_get_within layouts t l at)) in
        let is : Some l ≡ Some (layout_of g (take t layouts) x.0) = sym at ∙ value_by_those_before (layout_of g) g.types layouts are.in_order t x.0 x.1 in
        ap (λ (o : Option TypeLayout). is_power_of_two (alignment_in o)) is ∙ form_power (take t layouts) x.0.inner powers (width_power t x.0 x.1)

    of_first : (m t : ℕ) → ((l : TypeLayout) → t < m → slice_get layouts t ≡ Some l → is_power_of_two l.alignment ≡ true) → is_power_of_two (alignment_at (take m layouts) t) ≡ true
    of_first m t power = by_layout (slice_get (take m layouts) t) refl
      where
        by_layout : (found : Option TypeLayout) → slice_get (take m layouts) t ≡ found → is_power_of_two (alignment_in (slice_get (take m layouts) t)) ≡ true
        by_layout None at = ap (λ o. is_power_of_two (alignment_in o)) at ∙ power_of_one
        by_layout (Some l) at =
            let within : t < m = omega (arith, length-take m layouts, slice_get_within (take m layouts) t l at) in
            ap (λ o. is_power_of_two (alignment_in o)) at ∙ power l within (sym (get_before layouts m t within) ∙ at)

    first_powers : (n m : ℕ) → m ≤ n → ArePowers (take m layouts)
    first_powers zero m below t = of_first m t (λ l within at. absurd (omega (arith, below, within)))
    first_powers (suc n) m below t = of_first m t (λ l within at. one_power t l (first_powers n t (omega (arith, within, below))) at)

    -- alignments are powers of two
    pub alignments_are_powers : ArePowers layouts
    alignments_are_powers = subst ArePowers (take_all (length layouts) layouts (omega arith)) (first_powers (length layouts) (length layouts) (omega arith))
