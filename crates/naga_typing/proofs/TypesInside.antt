-- What holds of all types inside a type.
use Rattle.std.proofs.Common.{◌≡◌, ◌⊎◌, ⊎_elim, inl, inr, ℕ, true, List, Contains, Some, refl, sym, subst, ap, ◌∙◌}
use Rattle.naga_ir.specs.ItemReferences.{GlobalLists}
use Rattle.naga_ir.specs.declared.types.ArraySize.{ArraySize}
use Rattle.naga_ir.specs.declared.types.StructMember.{StructMember}
use Rattle.naga_ir.specs.declared.types.TypeInner.{TypeInner}
use Rattle.naga_ir.specs.declared.types.TypeInner.TheVariants.{Array, Struct}
use Rattle.naga_typing.specs.Leaves.{IsInside, inner_at, is_leaf, itself, element, member}

module _ (g : GlobalLists) where
  -- `P` holds of all types inside the type of index `t`
  abbrev pub AllInside : (ℕ → Type 0) → ℕ → Type 0
  AllInside P t = (u : ℕ) → IsInside g t u → P u

  -- what is inside a type that is inside another is inside that
  pub inside-both : (t u v : ℕ) → IsInside g t u → IsInside g u v → IsInside g t v
  inside-both t u _ outer itself = outer
  inside-both t u _ outer (element v base size stride h is) = element v base size stride (inside-both t u v outer h) is
  inside-both t u _ outer (member v members span m h is has_m) = member v members span m (inside-both t u v outer h) is has_m

  -- what holds of all types inside a type holds of all types inside one that is inside it
  pub all-further_inside : (P : ℕ → Type 0) (t u : ℕ) → IsInside g t u → AllInside P t → AllInside P u
  all-further_inside P t u outer all v h = all v (inside-both t u v outer h)

  -- a leaf has nothing else inside
  in_leaf : (t : ℕ) (inner : TypeInner) → inner_at g t ≡ Some inner → is_leaf inner ≡ true → (u : ℕ) → IsInside g t u → t ≡ u
  in_leaf t inner at leaf _ itself = refl
  in_leaf t inner at leaf _ (element v base size stride h is) = absurd (impossible (sym (ap (inner_at g) (in_leaf t inner at leaf v h)) ∙ at) leaf)
    where
      same_form : inner_at g v ≡ Some inner → (let array : TypeInner = Array base size stride in array ≡ inner)
      same_form e = cc (is, e)

      impossible : inner_at g v ≡ Some inner → is_leaf inner ≡ true → ⊥
      impossible e unary = cc (ap is_leaf (same_form e), unary)
  in_leaf t inner at leaf _ (member v members span m h is has_m) = absurd (impossible (sym (ap (inner_at g) (in_leaf t inner at leaf v h)) ∙ at) leaf)
    where
      same_form : inner_at g v ≡ Some inner → (let struct : TypeInner = Struct members span in struct ≡ inner)
      same_form e = cc (is, e)

      impossible : inner_at g v ≡ Some inner → is_leaf inner ≡ true → ⊥
      impossible e unary = cc (ap is_leaf (same_form e), unary)

  -- what holds of a leaf holds of all inside it
  pub all-in_leaf : (P : ℕ → Type 0) (t : ℕ) (inner : TypeInner) → inner_at g t ≡ Some inner → is_leaf inner ≡ true → P t → AllInside P t
  all-in_leaf P t inner at leaf here u h = subst P (in_leaf t inner at leaf u h) here

  in_array : (t base : ℕ) (size : ArraySize) (stride : ℕ) → inner_at g t ≡ Some (Array base size stride) → (u : ℕ) → IsInside g t u → (t ≡ u) ⊎ IsInside g base u
  in_array t base size stride at _ itself = inl refl
  in_array t base size stride at _ (element v b s d h is) =
      ⊎_elim
      (λ (e : t ≡ v). inr (subst (IsInside g base) (same_base (sym (ap (inner_at g) e) ∙ at)) itself))
      (λ (further : IsInside g base v). inr (element v b s d further is))
      (in_array t base size stride at v h)
    where
      same_base : inner_at g v ≡ Some (Array base size stride) → base ≡ b
      same_base e = cc (is, e)
  in_array t base size stride at _ (member v members span m h is has_m) =
      ⊎_elim
      (λ (e : t ≡ v). absurd (no_struct (sym (ap (inner_at g) e) ∙ at)))
      (λ (further : IsInside g base v). inr (member v members span m further is has_m))
      (in_array t base size stride at v h)
    where
      no_struct : inner_at g v ≡ Some (Array base size stride) → ⊥
      no_struct e = cc (is, e)

  -- what holds of an array and of all inside its base holds of all inside the array
  pub all-in_array : (P : ℕ → Type 0) (t base : ℕ) (size : ArraySize) (stride : ℕ) → inner_at g t ≡ Some (Array base size stride) → P t → AllInside P base → AllInside P t
  all-in_array P t base size stride at here all u h = ⊎_elim (λ (e : t ≡ u). subst P e here) (all u) (in_array t base size stride at u h)

  -- a type is inside one of some members
  abbrev pub InMember : List StructMember → ℕ → Type 0
  InMember members u = (m : StructMember) × Contains members m × IsInside g m.ty u

  in_struct : (t : ℕ) (members : List StructMember) (span : ℕ) → inner_at g t ≡ Some (Struct members span) → (u : ℕ) → IsInside g t u → (t ≡ u) ⊎ InMember members u
  in_struct t members span at _ itself = inl refl
  in_struct t members span at _ (element v b s d h is) =
      ⊎_elim
      (λ (e : t ≡ v). absurd (no_array (sym (ap (inner_at g) e) ∙ at)))
      (λ (further : InMember members v). inr (further.0, further.1, element v b s d further.2 is))
      (in_struct t members span at v h)
    where
      no_array : inner_at g v ≡ Some (Struct members span) → ⊥
      no_array e = cc (is, e)
  in_struct t members span at _ (member v ms sp m h is has_m) =
      ⊎_elim
      (λ (e : t ≡ v). inr (m, subst (λ l. Contains l m) (same_members (sym (ap (inner_at g) e) ∙ at)) has_m, itself))
      (λ (further : InMember members v). inr (further.0, further.1, member v ms sp m further.2 is has_m))
      (in_struct t members span at v h)
    where
      same_members : inner_at g v ≡ Some (Struct members span) → ms ≡ members
      same_members e = cc (is, e)

  -- what holds of a struct and of all inside its members holds of all inside the struct
  pub all-in_struct : (P : ℕ → Type 0) (t : ℕ) (members : List StructMember) (span : ℕ) → inner_at g t ≡ Some (Struct members span) → P t
      → ((m : StructMember) → Contains members m → AllInside P m.ty) → AllInside P t
  all-in_struct P t members span at here all u h =
      ⊎_elim (λ (e : t ≡ u). subst P e here) (λ (further : InMember members u). all further.0 further.1 u further.2) (in_struct t members span at u h)
