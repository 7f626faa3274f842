-- Leaves are aligned, contained and disjoint if parts are.
use Rattle.std.proofs.Common.{◌≡◌, ◌<◌, ◌≤◌, ◌+◌, ◌⊎◌, ◌≢◌, ⊎_elim, inl, inr, ℕ, true, List, [], ◌∷◌, Option, Some, None, refl, sym, ap, subst, ◌∙◌, arith}
use Rattle.std.specs.Option.{option_and_then, option_map}
use Rattle.std.proofs.lemmas.Bool.{cases_order}
use Rattle.std.proofs.lemmas.Option.{cond_some, option_and_then_some, same_Some}
use Rattle.std.proofs.lemmas.Nat.Gcd.{dvd_trans, dvd-zero}
use Rattle.std.proofs.Math.Nat.{dvd-add}
use Prim.Native.Nat.{◌∣◌}
use Rattle.naga_ir.specs.ItemReferences.{GlobalLists}
use Rattle.naga_ir.specs.declared.types.TypeInner.{TypeInner}
use Rattle.naga_ir.specs.declared.types.TypeInner.TheVariants.{Array, Struct}
use Rattle.naga_typing.specs.Layout.{alignment_of, size_of}
use Rattle.naga_typing.specs.Leaves.{Elements, LeafBytes, Part, ShareNoByte, end_of, inner_at, is_leaf, leaf_at, moved, part_at, whole_leaf}

-- what is mapped to a value is one
pub map_some : {A B : Type 0} (f : A → B) (o : Option A) (y : B) → option_map f o ≡ Some y → (x : A) × (o ≡ Some x) × (f x ≡ y)
map_some f None y e = cc e
map_some f (Some x) y e = (x, refl, same_Some (f x) y e)

-- a leaf has no part
no_part : (el : Elements) (inner : TypeInner) (i : ℕ) (part : Part) → is_leaf inner ≡ true → part_at el inner i ≡ Some part → ⊥
no_part el (Array base size stride) i part leaf at = cc leaf
no_part el (Struct members span) i part leaf at = cc leaf
no_part el _ i part leaf at = cc at

-- a leaf at no path: the whole value
record Whole (g : GlobalLists) (t : ℕ) (leaf : LeafBytes) : Type 0 where
  inner : TypeInner
  inner_is : inner_at g t ≡ Some inner
  is_one : is_leaf inner ≡ true
  is : leaf ≡ record { first = 0; size = size_of g inner; alignment = alignment_of [] inner }

-- a leaf at a path: a leaf of a part
record InPart (g : GlobalLists) (el : Elements) (t i : ℕ) (path : List ℕ) (leaf : LeafBytes) : Type 0 where
  inner : TypeInner
  inner_is : inner_at g t ≡ Some inner
  part : Part
  part_is : part_at el inner i ≡ Some part
  inside : LeafBytes
  inside_is : leaf_at g el part.ty path ≡ Some inside
  is : leaf ≡ moved part.first inside

module _ (g : GlobalLists) (el : Elements) where
  whole : (t : ℕ) (leaf : LeafBytes) → leaf_at g el t [] ≡ Some leaf → Whole g t leaf
  unfolding leaf_at
  whole t leaf e = option_and_then_some (whole_leaf g) (inner_at g t) leaf e (λ inner inner_is found.
      let split = cond_some (is_leaf inner) _ leaf found in
      record { inner = inner; inner_is = inner_is; is_one = split.0; is = sym split.1 })

  in_part : (t i : ℕ) (path : List ℕ) (leaf : LeafBytes) → leaf_at g el t (i ∷ path) ≡ Some leaf → InPart g el t i path leaf
  unfolding leaf_at
  in_part t i path leaf e =
      option_and_then_some (λ (part : Part). option_map (moved part.first) (leaf_at g el part.ty path)) (option_and_then (λ inner. part_at el inner i) (inner_at g t)) leaf e (λ part found at.
      let split = map_some (moved part.first) (leaf_at g el part.ty path) leaf at in
      option_and_then_some (λ inner. part_at el inner i) (inner_at g t) part found (λ inner inner_is part_is.
      record { inner = inner; inner_is = inner_is; part = part; part_is = part_is; inside = split.0; inside_is = split.1; is = sym split.2 }))

-- a part of a type is placed at a multiple of its alignment, which divides the alignment of the type
pub record IsPlaced (Good : ℕ → Type 0) (al : ℕ → ℕ) (t : ℕ) (part : Part) : Type 0 where
  pub good : Good part.ty
  pub divides : al part.ty ∣ al t
  pub aligned : al part.ty ∣ part.first

-- a part ends by a byte
pub record EndsBy (Limit : ℕ → ℕ → Type 0) (part : Part) (limit : ℕ) : Type 0 where
  pub own : ℕ
  pub is_own : Limit part.ty own
  pub within : part.first + own ≤ limit

-- the parts of all good types are placed, end within the limits of the types, and follow each other
pub record AllArePlaced (g : GlobalLists) (el : Elements) (Good : ℕ → Type 0) (Limit : ℕ → ℕ → Type 0) (al : ℕ → ℕ) : Type 0 where
  pub placed : (t : ℕ) (inner : TypeInner) (i : ℕ) (part : Part) → Good t → inner_at g t ≡ Some inner → part_at el inner i ≡ Some part → IsPlaced Good al t part
  pub ends : (t : ℕ) (inner : TypeInner) (i limit : ℕ) (part : Part) → Good t → Limit t limit → inner_at g t ≡ Some inner → part_at el inner i ≡ Some part → EndsBy Limit part limit
  pub follow : (t : ℕ) (inner : TypeInner) (i j : ℕ) (p q : Part) → Good t → inner_at g t ≡ Some inner → part_at el inner i ≡ Some p → part_at el inner j ≡ Some q → i < j → EndsBy Limit p q.first
  pub leaf_divides : (t : ℕ) (inner : TypeInner) → Good t → inner_at g t ≡ Some inner → is_leaf inner ≡ true → alignment_of [] inner ∣ al t
  pub leaf_ends : (t : ℕ) (inner : TypeInner) (limit : ℕ) → Good t → Limit t limit → inner_at g t ≡ Some inner → is_leaf inner ≡ true → size_of g inner ≤ limit

module _ (g : GlobalLists) (el : Elements) (Good : ℕ → Type 0) (Limit : ℕ → ℕ → Type 0) (al : ℕ → ℕ) (all : AllArePlaced g el Good Limit al) where
  -- each leaf stands at a multiple of its alignment, which divides the alignment of the type
  pub leaves_aligned : (path : List ℕ) (t : ℕ) (leaf : LeafBytes) → Good t → leaf_at g el t path ≡ Some leaf → (leaf.alignment ∣ al t) × (leaf.alignment ∣ leaf.first)
  leaves_aligned [] t leaf good at =
      let w = whole g el t leaf at in
      subst (λ (l : LeafBytes). (l.alignment ∣ al t) × (l.alignment ∣ l.first)) (sym w.is) (all.leaf_divides t w.inner good w.inner_is w.is_one, dvd-zero (alignment_of [] w.inner))
  leaves_aligned (i ∷ path) t leaf good at =
      let w = in_part g el t i path leaf at in
      let p = all.placed t w.inner i w.part good w.inner_is w.part_is in
      let h = leaves_aligned path w.part.ty w.inside p.good w.inside_is in
      subst (λ (l : LeafBytes). (l.alignment ∣ al t) × (l.alignment ∣ l.first)) (sym w.is)
      (dvd_trans w.inside.alignment h.0 p.divides, dvd-add w.inside.alignment (dvd_trans w.inside.alignment h.0 p.aligned) h.1)

  -- each leaf ends within the limit of the type
  pub leaves_contained : (path : List ℕ) (t limit : ℕ) (leaf : LeafBytes) → Good t → Limit t limit → leaf_at g el t path ≡ Some leaf → end_of leaf ≤ limit
  leaves_contained [] t limit leaf good ends at =
      let w = whole g el t leaf at in
      let size = all.leaf_ends t w.inner limit good ends w.inner_is w.is_one in
      subst (λ (l : LeafBytes). end_of l ≤ limit) (sym w.is) (omega (arith, size))
  leaves_contained (i ∷ path) t limit leaf good ends at =
      let w = in_part g el t i path leaf at in
      let p = all.placed t w.inner i w.part good w.inner_is w.part_is in
      let e = all.ends t w.inner i limit w.part good ends w.inner_is w.part_is in
      let h : end_of w.inside ≤ e.own = leaves_contained path w.part.ty e.own w.inside p.good e.is_own w.inside_is in
      let within : w.part.first + e.own ≤ limit = e.within in
      subst (λ (l : LeafBytes). end_of l ≤ limit) (sym w.is) (omega (arith, h, within))

  -- leaves in two parts, the second behind the first
  apart : (t : ℕ) (inner : TypeInner) (i j : ℕ) (p q : Part) (path : List ℕ) (a b : LeafBytes) → Good t → inner_at g t ≡ Some inner → part_at el inner i ≡ Some p → part_at el inner j ≡ Some q → i < j
      → leaf_at g el p.ty path ≡ Some a → end_of (moved p.first a) ≤ (moved q.first b).first
  apart t inner i j p q path a b good inner_is p_is q_is before at =
      let e = all.follow t inner i j p q good inner_is p_is q_is before in
      let placed = all.placed t inner i p good inner_is p_is in
      let h : end_of a ≤ e.own = leaves_contained path p.ty e.own a placed.good e.is_own at in
      let within : p.first + e.own ≤ q.first = e.within in
      omega (arith, h, within)

  -- two leaves share no byte
  pub leaves_disjoint : (path path′ : List ℕ) (t : ℕ) (leaf leaf′ : LeafBytes) → path ≢ path′ → Good t → leaf_at g el t path ≡ Some leaf → leaf_at g el t path′ ≡ Some leaf′ → ShareNoByte leaf leaf′
  leaves_disjoint [] [] t leaf leaf′ differ good at at′ = absurd (differ refl)
  leaves_disjoint [] (j ∷ path′) t leaf leaf′ differ good at at′ =
      let w = whole g el t leaf at in
      let w′ = in_part g el t j path′ leaf′ at′ in
      absurd (no_part el w′.inner j w′.part (ap is_leaf (same_Some w′.inner w.inner (sym w′.inner_is ∙ w.inner_is)) ∙ w.is_one) w′.part_is)
  leaves_disjoint (i ∷ path) [] t leaf leaf′ differ good at at′ =
      let w = in_part g el t i path leaf at in
      let w′ = whole g el t leaf′ at′ in
      absurd (no_part el w.inner i w.part (ap is_leaf (same_Some w.inner w′.inner (sym w.inner_is ∙ w′.inner_is)) ∙ w′.is_one) w.part_is)
  leaves_disjoint (i ∷ path) (j ∷ path′) t leaf leaf′ differ good at at′ =
      let w = in_part g el t i path leaf at in
      let w′ = in_part g el t j path′ leaf′ at′ in
      let one : w′.inner ≡ w.inner = same_Some w′.inner w.inner (sym w′.inner_is ∙ w.inner_is) in
      let part′_is : part_at el w.inner j ≡ Some w′.part = ap (λ inner. part_at el inner j) (sym one) ∙ w′.part_is in
      let p = all.placed t w.inner i w.part good w.inner_is w.part_is in
      subst (λ l. ShareNoByte l leaf′) (sym w.is) (subst (λ l. ShareNoByte (moved w.part.first w.inside) l) (sym w′.is)
      (⊎_elim
      (λ (e : i ≡ j).
      let part : w.part ≡ w′.part = same_Some w.part w′.part (sym w.part_is ∙ ap (λ k. part_at el w.inner k) e ∙ part′_is) in
      let inside′_is : leaf_at g el w.part.ty path′ ≡ Some w′.inside = ap (λ (q : Part). leaf_at g el q.ty path′) part ∙ w′.inside_is in
      let rest : path ≢ path′ = λ q. differ (cons_same i j path path′ e q) in
      both_moved w.part.first w′.part.first w.inside w′.inside (ap (λ (q : Part). q.first) part) (leaves_disjoint path path′ w.part.ty w.inside w′.inside rest p.good w.inside_is inside′_is))
      (λ (other : (i < j) ⊎ (j < i)).
      ⊎_elim
      (λ (h : i < j). inl (apart t w.inner i j w.part w′.part path w.inside w′.inside good w.inner_is w.part_is part′_is h w.inside_is))
      (λ (h : j < i). inr (apart t w.inner j i w′.part w.part path′ w′.inside w.inside good w.inner_is part′_is w.part_is h w′.inside_is))
      other)
      (cases_order i j)))
    where
      cons_same : (i j : ℕ) (path path′ : List ℕ) → i ≡ j → path ≡ path′ → i ∷ path ≡ j ∷ path′
      cons_same i j path path′ e q = cc (e, q)

      both_moved : (m n : ℕ) (a b : LeafBytes) → m ≡ n → ShareNoByte a b → ShareNoByte (moved m a) (moved n b)
      both_moved m n a b e h = ⊎_elim (λ (l : end_of a ≤ b.first). inl (omega arith)) (λ (l : end_of b ≤ a.first). inr (omega arith)) h
