-- The alignment of a type as its leaves see it, by its parts.
use Rattle.std.proofs.Common.{◌≡◌, ◌<◌, ◌≤◌, ℕ, true, List, [], ◌∷◌, All, Contains, Some, map, length, slice_get, refl, sym, ap, subst, ◌∙◌, arith}
use Rattle.std.proofs.lemmas.Option.{same_Some, slice_get-get_or}
use Rattle.naga_arena.proofs.Elements.{all_at}
use Rattle.naga_ir.specs.ItemReferences.{GlobalLists}
use Rattle.naga_ir.specs.declared.types.ArraySize.{ArraySize}
use Rattle.naga_ir.specs.declared.types.StructMember.{StructMember}
use Rattle.naga_ir.specs.declared.types.TypeInner.{TypeInner}
use Rattle.naga_ir.specs.declared.types.TypeInner.TheVariants.{Array, Struct}
use Rattle.naga_typing.proofs.GreatestAlignment.{greatest-among, greatest-bounds}
use Rattle.naga_typing.proofs.LeafLemmas.{all_of, array-has_part, array-part, element_part, leaf-by_part, leaf-from_part, leaf-here, leaf-in_part, leaf-no_part, leaf-not_whole, leaf-whole, leaf_of_part, member_part, no-leaf, struct-has_part, struct-part}
use Rattle.naga_typing.specs.Layout.{alignment_of, greatest}
use Rattle.naga_typing.specs.declared.layouter.TypeLayout.{TypeLayout}
use Rattle.naga_typing.specs.Leaves.{IsLeafAlignment, LeafBytes, inner_at, is_leaf, leaf_at, moved, one_each}

-- an item that a list has stands at an index
pub place-in : {X : Type 0} (xs : List X) (x : X) → Contains xs x → (i : ℕ) × (slice_get xs i ≡ Some x)
place-in xs x h = (h.0, slice_get-get_or xs h.0 x h.1 ∙ ap Some h.2)

-- the alignment of a leaf depends on no layouts
pub alignment-of_itself : (layouts : List TypeLayout) (inner : TypeInner) → is_leaf inner ≡ true → alignment_of [] inner ≡ alignment_of layouts inner
alignment-of_itself layouts (Array base size stride) e = cc e
alignment-of_itself layouts (Struct members span) e = cc e
alignment-of_itself layouts _ e = refl

-- a type has one such alignment at most
pub leaf-alignment_once : (g : GlobalLists) (t a b : ℕ) → IsLeafAlignment g t a → IsLeafAlignment g t b → a ≡ b
leaf-alignment_once g t a b x y = omega (arith, x.is_its, y.is_its, x.is_greatest y.path y.leaf y.stands, y.is_greatest x.path x.leaf x.stands)

module _ (g : GlobalLists) (t : ℕ) where
  -- the leaf alignment of a leaf is its own alignment
  pub alignment-of_leaf : (inner : TypeInner) → inner_at g t ≡ Some inner → is_leaf inner ≡ true → IsLeafAlignment g t (alignment_of [] inner)
  alignment-of_leaf inner is leaf = record {
    path = [];
    leaf = all_of g inner;
    stands = leaf-here g one_each t inner is ∙ leaf-whole g inner leaf;
    is_its = refl;
    is_greatest = below;
  }
    where
      below : (other : List ℕ) (x : LeafBytes) → leaf_at g one_each t other ≡ Some x → x.alignment ≤ alignment_of [] inner
      below [] x h =
          let same : all_of g inner ≡ x = same_Some _ _ (sym (leaf-here g one_each t inner is ∙ leaf-whole g inner leaf) ∙ h) in
          let alike : alignment_of [] inner ≡ x.alignment = ap (λ (l : LeafBytes). l.alignment) same in
          omega (arith, alike)
      below (i ∷ path) x h = no-leaf x (sym (leaf-in_part g one_each t inner is i path ∙ ap (leaf_of_part g one_each path) (leaf-no_part one_each inner i leaf)) ∙ h)

  -- the leaf alignment of an array is the leaf alignment of its base
  pub alignment-of_array : (base : ℕ) (size : ArraySize) (stride a : ℕ) → inner_at g t ≡ Some (Array base size stride) → IsLeafAlignment g base a → IsLeafAlignment g t a
  alignment-of_array base size stride a is b = record {
    path = 0 ∷ b.path;
    leaf = moved (element_part base stride 0).first b.leaf;
    stands = leaf-from_part g one_each t (Array base size stride) is 0 b.path (element_part base stride 0) b.leaf (array-has_part one_each base size stride 0 (omega arith)) b.stands;
    is_its = b.is_its;
    is_greatest = below;
  }
    where
      below : (other : List ℕ) (x : LeafBytes) → leaf_at g one_each t other ≡ Some x → x.alignment ≤ a
      below [] x h = no-leaf x (sym (leaf-here g one_each t (Array base size stride) is ∙ leaf-not_whole g (Array base size stride) refl) ∙ h)
      below (i ∷ path) x h =
          let p = leaf-by_part g one_each t (Array base size stride) is i path x h in
          let part = array-part one_each base size stride i p.part p.is_part in
          let own = b.is_greatest path p.own (subst (λ q. leaf_at g one_each q path ≡ Some p.own) (ap (λ q. q.ty) part.1) p.is_own) in
          let same : x.alignment ≡ p.own.alignment = ap (λ (l : LeafBytes). l.alignment) p.is_moved in
          omega (arith, own, same)

  -- the leaf alignment of a struct is the greatest of its members
  pub alignment-of_struct : (members : List StructMember) (span : ℕ) (of : ℕ → ℕ) → inner_at g t ≡ Some (Struct members span) → 0 < length members → All (λ (m : StructMember). 1 ≤ of m.ty) members
      → All (λ (m : StructMember). IsLeafAlignment g m.ty (of m.ty)) members → IsLeafAlignment g t (greatest (map (λ (m : StructMember). of m.ty) members))
  alignment-of_struct members span of is some positive all =
      let top = greatest-among (λ (m : StructMember). of m.ty) members some positive in
      let at = place-in members top.0 top.1 in
      let its = all_at (λ (m : StructMember). IsLeafAlignment g m.ty (of m.ty)) members at.0 top.0 all at.1 in
      record {
        path = at.0 ∷ its.path;
        leaf = moved top.0.offset its.leaf;
        stands = leaf-from_part g one_each t (Struct members span) is at.0 its.path (member_part top.0) its.leaf (struct-has_part one_each members span at.0 top.0 at.1) its.stands;
        is_its = sym top.2 ∙ its.is_its;
        is_greatest = below;
      }
    where
      below : (other : List ℕ) (x : LeafBytes) → leaf_at g one_each t other ≡ Some x → x.alignment ≤ greatest (map (λ (m : StructMember). of m.ty) members)
      below [] x h = no-leaf x (sym (leaf-here g one_each t (Struct members span) is ∙ leaf-not_whole g (Struct members span) refl) ∙ h)
      below (i ∷ path) x h =
          let p = leaf-by_part g one_each t (Struct members span) is i path x h in
          let m = struct-part one_each members span i p.part p.is_part in
          let its = all_at (λ (m : StructMember). IsLeafAlignment g m.ty (of m.ty)) members i m.0 all m.1 in
          let own = its.is_greatest path p.own (subst (λ q. leaf_at g one_each q path ≡ Some p.own) (ap (λ q. q.ty) m.2) p.is_own) in
          let bound = all_at (λ (m : StructMember). of m.ty ≤ greatest (map (λ (m : StructMember). of m.ty) members)) members i m.0 (greatest-bounds (λ (m : StructMember). of m.ty) members) m.1 in
          let same : x.alignment ≡ p.own.alignment = ap (λ (l : LeafBytes). l.alignment) p.is_moved in
          omega (arith, own, bound, same)
