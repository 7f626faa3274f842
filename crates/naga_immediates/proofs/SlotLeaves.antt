-- Which slots a type uses, by its leaves.
use Rattle.std.proofs.Common.{◌≡◌, ◌<◌, ◌≤◌, ◌+◌, ◌↔◌, ℕ, true, true≢false, List, [], ◌∷◌, Some, Contains, refl, sym, ap, subst, ◌∙◌, arith}
use Rattle.std.proofs.lemmas.Option.{none-some}
use Rattle.naga_immediates.proofs.SlotParts.{contains_at}
use Rattle.naga_immediates.specs.LeafSlots.{HasNoArray, HasSlotsOfLeaves, LeavesHaveSlots, SharesLeaf}
use Rattle.naga_immediates.specs.Slots.{IsSetOf, HasPart, HasSlot, SharesByte, UsesSlot, byte_count, slot_count}
use Rattle.naga_immediates.specs.Slots.HasPart.{itself, in_member}
use Rattle.naga_immediates.specs.declared.immediates.ImmediateSlots.{ImmediateSlots}
use Rattle.naga_ir.specs.ItemReferences.{GlobalLists}
use Rattle.naga_ir.specs.TypeWords.{IsNotStruct}
use Rattle.naga_ir.specs.declared.types.ArraySize.{ArraySize}
use Rattle.naga_ir.specs.declared.types.StructMember.{StructMember}
use Rattle.naga_ir.specs.declared.types.TypeInner.{TypeInner}
use Rattle.naga_ir.specs.declared.types.TypeInner.TheVariants.{Array, Struct}
use Rattle.naga_typing.proofs.LeafAlignments.{place-in}
use Rattle.naga_typing.proofs.LeafLemmas.{all_of, leaf-by_part, leaf-form, leaf-from_part, leaf-here, leaf-is_whole, leaf-whole, member_part, struct-has_part, struct-part}
use Rattle.naga_typing.specs.Layout.{size_of}
use Rattle.naga_typing.specs.Leaves.{Elements, IsInside, IsLeafAlignment, LeafBytes, Part, elements, inner_at, is_leaf, leaf_at, moved, one_each, part_at, itself as inside_itself, member as inside_member}

-- a type is not an array
abbrev IsNotArray : TypeInner → Type 0
IsNotArray inner = (base : ℕ) (size : ArraySize) (stride : ℕ) → inner ≡ Array base size stride → ⊥

-- a type that has a part and is not an array is a struct
pub record IsStructOf (inner : TypeInner) : Type 0 where
  pub members : List StructMember
  pub span : ℕ
  pub is : inner ≡ Struct members span

struct_by_part : (el : Elements) (inner : TypeInner) (i : ℕ) (part : Part) → IsNotArray inner → part_at el inner i ≡ Some part → IsStructOf inner
struct_by_part el (Struct members span) i part other is = record { members = members; span = span; is = refl }
struct_by_part el (Array base size stride) i part other is = absurd (other base size stride refl)
struct_by_part el _ i part other is = absurd (none-some part is)

-- a leaf is not a struct
leaf_is_plain : (inner : TypeInner) → is_leaf inner ≡ true → IsNotStruct inner
leaf_is_plain (Struct members span) is = absurd cc
leaf_is_plain _ is = refl

no_struct : (inner : TypeInner) → IsNotStruct inner → IsStructOf inner → ⊥
no_struct inner plain s = true≢false (subst IsNotStruct s.is plain)

module _ (g : GlobalLists) (whole : ℕ) (aligned : (u : ℕ) → IsInside g whole u → (a : ℕ) × IsLeafAlignment g u a) (no_array : HasNoArray g whole) where
  array_free : (t : ℕ) (inner : TypeInner) → IsInside g whole t → inner_at g t ≡ Some inner → IsNotArray inner
  array_free t inner in_whole is base size stride e = no_array t base size stride in_whole (is ∙ ap Some e)

  -- what is inside and no struct is a leaf
  leaf_inside : (t : ℕ) (inner : TypeInner) → IsInside g whole t → inner_at g t ≡ Some inner → IsNotStruct inner → is_leaf inner ≡ true
  leaf_inside t inner in_whole is plain = let a = (aligned t in_whole).1 in by_path a.path a.leaf a.stands
    where
      by_path : (path : List ℕ) (leaf : LeafBytes) → leaf_at g one_each t path ≡ Some leaf → is_leaf inner ≡ true
      by_path [] leaf h = (leaf-is_whole g inner leaf (sym (leaf-here g one_each t inner is) ∙ h)).0
      by_path (i ∷ path) leaf h =
          let p = leaf-by_part g one_each t inner is i path leaf h in
          absurd (no_struct inner plain (struct_by_part one_each inner i p.part (array_free t inner in_whole is) p.is_part))

  module _ (el : Elements) where
    -- a part is a leaf
    pub record LeafOf (t at first : ℕ) (part : TypeInner) : Type 0 where
      pub path : List ℕ
      pub leaf : LeafBytes
      pub stands : leaf_at g el t path ≡ Some leaf
      pub first_is : first ≡ at + leaf.first
      pub size_is : size_of g part ≡ leaf.size

    leaf_of_part : (t at : ℕ) (inner part : TypeInner) (first : ℕ) → IsInside g whole t → inner_at g t ≡ Some inner → HasPart g inner at part first → LeafOf t at first part
    leaf_of_part t _ _ _ _ in_whole is (itself inner at plain) =
        record { path = []; leaf = all_of g inner; stands = leaf-here g el t inner is ∙ leaf-whole g inner (leaf_inside t inner in_whole is plain); first_is = omega arith; size_is = refl }
    leaf_of_part t _ _ _ _ in_whole is (in_member members span at m inner part first is_member is_its has) =
        let own = leaf_of_part m.ty (at + m.offset) inner part first (inside_member t members span m in_whole is is_member) is_its has in
        let place = place-in members m is_member in
        record {
          path = place.0 ∷ own.path;
          leaf = moved m.offset own.leaf;
          stands = leaf-from_part g el t (Struct members span) is place.0 own.path (member_part m) own.leaf (struct-has_part el members span place.0 m place.1) own.stands;
          first_is = omega (arith, own.first_is);
          size_is = own.size_is;
        }

    -- each leaf is a part
    pub record PartOf (inner : TypeInner) (at : ℕ) (leaf : LeafBytes) : Type 0 where
      pub part : TypeInner
      pub first : ℕ
      pub has : HasPart g inner at part first
      pub first_is : first ≡ at + leaf.first
      pub size_is : size_of g part ≡ leaf.size

    part_of_leaf : (path : List ℕ) (t at : ℕ) (inner : TypeInner) (leaf : LeafBytes) → IsInside g whole t → inner_at g t ≡ Some inner → leaf_at g el t path ≡ Some leaf → PartOf inner at leaf
    part_of_leaf [] t at inner leaf in_whole is h =
        let all = leaf-is_whole g inner leaf (sym (leaf-here g el t inner is) ∙ h) in
        record {
          part = inner;
          first = at;
          has = itself inner at (leaf_is_plain inner all.0);
          first_is = let none : leaf.first ≡ 0 = ap (λ (l : LeafBytes). l.first) all.1 in omega arith;
          size_is = sym (ap (λ (l : LeafBytes). l.size) all.1);
        }
    part_of_leaf (i ∷ path) t at inner leaf in_whole is h =
        let p = leaf-by_part g el t inner is i path leaf h in
        let s = struct_by_part el inner i p.part (array_free t inner in_whole is) p.is_part in
        let m = struct-part el s.members s.span i p.part (ap (λ x. part_at el x i) (sym s.is) ∙ p.is_part) in
        let is_struct : inner_at g t ≡ Some (Struct s.members s.span) = is ∙ ap Some s.is in
        let among : Contains s.members m.0 = contains_at s.members i m.0 m.1 in
        let is_own : leaf_at g el m.0.ty path ≡ Some p.own = ap (λ (x : Part). leaf_at g el x.ty path) (sym m.2) ∙ p.is_own in
        let form = leaf-form g el m.0.ty path p.own is_own in
        let own = part_of_leaf path m.0.ty (at + m.0.offset) form.0 p.own (inside_member t s.members s.span m.0 in_whole is_struct among) form.1 is_own in
        let place : p.part.first ≡ m.0.offset = ap (λ (x : Part). x.first) m.2 in
        record {
          part = own.part;
          first = own.first;
          has = subst (λ x. HasPart g x at own.part own.first) (sym s.is) (in_member s.members s.span at m.0 form.0 own.part own.first among form.1 own.has);
          first_is = let moved_by : leaf.first ≡ p.part.first + p.own.first = ap (λ (l : LeafBytes). l.first) p.is_moved in omega (arith, own.first_is);
          size_is = own.size_is ∙ sym (ap (λ (l : LeafBytes). l.size) p.is_moved);
        }

  -- a type uses the slots of its leaves
  pub uses_leaves : (n at k : ℕ) (inner : TypeInner) → inner_at g whole ≡ Some inner → UsesSlot g inner at k ↔ SharesLeaf g n whole at k
  uses_leaves n at k inner is = (there, back)
    where
      there : UsesSlot g inner at k → SharesLeaf g n whole at k
      there u =
          let l = leaf_of_part (elements g n) whole at inner u.part u.first inside_itself is u.is_part in
          record { path = l.path; leaf = l.leaf; is_its = l.stands; shares = subst (λ size. SharesByte (at + l.leaf.first) size k) l.size_is (subst (λ first. SharesByte first (size_of g u.part) k) l.first_is u.shares) }

      back : SharesLeaf g n whole at k → UsesSlot g inner at k
      back h =
          let p = part_of_leaf (elements g n) h.path whole at inner h.leaf inside_itself is h.is_its in
          record { part = p.part; first = p.first; is_part = p.has; shares = subst (λ size. SharesByte p.first size k) (sym p.size_is) (subst (λ first. SharesByte first h.leaf.size k) (sym p.first_is) h.shares) }

  -- a set of the slots that a value uses has the slots of its leaves
  pub slots_of_leaves : (n at : ℕ) (inner : TypeInner) (slots : ImmediateSlots) → inner_at g whole ≡ Some inner → IsSetOf (UsesSlot g inner at) slots → HasSlotsOfLeaves g n whole at slots
  slots_of_leaves n at inner slots is exactly = record { exactly = leaves; all = all }
    where
      leaves : IsSetOf (SharesLeaf g n whole at) slots
      leaves k = ((λ has. let p = (exactly k).0 has in (p.0, (uses_leaves n at k inner is).0 p.1)), λ h. (exactly k).1 (h.0, (uses_leaves n at k inner is).1 h.1))

      within : LeavesHaveSlots g n whole at → (k : ℕ) → SharesLeaf g n whole at k → k < slot_count
      within end k h = by_byte h.leaf.first h.leaf.size (end h.path h.leaf h.is_its) h.shares
        where
          by_byte : (first size : ℕ) → at + (first + size) ≤ byte_count → SharesByte (at + first) size k → k < slot_count
          by_byte first size ends (byte, a, b, c, d) = omega arith

      all : LeavesHaveSlots g n whole at → (k : ℕ) → HasSlot slots k ↔ SharesLeaf g n whole at k
      all end k = ((λ has. ((leaves k).0 has).1), λ h. (leaves k).1 (within end k h, h))
