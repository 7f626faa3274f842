-- Leaves by the parts of a type.
use Rattle.std.proofs.Common.{◌≡◌, ◌*◌, ◌<◌, ◌≤◌, ℕ, Bool, true, false, List, [], ◌∷◌, Option, Some, None, if◌then◌else◌, option_map, slice_get, refl, sym, ap, ◌∙◌}
use Rattle.std.specs.Option.{option_and_then}
use Rattle.std.proofs.lemmas.Bool.{le-ltb, lt-ltb, ltb-true}
use Rattle.std.proofs.lemmas.Option.{same_Some}
use Rattle.std.specs.Prelude.{ltb}
use Rattle.naga_ir.specs.ItemReferences.{GlobalLists}
use Rattle.naga_ir.specs.declared.types.ArraySize.{ArraySize}
use Rattle.naga_ir.specs.declared.types.StructMember.{StructMember}
use Rattle.naga_ir.specs.declared.types.TypeInner.{TypeInner}
use Rattle.naga_ir.specs.declared.types.TypeInner.TheVariants.{Array, Struct}
use Rattle.naga_typing.specs.Layout.{alignment_of, size_of}
use Rattle.naga_typing.specs.Leaves.{Elements, LeafBytes, Part, inner_at, is_leaf, leaf_at, moved, part_at, whole_leaf}

-- no type means no leaf
pub no-leaf : {P : Type 0} (leaf : LeafBytes) → None ≡ Some leaf → P
no-leaf leaf h = absurd (impossible h)
  where
    impossible : None ≡ Some leaf → ⊥
    impossible e = cc e

-- an element of an array
abbrev pub element_part : ℕ → ℕ → ℕ → Part
element_part base stride i = record { ty = base; first = i * stride }

-- a member of a struct, as a part
abbrev pub member_part : StructMember → Part
member_part m = record { ty = m.ty; first = m.offset }

-- all bytes of a leaf
abbrev pub all_of : GlobalLists → TypeInner → LeafBytes
all_of g inner = record { first = 0; size = size_of g inner; alignment = alignment_of [] inner }

-- a leaf of a part, if there is one, as one of the whole
abbrev pub leaf_of_part : GlobalLists → Elements → List ℕ → Option Part → Option LeafBytes
leaf_of_part g elements_of path = option_and_then (λ part. option_map (moved part.first) (leaf_at g elements_of part.ty path))

-- a leaf is one of a part, moved
pub record LeafOfPart (g : GlobalLists) (elements_of : Elements) (inner : TypeInner) (i : ℕ) (path : List ℕ) (leaf : LeafBytes) : Type 0 where
  pub part : Part
  pub own : LeafBytes
  pub is_part : part_at elements_of inner i ≡ Some part
  pub is_own : leaf_at g elements_of part.ty path ≡ Some own
  pub is_moved : leaf ≡ moved part.first own

-- a handle that names no type has no leaves
pub leaf-none : (g : GlobalLists) (elements_of : Elements) (t : ℕ) (path : List ℕ) → inner_at g t ≡ None → leaf_at g elements_of t path ≡ None
unfolding leaf_at
leaf-none g elements_of t [] none = ap (option_and_then (whole_leaf g)) none
leaf-none g elements_of t (i ∷ path) none = ap (λ o. leaf_of_part g elements_of path (option_and_then (λ inner. part_at elements_of inner i) o)) none

module _ (g : GlobalLists) (elements_of : Elements) (t : ℕ) (inner : TypeInner) (is : inner_at g t ≡ Some inner) where
  -- the empty path leads to all of a leaf
  pub leaf-here : leaf_at g elements_of t [] ≡ whole_leaf g inner
  unfolding leaf_at
  leaf-here = ap (option_and_then (whole_leaf g)) is

  -- any other path leads into a part
  pub leaf-in_part : (i : ℕ) (path : List ℕ) → leaf_at g elements_of t (i ∷ path) ≡ leaf_of_part g elements_of path (part_at elements_of inner i)
  unfolding leaf_at
  leaf-in_part i path = ap (λ o. leaf_of_part g elements_of path (option_and_then (λ inner. part_at elements_of inner i) o)) is

  -- a leaf of a part is one of the whole
  pub leaf-from_part : (i : ℕ) (path : List ℕ) (part : Part) (own : LeafBytes) → part_at elements_of inner i ≡ Some part → leaf_at g elements_of part.ty path ≡ Some own
      → leaf_at g elements_of t (i ∷ path) ≡ Some (moved part.first own)
  leaf-from_part i path part own is_part is_own = leaf-in_part i path ∙ ap (leaf_of_part g elements_of path) is_part ∙ ap (option_map (moved part.first)) is_own

  -- each leaf of the whole is a leaf of a part
  pub leaf-by_part : (i : ℕ) (path : List ℕ) (leaf : LeafBytes) → leaf_at g elements_of t (i ∷ path) ≡ Some leaf → LeafOfPart g elements_of inner i path leaf
  leaf-by_part i path leaf h = by_part (part_at elements_of inner i) refl (sym (leaf-in_part i path) ∙ h)
    where
      by_own : (part : Part) → part_at elements_of inner i ≡ Some part → (own : Option LeafBytes) → leaf_at g elements_of part.ty path ≡ own → option_map (moved part.first) own ≡ Some leaf
          → LeafOfPart g elements_of inner i path leaf
      by_own part is_part None is_own e = no-leaf leaf e
      by_own part is_part (Some own) is_own e = record { part = part; own = own; is_part = is_part; is_own = is_own; is_moved = sym (same_Some _ _ e) }

      by_part : (part : Option Part) → part_at elements_of inner i ≡ part → leaf_of_part g elements_of path part ≡ Some leaf → LeafOfPart g elements_of inner i path leaf
      by_part None is_part e = no-leaf leaf e
      by_part (Some part) is_part e = by_own part is_part (leaf_at g elements_of part.ty path) refl e

-- a type that has leaves is there
pub leaf-form : (g : GlobalLists) (elements_of : Elements) (t : ℕ) (path : List ℕ) (leaf : LeafBytes) → leaf_at g elements_of t path ≡ Some leaf → (inner : TypeInner) × (inner_at g t ≡ Some inner)
leaf-form g elements_of t path leaf h = by (inner_at g t) refl
  where
    by : (found : Option TypeInner) → inner_at g t ≡ found → (inner : TypeInner) × (inner_at g t ≡ Some inner)
    by None none = no-leaf leaf (sym (leaf-none g elements_of t path none) ∙ h)
    by (Some inner) is = (inner, is)

-- a type that is a leaf is all of it
pub leaf-whole : (g : GlobalLists) (inner : TypeInner) → is_leaf inner ≡ true → whole_leaf g inner ≡ Some (all_of g inner)
leaf-whole g inner e = ap (λ b. if b then Some (all_of g inner) else None) e

-- a type that is not a leaf has no leaf of all its bytes
pub leaf-not_whole : (g : GlobalLists) (inner : TypeInner) → is_leaf inner ≡ false → whole_leaf g inner ≡ None
leaf-not_whole g inner e = ap (λ b. if b then Some (all_of g inner) else None) e

-- a leaf that a type is has all bytes of the type
pub leaf-is_whole : (g : GlobalLists) (inner : TypeInner) (leaf : LeafBytes) → whole_leaf g inner ≡ Some leaf → (is_leaf inner ≡ true) × (leaf ≡ all_of g inner)
leaf-is_whole g inner leaf h = by (is_leaf inner) refl
  where
    by : (b : Bool) → is_leaf inner ≡ b → (is_leaf inner ≡ true) × (leaf ≡ all_of g inner)
    by true unary = (unary, same_Some _ _ (sym h ∙ leaf-whole g inner unary))
    by false none = no-leaf leaf (sym (leaf-not_whole g inner none) ∙ h)

-- a leaf has no parts
pub leaf-no_part : (elements_of : Elements) (inner : TypeInner) (i : ℕ) → is_leaf inner ≡ true → part_at elements_of inner i ≡ None
leaf-no_part elements_of (Array base size stride) i e = cc e
leaf-no_part elements_of (Struct members span) i e = cc e
leaf-no_part elements_of _ i e = refl

-- an array has a part of each index below the number of its elements
pub array-has_part : (elements_of : Elements) (base : ℕ) (size : ArraySize) (stride i : ℕ) → i < elements_of size → part_at elements_of (Array base size stride) i ≡ Some (element_part base stride i)
array-has_part elements_of base size stride i within = ap (λ b. if b then Some (element_part base stride i) else None) (lt-ltb i (elements_of size) within)

-- an array has no other part
pub array-part : (elements_of : Elements) (base : ℕ) (size : ArraySize) (stride i : ℕ) (part : Part) → part_at elements_of (Array base size stride) i ≡ Some part
    → (i < elements_of size) × (part ≡ element_part base stride i)
array-part elements_of base size stride i part h = by (ltb i (elements_of size)) refl h
  where
    by : (b : Bool) → ltb i (elements_of size) ≡ b → (if b then Some (element_part base stride i) else None) ≡ Some part → (i < elements_of size) × (part ≡ element_part base stride i)
    by true is e = (ltb-true i (elements_of size) is, sym (same_Some _ _ e))
    by false is e = absurd (impossible e)
      where
        impossible : None ≡ Some part → ⊥
        impossible e = cc e

-- a part of a struct is a member
pub struct-part : (elements_of : Elements) (members : List StructMember) (span i : ℕ) (part : Part) → part_at elements_of (Struct members span) i ≡ Some part
    → (m : StructMember) × (slice_get members i ≡ Some m) × (part ≡ member_part m)
struct-part elements_of members span i part h = by (slice_get members i) refl h
  where
    by : (found : Option StructMember) → slice_get members i ≡ found → option_map member_part found ≡ Some part → (m : StructMember) × (slice_get members i ≡ Some m) × (part ≡ member_part m)
    by (Some m) is e = (m, is, sym (same_Some _ _ e))
    by None is e = absurd (impossible e)
      where
        impossible : None ≡ Some part → ⊥
        impossible e = cc e

-- each member of a struct is a part
pub struct-has_part : (elements_of : Elements) (members : List StructMember) (span i : ℕ) (m : StructMember) → slice_get members i ≡ Some m → part_at elements_of (Struct members span) i ≡ Some (member_part m)
struct-has_part elements_of members span i m at = ap (option_map member_part) at

-- no leaf is past the last element of an array
pub leaf-past_end : (g : GlobalLists) (elements_of : Elements) (t base : ℕ) (size : ArraySize) (stride i : ℕ) (path : List ℕ) → inner_at g t ≡ Some (Array base size stride) → elements_of size ≤ i
    → leaf_at g elements_of t (i ∷ path) ≡ None
leaf-past_end g elements_of t base size stride i path is past =
    leaf-in_part g elements_of t (Array base size stride) is i path
    ∙ ap (λ b. leaf_of_part g elements_of path (if b then Some (element_part base stride i) else None)) (le-ltb i (elements_of size) past)
