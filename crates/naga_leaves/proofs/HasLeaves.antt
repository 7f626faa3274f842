-- Whether a type has a leaf, by its parts.
use Rattle.std.proofs.Common.{◌≡◌, ◌<◌, ◌*◌, ◌↔◌, ◌⊎◌, ⊎_elim, inl, inr, ltb, ℕ, Bool, true, false, IsTrue, List, [], ◌∷◌, ◌++◌, Option, Some, None, if◌then◌else◌, get_or, length, refl, sym, subst, ap, ◌∙◌, arith}
use Rattle.std.specs.List.{slice_get}
use Rattle.std.specs.Option.{is_some, option_map}
use Rattle.std.proofs.lemmas.Bool.{cases_order}
use Rattle.std.proofs.lemmas.Bool.Decides.{nat_tests}
use Rattle.std.proofs.lemmas.List.{get_or_append_left}
use Rattle.std.proofs.lemmas.Option.{cond_some, get_or_from_slice_get, none-some, same_Some, slice_get-get_or, slice_get_within}
use Rattle.std.proofs.lemmas.List.{length-append}
use Rattle.naga_arena.proofs.Progress.{slice_get-seam}
use Rattle.naga_ir.specs.ItemReferences.{GlobalLists}
use Rattle.naga_ir.specs.declared.types.«Type».{«Type»}
use Rattle.naga_ir.specs.declared.types.ArraySize.{ArraySize}
use Rattle.naga_ir.specs.declared.types.StructMember.{StructMember}
use Rattle.naga_ir.specs.declared.types.TypeInner.{TypeInner}
use Rattle.naga_ir.specs.declared.types.TypeInner.TheVariants.{Array, Struct}
use Rattle.naga_leaves.proofs.Members.{member_part}
use Rattle.naga_leaves.proofs.Parts.{part_is_named, some_image}
use Rattle.naga_leaves.proofs.Path.{leaf_in_part, leaf_of_nothing, none_in_no_part}
use Rattle.naga_leaves.specs.HasLeaves.{AreLeavesKnown, HasLeaves, HasNoLeaf}
use Rattle.naga_leaves.specs.Leaf.{bytes_of}
use Rattle.naga_leaves.specs.declared.leaf.Leaf.{Leaf}
use Rattle.naga_leaves.specs.steps.HasLeaves.{ArePartsKnown, HasLeavesBy, HasMemberWithLeaves, HasPartWithLeaves}
use Rattle.naga_typing.specs.Layout.{alignment_of, size_of}
use Rattle.naga_typing.specs.Leaves as spec
use Rattle.naga_typing.specs.Leaves.{Elements, LeafBytes, is_leaf, leaf_at, moved, part_at, whole_leaf}

-- one more of a list is the last, or one of those before
pub one_more_known : {A : Type 0} (xs : List A) (y x : A) (i : ℕ) → slice_get (xs ++ y ∷ []) i ≡ Some x → (slice_get xs i ≡ Some x) ⊎ ((i ≡ length xs) × (y ≡ x))
one_more_known xs y x i at =
    let within : i < length (xs ++ y ∷ []) = slice_get_within (xs ++ y ∷ []) i x at in
    ⊎_elim (λ (e : i ≡ length xs). inr (e, same_Some y x (sym (slice_get-seam xs [] y) ∙ ap (slice_get (xs ++ y ∷ [])) (sym e) ∙ at)))
    (λ (o : (i < length xs) ⊎ (length xs < i)). ⊎_elim (λ (below : i < length xs). inl (before below)) (λ (above : length xs < i). absurd (omega (arith, length-append xs (y ∷ []), above, within))) o)
    (cases_order i (length xs))
  where
    before : i < length xs → slice_get xs i ≡ Some x
    before below = slice_get-get_or xs i x below ∙ ap Some (sym (get_or_append_left xs (y ∷ []) x i below) ∙ get_or_from_slice_get (xs ++ y ∷ []) i x x at)

-- a list has an element at each index below its length
pub has_element : {A : Type 0} (xs : List A) (i : ℕ) → i < length xs → (x : A) × (slice_get xs i ≡ Some x)
has_element [] i below = absurd (omega arith)
has_element (x ∷ xs) i below = (get_or (x ∷ xs) i x, slice_get-get_or (x ∷ xs) i x below)

module _ (g : GlobalLists) (elements_of : Elements) (known : List Bool) (are : AreLeavesKnown g elements_of known) where
  -- a type that is known to have no leaf has none
  pub known_without : (t : ℕ) → slice_get known t ≡ Some false → HasNoLeaf g elements_of t
  known_without t at path = of (leaf_at g elements_of t path) refl
    where
      of : (o : Option LeafBytes) → leaf_at g elements_of t path ≡ o → leaf_at g elements_of t path ≡ None
      of None e = e
      of (Some leaf) e = let has : false ≡ true = (are.each t false at).1 (record { path = path; leaf = leaf; there = e }) in cc

  module _ (t : ℕ) (x : «Type») (at : slice_get g.types t ≡ Some x) where
    -- a leaf has a leaf, itself, and so has a type that has a part with one
    pub has_leaves : HasLeavesBy elements_of known x.inner → HasLeaves g elements_of t
    has_leaves (inl leaf) = record {
      path = [];
      leaf = record { first = 0; size = size_of g x.inner; alignment = alignment_of [] x.inner };
      there =
          leaf_of_nothing g elements_of t x at
          ∙ ap (λ (b : Bool). let all : Option LeafBytes = if b then Some (record { first = 0; size = size_of g x.inner; alignment = alignment_of [] x.inner }) else None in all) leaf;
    }
    has_leaves (inr h) =
        let has : HasLeaves g elements_of h.part.ty = (are.each h.part.ty true h.has).0 refl in
        record {
          path = h.index ∷ has.path;
          leaf = moved h.part.first has.leaf;
          there = leaf_in_part g elements_of t h.index has.path x h.part at h.there ∙ ap (option_map (moved h.part.first)) has.there;
        }

    in_part : ArePartsKnown known x.inner → (i : ℕ) (path : List ℕ) (leaf : LeafBytes) → leaf_at g elements_of t (i ∷ path) ≡ Some leaf → HasPartWithLeaves elements_of known x.inner
    in_part parts i path leaf there = by (part_at elements_of x.inner i) refl
      where
        some : (part : spec.Part) (o : Option LeafBytes) → leaf_at g elements_of part.ty path ≡ o → option_map (moved part.first) o ≡ Some leaf → HasLeaves g elements_of part.ty
        some part None e h = absurd (none-some leaf h)
        some part (Some l) e h = record { path = path; leaf = l; there = e }

        by : (o : Option spec.Part) → part_at elements_of x.inner i ≡ o → HasPartWithLeaves elements_of known x.inner
        by None none = absurd (none-some leaf (sym (none_in_no_part g elements_of t i path x at none) ∙ there))
        by (Some part) is =
            let has : HasLeaves g elements_of part.ty = some part (leaf_at g elements_of part.ty path) refl (sym (leaf_in_part g elements_of t i path x part at is) ∙ there) in
            let w = has_element known part.ty (parts part.ty (part_is_named elements_of x.inner i part is)) in
            let is_true : w.0 ≡ true = (are.each part.ty w.0 w.1).1 has in
            record { index = i; part = part; there = is; has = w.1 ∙ ap Some is_true }

    -- only these have one
    pub has_leaves_by : ArePartsKnown known x.inner → HasLeaves g elements_of t → HasLeavesBy elements_of known x.inner
    has_leaves_by parts has = by has.path has.there
      where
        by : (path : List ℕ) → leaf_at g elements_of t path ≡ Some has.leaf → HasLeavesBy elements_of known x.inner
        by [] there =
            inl (cond_some (is_leaf x.inner) (record { first = 0; size = size_of g x.inner; alignment = alignment_of [] x.inner }) has.leaf (sym (leaf_of_nothing g elements_of t x at) ∙ there)).0
        by (i ∷ path) there = inr (in_part parts i path has.leaf there)

  -- one more type is known
  pub one_more_type : (x : «Type») (has : Bool) → slice_get g.types (length known) ≡ Some x → ArePartsKnown known x.inner → IsTrue has ↔ HasLeavesBy elements_of known x.inner
      → AreLeavesKnown g elements_of (known ++ has ∷ [])
  one_more_type x has at parts is = record { each = λ t b there. ⊎_elim (λ (before : slice_get known t ≡ Some b). are.each t b before) (λ (last : (t ≡ length known) × (has ≡ b)). here t b last.0 last.1) (one_more_known known has b t there) }
    where
      here : (t : ℕ) (b : Bool) → t ≡ length known → has ≡ b → IsTrue b ↔ HasLeaves g elements_of t
      here t b e f =
          subst (λ t. IsTrue b ↔ HasLeaves g elements_of t) (sym e)
          (subst (λ b. IsTrue b ↔ HasLeaves g elements_of (length known)) f
          ((λ h. has_leaves (length known) x at (is.0 h)), λ h. is.1 (has_leaves_by (length known) x at parts h)))

-- of no type is it known at first
pub nothing_known : (g : GlobalLists) (elements_of : Elements) (known : List Bool) → known ≡ [] → AreLeavesKnown g elements_of known
nothing_known g elements_of known e = subst (AreLeavesKnown g elements_of) (sym e) (record { each = λ t has at. absurd (none-some has at) })

-- a value has a leaf by its parts: an array if it has an element, and its base has one
pub array_has : (elements_of : Elements) (known : List Bool) (inner : TypeInner) (base : ℕ) (size : ArraySize) (stride : ℕ) (has : Bool) → inner ≡ Array base size stride
    → 0 < elements_of size → slice_get known base ≡ Some has → IsTrue has ↔ HasLeavesBy elements_of known inner
array_has elements_of known inner base size stride has e some at = subst (λ inner. IsTrue has ↔ HasLeavesBy elements_of known inner) (sym e) (there, back)
  where
    first : ltb 0 (elements_of size) ≡ true → part_at elements_of (Array base size stride) 0 ≡ Some (record { ty = base; first = 0 * stride })
    first within = ap (λ (b : Bool). let element : Option spec.Part = if b then Some (record { ty = base; first = 0 * stride }) else None in element) within

    there : IsTrue has → HasLeavesBy elements_of known (Array base size stride)
    there h =
        let within : ltb 0 (elements_of size) ≡ true = grind (arith, nat_tests) in
        inr (record { index = 0; part = record { ty = base; first = 0 * stride }; there = first within; has = at ∙ ap Some h })

    back : HasLeavesBy elements_of known (Array base size stride) → IsTrue has
    back (inl leaf) = let no : false ≡ true = leaf in cc
    back (inr h) =
        let w = cond_some (ltb h.index (elements_of size)) (record { ty = base; first = h.index * stride }) h.part h.there in
        same_Some has true (sym at ∙ ap (λ (p : spec.Part). slice_get known p.ty) w.1 ∙ h.has)

-- a struct if a member has one
pub struct_has : (elements_of : Elements) (known : List Bool) (inner : TypeInner) (members : List StructMember) (span : ℕ) (has : Bool) → inner ≡ Struct members span
    → IsTrue has ↔ HasMemberWithLeaves known members → IsTrue has ↔ HasLeavesBy elements_of known inner
struct_has elements_of known inner members span has e is = subst (λ inner. IsTrue has ↔ HasLeavesBy elements_of known inner) (sym e) ((λ h. there (is.0 h)), λ h. is.1 (back h))
  where
    there : HasMemberWithLeaves known members → HasLeavesBy elements_of known (Struct members span)
    there h = inr (record { index = h.index; part = member_part h.member; there = ap (option_map member_part) h.there; has = h.has })

    back : HasLeavesBy elements_of known (Struct members span) → HasMemberWithLeaves known members
    back (inl leaf) = let no : false ≡ true = leaf in absurd (cc)
    back (inr h) =
        let w = some_image members h.index h.part (slice_get members h.index) refl h.there in
        record { index = h.index; member = w.0; there = w.1; has = ap (λ (p : spec.Part). slice_get known p.ty) w.2 ∙ h.has }

-- and all else if it is a leaf
pub other_has : (g : GlobalLists) (elements_of : Elements) (known : List Bool) (inner : TypeInner) (leaf : Option Leaf)
    → ((base : ℕ) (size : ArraySize) (stride : ℕ) → ¬ (inner ≡ Array base size stride)) → ((members : List StructMember) (span : ℕ) → ¬ (inner ≡ Struct members span))
    → option_map bytes_of leaf ≡ whole_leaf g inner → IsTrue (is_some leaf) ↔ HasLeavesBy elements_of known inner
other_has g elements_of known inner leaf no_array no_struct is = ((λ h. inl (sym (same leaf (is_leaf inner) is) ∙ h)), back)
  where
    same : (leaf : Option Leaf) (b : Bool) → option_map bytes_of leaf ≡ (if b then Some (record { first = 0; size = size_of g inner; alignment = alignment_of [] inner }) else None) → is_some leaf ≡ b
    same None true e = absurd (none-some _ e)
    same None false e = refl
    same (Some l) true e = refl
    same (Some l) false e = absurd (none-some (bytes_of l) (sym e))

    no_part : (inner : TypeInner) → ((base : ℕ) (size : ArraySize) (stride : ℕ) → ¬ (inner ≡ Array base size stride)) → ((members : List StructMember) (span : ℕ) → ¬ (inner ≡ Struct members span))
        → (i : ℕ) → part_at elements_of inner i ≡ None
    no_part (Array base size stride) no_array no_struct i = absurd (no_array base size stride refl)
    no_part (Struct members span) no_array no_struct i = absurd (no_struct members span refl)
    no_part _ no_array no_struct i = refl

    back : HasLeavesBy elements_of known inner → IsTrue (is_some leaf)
    back (inl h) = same leaf (is_leaf inner) is ∙ h
    back (inr h) = absurd (none-some h.part (sym (no_part inner no_array no_struct h.index) ∙ h.there))
