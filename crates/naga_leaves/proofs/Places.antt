-- Places among the parts of a value, and their leaves.
use Rattle.std.proofs.Common.{◌≡◌, ◌<◌, ◌≤◌, ◌+◌, ◌*◌, leb, ltb, Bool, ⊎_elim, ℕ, zero, suc, true, false, List, [], ◌∷◌, ◌++◌, Option, Some, None, All, if◌then◌else◌, length, refl, sym, subst, ap, ◌∙◌, arith}
use Rattle.std.specs.List.{slice_get}
use Rattle.std.specs.Option.{option_and_then, option_map}
use Rattle.std.proofs.Math.Nat.{mul-le-mul_right}
use Rattle.std.proofs.lemmas.Bool.{cases_lt}
use Rattle.std.proofs.lemmas.Bool.Decides.{leb_tells}
use Rattle.std.proofs.lemmas.List.{append_assoc, length-append}
use Rattle.std.proofs.lemmas.List.Elements.{All-nil, All-push}
use Rattle.std.proofs.lemmas.Option.{cond_some, none-some, slice_get_past, slice_get_within}
use Rattle.naga_arena.specs.Numbers.{largest_u32}
use Rattle.naga_ir.specs.Handles.{GlobalReferencesOk}
use Rattle.naga_ir.specs.ItemReferences.{GlobalLists}
use Rattle.naga_ir.specs.declared.types.«Type».{«Type»}
use Rattle.naga_ir.specs.declared.types.ArraySize.{ArraySize}
use Rattle.naga_ir.specs.declared.types.StructMember.{StructMember}
use Rattle.naga_ir.specs.declared.types.TypeInner.{TypeInner}
use Rattle.naga_ir.specs.declared.types.TypeInner.TheVariants.{Array, Struct}
use Rattle.naga_leaves.proofs.Members.{member_part}
use Rattle.naga_leaves.proofs.Parts.{part_comes_before}
use Rattle.naga_leaves.proofs.Path.{moved_by_none, moved_twice}
use Rattle.naga_leaves.specs.declared.leaf.Part.{Part}
use Rattle.naga_leaves.specs.Places.{LeadsTo, further, itself, part_of_type}
use Rattle.naga_leaves.specs.steps.Steps.{IsIndexAfter}
use Rattle.naga_typing.specs.Leaves as spec
use Rattle.naga_typing.specs.Leaves.{Elements, LeafBytes, inner_at, leaf_at, moved}

-- the last of a list, and those before it
pub same_ends : {A : Type 0} (xs ys : List A) (x y : A) → xs ++ x ∷ [] ≡ ys ++ y ∷ [] → (xs ≡ ys) × (x ≡ y)
same_ends [] [] x y e = (refl, head x y [] [] e)
  where
    head : {A : Type 0} (x y : A) (xs ys : List A) → x ∷ xs ≡ y ∷ ys → x ≡ y
    head x y xs ys e = cc
same_ends [] (z ∷ ys) x y e = absurd (longer (ap length e))
  where
    longer : 1 ≡ suc (length (ys ++ y ∷ [])) → ⊥
    longer e = let l = length-append ys (y ∷ []) in omega arith
same_ends (w ∷ xs) [] x y e = absurd (longer (ap length e))
  where
    longer : suc (length (xs ++ x ∷ [])) ≡ 1 → ⊥
    longer e = let l = length-append xs (x ∷ []) in omega arith
same_ends {A = A} (w ∷ xs) (z ∷ ys) x y e =
    let rest = same_ends xs ys x y (tail w z (xs ++ x ∷ []) (ys ++ y ∷ []) e) in
    let heads : w ≡ z = head w z (xs ++ x ∷ []) (ys ++ y ∷ []) e in
    (cons w z xs ys heads rest.0, rest.1)
  where
    tail : {A : Type 0} (x y : A) (xs ys : List A) → x ∷ xs ≡ y ∷ ys → xs ≡ ys
    tail x y xs ys e = cc

    head : {A : Type 0} (x y : A) (xs ys : List A) → x ∷ xs ≡ y ∷ ys → x ≡ y
    head x y xs ys e = cc

    cons : {A : Type 0} (x y : A) (xs ys : List A) → x ≡ y → xs ≡ ys → x ∷ xs ≡ y ∷ ys
    cons x y xs ys e f = cc

pub no_end : {A : Type 0} (xs : List A) (x : A) → [] ≡ xs ++ x ∷ [] → ⊥
no_end xs x e = let l = length-append xs (x ∷ []) in let n : 0 ≡ length (xs ++ x ∷ []) = ap length e in omega arith

-- an array or a struct that has no part at an index has none at a greater
pub none_after : (elements_of : Elements) (inner : TypeInner) (n m : ℕ) → spec.part_at elements_of inner n ≡ None → n ≤ m → spec.part_at elements_of inner m ≡ None
none_after elements_of (Array base size stride) n m h le =
    ⊎_elim (λ (w : (leb (suc m) (elements_of size) ≡ true) × (suc m ≤ elements_of size)). absurd (within w.1))
    (λ (w : (leb (suc m) (elements_of size) ≡ false) × (elements_of size < suc m)). ap (λ (b : Bool). element b m) w.0)
    (leb_tells (suc m) (elements_of size))
  where
    element : Bool → ℕ → Option spec.Part
    element b i = if b then Some (record { ty = base; first = i * stride }) else None

    within : suc m ≤ elements_of size → ⊥
    within below =
        ⊎_elim (λ (w : (leb (suc n) (elements_of size) ≡ true) × (suc n ≤ elements_of size)). none-some (record { ty = base; first = n * stride }) (sym (sym (ap (λ (b : Bool). element b n) w.0) ∙ h)))
        (λ (w : (leb (suc n) (elements_of size) ≡ false) × (elements_of size < suc n)). let past : elements_of size < suc n = w.1 in omega arith)
        (leb_tells (suc n) (elements_of size))
none_after elements_of (Struct members span) n m h le = ap (option_map member_part) (slice_get_past members m (omega (arith, past, le)))
  where
    no_member : (o : Option StructMember) → option_map member_part o ≡ None → o ≡ None
    no_member None e = refl
    no_member (Some x) e = absurd (none-some (member_part x) (sym e))

    past : length members ≤ n
    past = ⊎_elim (λ (l : n < length members). absurd (inside l)) (λ (l : length members ≤ n). l) (cases_lt n (length members))
      where
        inside : n < length members → ⊥
        inside l = within members n (no_member (slice_get members n) h) l
          where
            within : (members : List StructMember) (n : ℕ) → slice_get members n ≡ None → n < length members → ⊥
            within [] n e l = omega arith
            within (x ∷ members) zero e l = none-some x (sym e)
            within (x ∷ members) (suc n) e l = within members n e (omega arith)
none_after elements_of _ n m h le = refl

module _ (g : GlobalLists) (elements_of : Elements) where
  pub none_of_type_after : (t n m : ℕ) → part_of_type g elements_of t n ≡ None → n ≤ m → part_of_type g elements_of t m ≡ None
  none_of_type_after t n m h le = by (inner_at g t) h
    where
      by : (o : Option TypeInner) → option_and_then (λ inner. spec.part_at elements_of inner n) o ≡ None → option_and_then (λ inner. spec.part_at elements_of inner m) o ≡ None
      by None h = refl
      by (Some inner) h = none_after elements_of inner n m h le

  -- the part at an index of a type that exists
  pub part_there_is : (t i : ℕ) (x : «Type») → slice_get g.types t ≡ Some x → part_of_type g elements_of t i ≡ spec.part_at elements_of x.inner i
  part_there_is t i x at = ap (λ (o : Option «Type»). option_and_then (λ inner. spec.part_at elements_of inner i) (option_map (λ (ty : «Type»). ty.inner) o)) at

  -- a part of a type comes before it
  pub part_precedes : GlobalReferencesOk g → (t i : ℕ) (child : spec.Part) → part_of_type g elements_of t i ≡ Some child → (child.ty < t) × (t < length g.types)
  part_precedes ok t i child h = by (slice_get g.types t) refl h
    where
      by : (o : Option «Type») → slice_get g.types t ≡ o → option_and_then (λ inner. spec.part_at elements_of inner i) (option_map (λ (ty : «Type»). ty.inner) o) ≡ Some child → (child.ty < t) × (t < length g.types)
      by None at h = absurd (none-some child h)
      by (Some x) at h = (part_comes_before g ok elements_of t x i child at h, slice_get_within g.types t x at)

  -- the leaf at an index and a path is the leaf of the part at the path
  pub leaf_at_part : (t i : ℕ) (rest : List ℕ) (child : spec.Part) → part_of_type g elements_of t i ≡ Some child
      → leaf_at g elements_of t (i ∷ rest) ≡ option_map (moved child.first) (leaf_at g elements_of child.ty rest)
  unfolding leaf_at
  leaf_at_part t i rest child h = ap (option_and_then (λ (part : spec.Part). option_map (moved part.first) (leaf_at g elements_of part.ty rest))) h

  pub leaf_at_none : (t i : ℕ) (rest : List ℕ) → part_of_type g elements_of t i ≡ None → leaf_at g elements_of t (i ∷ rest) ≡ None
  unfolding leaf_at
  leaf_at_none t i rest h = ap (option_and_then (λ (part : spec.Part). option_map (moved part.first) (leaf_at g elements_of part.ty rest))) h

  module _ (whole : ℕ) where
    -- there is a part around for each index of a path
    pub as_many : (outer : List Part) (path : List ℕ) (part : Part) → LeadsTo g elements_of whole outer path part → length outer ≡ length path
    as_many _ _ _ itself = refl
    as_many _ _ _ (further outer path part i child h is within) =
        let same : length outer ≡ length path = as_many outer path part h in
        let a = length-append outer (part ∷ []) in let b = length-append path (i ∷ []) in omega arith

    -- the indexes are numbers of 32 bits
    pub are_indexes : (outer : List Part) (path : List ℕ) (part : Part) → LeadsTo g elements_of whole outer path part → All (λ i. i ≤ largest_u32) path
    are_indexes _ _ _ itself = All-nil (λ i. i ≤ largest_u32)
    are_indexes _ _ _ (further outer path part i child h is within) = All-push (λ i. i ≤ largest_u32) path i (are_indexes outer path part h) within

    -- the type of the part exists
    pub part_there : GlobalReferencesOk g → whole < length g.types → (outer : List Part) (path : List ℕ) (part : Part) → LeadsTo g elements_of whole outer path part → part.ty < length g.types
    part_there ok there _ _ _ itself = there
    part_there ok there _ _ _ (further outer path part i child h is within) =
        let w : (child.ty < part.ty) × (part.ty < length g.types) = part_precedes ok part.ty i child is in omega arith

    -- a leaf of the part is one of the whole, moved
    pub leaf_in_place : (outer : List Part) (path : List ℕ) (part : Part) → LeadsTo g elements_of whole outer path part
        → (rest : List ℕ) → leaf_at g elements_of whole (path ++ rest) ≡ option_map (moved part.first) (leaf_at g elements_of part.ty rest)
    leaf_in_place _ _ _ itself rest = sym (moved_by_none (leaf_at g elements_of whole rest))
    leaf_in_place _ _ _ (further outer path part i child h is within) rest =
        ap (leaf_at g elements_of whole) (append_assoc path (i ∷ []) rest)
        ∙ leaf_in_place outer path part h (i ∷ rest)
        ∙ ap (option_map (moved part.first)) (leaf_at_part part.ty i rest child is)
        ∙ moved_twice part.first child.first (leaf_at g elements_of child.ty rest)

    -- the path without its last index leads to the part around
    pub back : (outer : List Part) (path : List ℕ) (part : Part) → LeadsTo g elements_of whole outer path part
        → (a : List Part) (q : List ℕ) (p : Part) (i : ℕ) → outer ≡ a ++ p ∷ [] → path ≡ q ++ i ∷ [] → LeadsTo g elements_of whole a q p × (i ≤ largest_u32)
    back _ _ _ itself a q p i ea ep = absurd (no_end a p ea)
    back _ _ _ (further outer path part j child h is within) a q p i ea ep =
        let w = same_ends outer a part p ea in
        let v = same_ends path q j i ep in
        let at : LeadsTo g elements_of whole a path part = subst (λ a. LeadsTo g elements_of whole a path part) w.0 h in
        let bt : LeadsTo g elements_of whole a q part = subst (λ q. LeadsTo g elements_of whole a q part) v.0 at in
        (subst (λ p. LeadsTo g elements_of whole a q p) w.1 bt, subst (λ i. i ≤ largest_u32) v.1 within)

    -- there is a part around a part to which an index leads
    pub around_of : (outer : List Part) (path : List ℕ) (part : Part) → LeadsTo g elements_of whole outer path part
        → (q : List ℕ) (i : ℕ) → path ≡ q ++ i ∷ [] → (a : List Part) × (p : Part) × (outer ≡ a ++ p ∷ [])
    around_of _ _ _ itself q i e = absurd (no_end q i e)
    around_of _ _ _ (further outer path part j child h is within) q i e = (outer, part, refl)

    -- the types of the parts around it exist
    pub outer_there : GlobalReferencesOk g → whole < length g.types → (outer : List Part) (path : List ℕ) (part : Part) → LeadsTo g elements_of whole outer path part
        → All (λ (p : Part). p.ty < length g.types) outer
    outer_there ok there _ _ _ itself = All-nil (λ (p : Part). p.ty < length g.types)
    outer_there ok there _ _ _ (further outer path part j child h is within) =
        All-push (λ (p : Part). p.ty < length g.types) outer part (outer_there ok there outer path part h) (part_there ok there outer path part h)

-- all elements of an array have one type, and begin one after another
pub after_elements : (g : GlobalLists) (elements_of : Elements) (t i base : ℕ) (size : ArraySize) (stride : ℕ) → inner_at g t ≡ Some (Array base size stride) → i ≤ largest_u32 → IsIndexAfter g elements_of t i (suc largest_u32)
after_elements g elements_of t i base size stride is within = record {
  above = omega arith;
  within = omega arith;
  alike = λ k part from below at.
      let there : spec.part_at elements_of (Array base size stride) k ≡ Some part = sym (ap (option_and_then (λ inner. spec.part_at elements_of inner k)) is) ∙ at in
      let w = cond_some (ltb k (elements_of size)) (record { ty = base; first = k * stride }) part there in
      let first : i * stride ≤ k * stride = mul-le-mul_right stride from in (
        record { ty = base; first = i * stride },
        ap (option_and_then (λ inner. spec.part_at elements_of inner i)) is
            ∙ ap (λ (b : Bool). let element : Option spec.Part = if b then Some (record { ty = base; first = i * stride }) else None in element) (earlier k from w.0),
        ap (λ (p : spec.Part). p.ty) w.1,
        subst (λ (p : spec.Part). i * stride ≤ p.first) w.1 first,
      );
}
  where
    earlier : (k : ℕ) → i ≤ k → ltb k (elements_of size) ≡ true → ltb i (elements_of size) ≡ true
    earlier k from below =
        ⊎_elim (λ (w : (leb (suc i) (elements_of size) ≡ true) × (suc i ≤ elements_of size)). w.0)
        (λ (w : (leb (suc i) (elements_of size) ≡ false) × (elements_of size < suc i)). absurd (past w.1))
        (leb_tells (suc i) (elements_of size))
      where
        past : elements_of size < suc i → ⊥
        past above =
            ⊎_elim (λ (v : (leb (suc k) (elements_of size) ≡ true) × (suc k ≤ elements_of size)). let more : suc k ≤ elements_of size = v.1 in omega arith)
            (λ (v : (leb (suc k) (elements_of size) ≡ false) × (elements_of size < suc k)). let no : true ≡ false = sym below ∙ v.0 in cc)
            (leb_tells (suc k) (elements_of size))

-- one part is like itself
pub after_one : (g : GlobalLists) (elements_of : Elements) (t i : ℕ) → i ≤ largest_u32 → IsIndexAfter g elements_of t i (i + 1)
after_one g elements_of t i within = record {
  above = omega arith;
  within = omega arith;
  alike = λ k part from below at. let same : k ≡ i = omega arith in (part, ap (part_of_type g elements_of t) (sym same) ∙ at, refl, omega arith);
}
