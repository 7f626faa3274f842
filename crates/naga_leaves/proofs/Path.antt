-- Following a path to its leaf.
use Rattle.std.proofs.Common.{◌≡◌, ◌<◌, ◌+◌, ℕ, List, [], ◌∷◌, Option, Some, None, IfSome, length, refl, sym, subst, ap, ◌∙◌, arith}
use Rattle.std.specs.List.{slice_get}
use Rattle.std.specs.Option.{option_and_then, option_map}
use Rattle.std.proofs.lemmas.Option.{cond_some}
use Rattle.naga_arena.specs.Numbers.{largest_u64}
use Rattle.naga_ir.specs.Handles.{GlobalReferencesOk}
use Rattle.naga_ir.specs.ItemReferences.{GlobalLists}
use Rattle.naga_ir.specs.declared.types.«Type».{«Type»}
use Rattle.naga_ir.specs.declared.types.TypeInner.{TypeInner}
use Rattle.naga_leaves.proofs.Parts.{part_comes_before}
use Rattle.naga_typing.specs.Layout.{alignment_of, size_of}
use Rattle.naga_typing.specs.Leaves.{Elements, LeafBytes, Part, is_leaf, leaf_at, moved, part_at, whole_leaf}

-- a leaf that is not moved is itself
pub moved_by_none : (o : Option LeafBytes) → option_map (moved 0) o ≡ o
moved_by_none None = refl
moved_by_none (Some leaf) = ap (λ (first : ℕ). let moved_leaf : Option LeafBytes = Some (record leaf { first = first }) in moved_leaf) (omega arith)

-- a leaf that is moved twice is moved by the sum
pub moved_twice : (a b : ℕ) (o : Option LeafBytes) → option_map (moved a) (option_map (moved b) o) ≡ option_map (moved (a + b)) o
moved_twice a b None = refl
moved_twice a b (Some leaf) = ap (λ (first : ℕ). let moved_leaf : Option LeafBytes = Some (record leaf { first = first }) in moved_leaf) (omega arith)

-- a leaf that is moved begins no earlier
pub moved_begins : (by : ℕ) (o : Option LeafBytes) → largest_u64 < by → IfSome (option_map (moved by) o) (λ leaf. largest_u64 < leaf.first)
moved_begins by None h = tt
moved_begins by (Some leaf) h = omega arith

-- a whole leaf begins at its first byte
pub begins_at_none : (g : GlobalLists) (inner : TypeInner) (leaf : LeafBytes) → whole_leaf g inner ≡ Some leaf → leaf.first ≡ 0
begins_at_none g inner leaf h =
    let all : LeafBytes = record { first = 0; size = size_of g inner; alignment = alignment_of [] inner } in
    sym (ap (λ (l : LeafBytes). l.first) (cond_some (is_leaf inner) all leaf h).1)

module _ (g : GlobalLists) (elements_of : Elements) where
  -- the leaf of a type to which no index leads, or an index and a path
  pub leaf_of_nothing : (t : ℕ) (x : «Type») → slice_get g.types t ≡ Some x → leaf_at g elements_of t [] ≡ whole_leaf g x.inner
  unfolding leaf_at
  leaf_of_nothing t x at = ap (λ (o : Option «Type»). option_and_then (whole_leaf g) (option_map (λ (ty : «Type»). ty.inner) o)) at

  leaf_of_part : (t i : ℕ) (path : List ℕ) (x : «Type») → slice_get g.types t ≡ Some x
      → leaf_at g elements_of t (i ∷ path) ≡ option_and_then (λ part. option_map (moved part.first) (leaf_at g elements_of part.ty path)) (part_at elements_of x.inner i)
  unfolding leaf_at
  leaf_of_part t i path x at =
      ap (λ (o : Option «Type»). option_and_then (λ part. option_map (moved part.first) (leaf_at g elements_of part.ty path)) (option_and_then (λ inner. part_at elements_of inner i) (option_map (λ (ty : «Type»). ty.inner) o))) at

  -- if there is no such part, there is no leaf
  pub none_in_no_part : (t i : ℕ) (path : List ℕ) (x : «Type») → slice_get g.types t ≡ Some x → part_at elements_of x.inner i ≡ None → leaf_at g elements_of t (i ∷ path) ≡ None
  none_in_no_part t i path x at none =
      leaf_of_part t i path x at ∙ ap (option_and_then (λ part. option_map (moved part.first) (leaf_at g elements_of part.ty path))) none

  -- if there is, the leaf is the leaf of the part
  pub leaf_in_part : (t i : ℕ) (path : List ℕ) (x : «Type») (part : Part) → slice_get g.types t ≡ Some x → part_at elements_of x.inner i ≡ Some part
      → leaf_at g elements_of t (i ∷ path) ≡ option_map (moved part.first) (leaf_at g elements_of part.ty path)
  leaf_in_part t i path x part at is =
      leaf_of_part t i path x at ∙ ap (option_and_then (λ part. option_map (moved part.first) (leaf_at g elements_of part.ty path))) is

  -- from a type the first indexes of a path lead to a part that begins at a byte: the leaf is the leaf of
  -- the part at the rest of the path
  pub record Following (whole ty : ℕ) (path : List ℕ) (first : ℕ) (rest : List ℕ) : Type 0 where
    pub exists : ty < length g.types
    pub leaf : leaf_at g elements_of whole path ≡ option_map (moved first) (leaf_at g elements_of ty rest)

  pub begin : (whole : ℕ) (path : List ℕ) → whole < length g.types → Following whole whole path 0 path
  begin whole path exists = record { exists = exists; leaf = sym (moved_by_none (leaf_at g elements_of whole path)) }

  module _ (whole ty : ℕ) (path : List ℕ) (first i : ℕ) (rest : List ℕ) (f : Following whole ty path first (i ∷ rest)) (x : «Type») (at : slice_get g.types ty ≡ Some x) where
    pub no_part : part_at elements_of x.inner i ≡ None → leaf_at g elements_of whole path ≡ None
    no_part none = f.leaf ∙ ap (option_map (moved first)) (none_in_no_part ty i rest x at none)

    module _ (part : Part) (is : part_at elements_of x.inner i ≡ Some part) where
      leaf_of_rest : leaf_at g elements_of whole path ≡ option_map (moved (first + part.first)) (leaf_at g elements_of part.ty rest)
      leaf_of_rest =
          f.leaf ∙ ap (option_map (moved first)) (leaf_in_part ty i rest x part at is) ∙ moved_twice first part.first (leaf_at g elements_of part.ty rest)

      pub follow : GlobalReferencesOk g → Following whole part.ty path (first + part.first) rest
      follow ok =
          let back : part.ty < ty = part_comes_before g ok elements_of ty x i part at is in
          let there : ty < length g.types = f.exists in
          record { exists = omega arith; leaf = leaf_of_rest }

      -- if the part begins past all numbers, so does the leaf
      pub too_far : largest_u64 < first + part.first → IfSome (leaf_at g elements_of whole path) (λ leaf. largest_u64 < leaf.first)
      too_far past =
          subst (λ (o : Option LeafBytes). IfSome o (λ leaf. largest_u64 < leaf.first)) (sym leaf_of_rest) (moved_begins (first + part.first) (leaf_at g elements_of part.ty rest) past)

  -- at the end of the path the leaf is the whole part
  pub end : (whole ty : ℕ) (path : List ℕ) (first : ℕ) (x : «Type») → Following whole ty path first [] → slice_get g.types ty ≡ Some x
      → leaf_at g elements_of whole path ≡ option_map (moved first) (whole_leaf g x.inner)
  end whole ty path first x f at = f.leaf ∙ ap (option_map (moved first)) (leaf_of_nothing ty x at)
