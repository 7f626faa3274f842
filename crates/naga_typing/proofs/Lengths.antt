-- Laws of lengths: a type whose references exist has a length, and no other.
use Rattle.std.proofs.Common.{◌≡◌, ◌≤◌, ℕ, zero, suc, List, Some, Result, slice_get, refl, sym, subst, ap, ◌∙◌, arith}
use Rattle.std.proofs.lemmas.Option.{same_Some}
use Rattle.naga_arena.proofs.InOrder.{found_at}
use Rattle.naga_ir.specs.Handles.{GlobalReferencesOk}
use Rattle.naga_ir.specs.ItemReferences.{GlobalLists}
use Rattle.naga_ir.specs.declared.types.«Type».{«Type»}
use Rattle.naga_ir.specs.declared.types.AddressSpace.{AddressSpace}
use Rattle.naga_ir.specs.declared.types.TypeInner.{TypeInner}
use Rattle.naga_ir.specs.declared.types.TypeInner.TheVariants.{Pointer}
use Rattle.naga_typing.proofs.Existence.{references_exist}
use Rattle.naga_typing.proofs.Pointers.{nearer, pointer_base_exists, pointers_left}
use Rattle.naga_typing.specs.Context.{ReferencesExist}
use Rattle.naga_typing.specs.Index.{IsLength, IsNotPointer, LengthOfArray, PointsTo, itself, length_of, pointed_to}
use Rattle.naga_typing.specs.declared.index.IndexableLength.{IndexableLength}
use Rattle.naga_typing.specs.declared.index.IndexableLengthError.{IndexableLengthError}

module _ (types : List «Type») where
  -- a type that is not a pointer leads only to itself
  leads_to_itself : (x y : TypeInner) → IsNotPointer x → PointsTo types x y → x ≡ y
  leads_to_itself _ _ none (itself x n) = refl
  leads_to_itself _ _ none (pointed_to base space t x at h) = absurd none

  same_base : (b base : ℕ) (s space : AddressSpace) → (let left : TypeInner = Pointer b s in left ≡ Pointer base space) → b ≡ base
  same_base b base s space e = cc e

  -- a pointer leads where its base does
  leads_by_base : (base : ℕ) (space : AddressSpace) (t : «Type») (x y : TypeInner) → x ≡ Pointer base space → slice_get types base ≡ Some t → PointsTo types x y → PointsTo types t.inner y
  leads_by_base base space t _ _ e at (itself x none) = absurd (subst IsNotPointer e none)
  leads_by_base base space t _ _ e at (pointed_to b s u y found h) =
      subst (λ (v : «Type»). PointsTo types v.inner y) (same_Some u t (sym found ∙ ap (slice_get types) (same_base b base s space e) ∙ at)) h

  -- a type leads to one type at most
  pub leads_to_one : (i x y : TypeInner) → PointsTo types i x → PointsTo types i y → x ≡ y
  leads_to_one _ _ y (itself x none) other = leads_to_itself x y none other
  leads_to_one _ _ y (pointed_to base space t x at h) other = leads_to_one t.inner x y h (leads_by_base base space t (Pointer base space) y refl at other)

-- no type has two lengths
pub length_once : (g : GlobalLists) (of_array : LengthOfArray) (inner : TypeInner) (r s : Result IndexableLength IndexableLengthError) → IsLength g of_array inner r → IsLength g of_array inner s → r ≡ s
length_once g of_array inner r s a b = a.2 ∙ ap (length_of of_array) (leads_to_one g.types inner a.0 b.0 a.1 b.1) ∙ sym b.2

module _ (g : GlobalLists) (ok : GlobalReferencesOk g) where
  leads : (n : ℕ) (inner : TypeInner) → pointers_left inner ≤ n → ReferencesExist g inner → (x : TypeInner) × PointsTo g.types inner x
  leads zero (Pointer base space) below exist = absurd (omega (arith, below))
  leads (suc n) (Pointer base space) below exist =
      let t = found_at g.types base (pointer_base_exists g (Pointer base space) base space exist refl) in
      let before = nearer g ok (Pointer base space) (Pointer base space) base space t.0 refl t.1 in
      let rest = leads n t.0.inner (omega (arith, before, below)) (references_exist g ok base t.0 t.1) in
      (rest.0, pointed_to base space t.0 rest.0 t.1 rest.1)
  leads n inner below exist = (inner, itself inner tt)

  -- a type whose references exist has a length
  pub length_exists : (of_array : LengthOfArray) (inner : TypeInner) → ReferencesExist g inner → (r : Result IndexableLength IndexableLengthError) × IsLength g of_array inner r
  length_exists of_array inner exist = let found = leads (pointers_left inner) inner (omega arith) exist in (length_of of_array found.0, (found.0, found.1, refl))
