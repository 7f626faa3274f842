-- The types that a type names stand before it.
use Rattle.std.proofs.Common.{◌≡◌, ◌<◌, ℕ, Some, Contains, slice_get, subst, sym}
use Rattle.naga_ir.proofs.ReferencesOfItems.{parts_come_before}
use Rattle.naga_ir.specs.Handles.{GlobalReferencesOk}
use Rattle.naga_ir.specs.ItemReferences.{GlobalLists}
use Rattle.naga_ir.proofs.PartLemmas.{parts_of_binding_array, parts_of_pointer}
use Rattle.naga_ir.specs.Parts.{parts}
use Rattle.naga_ir.specs.declared.types.«Type».{«Type»}
use Rattle.naga_ir.specs.declared.types.AddressSpace.{AddressSpace}
use Rattle.naga_ir.specs.declared.types.ArraySize.{ArraySize}
use Rattle.naga_ir.specs.declared.types.TypeInner.TheVariants.{BindingArray, Pointer}

module _ (g : GlobalLists) (ok : GlobalReferencesOk g) (t : ℕ) (ty : «Type») (at : slice_get g.types t ≡ Some ty) where
  pub before : (p : ℕ) → Contains (parts ty.inner) p → p < t
  before p stands = parts_come_before g ok t ty p at stands

  -- the base of a pointer precedes it
  pub pointer_base_before : (base : ℕ) (space : AddressSpace) → ty.inner ≡ Pointer base space → base < t
  pointer_base_before base space e = before base (subst (λ i. Contains (parts i) base) (sym e) (parts_of_pointer base space))

  -- the base of a binding array precedes it
  pub binding_array_base_before : (base : ℕ) (size : ArraySize) → ty.inner ≡ BindingArray base size → base < t
  binding_array_base_before base size e = before base (subst (λ i. Contains (parts i) base) (sym e) (parts_of_binding_array base size))
