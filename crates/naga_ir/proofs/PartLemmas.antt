-- The types that a type names, for the variants that name some.
use Rattle.std.proofs.Common.{◌≡◌, ◌<◌, ℕ, List, All, Contains, length, map, get_or, refl, subst, sym, arith}
use Rattle.std.proofs.lemmas.List.{get_or-map, length-map}
use Rattle.naga_ir.specs.Parts.{parts}
use Rattle.naga_ir.specs.declared.types.AddressSpace.{AddressSpace}
use Rattle.naga_ir.specs.declared.types.ArraySize.{ArraySize}
use Rattle.naga_ir.specs.declared.types.StructMember.{StructMember}
use Rattle.naga_ir.specs.declared.types.TypeInner.{TypeInner}
use Rattle.naga_ir.specs.declared.types.TypeInner.TheVariants.{Array, BindingArray, Pointer, Struct}

parts_of_array : (base : ℕ) (size : ArraySize) (stride : ℕ) → Contains (parts (Array base size stride)) base
unfolding parts
parts_of_array base size stride = (0, omega arith, refl)

pub base_is : (P : ℕ → Type 0) (inner : TypeInner) (base : ℕ) (size : ArraySize) (stride : ℕ) → ((p : ℕ) → Contains (parts inner) p → P p) → inner ≡ Array base size stride → P base
base_is P inner base size stride all e = all base (subst (λ i. Contains (parts i) base) (sym e) (parts_of_array base size stride))

pub parts_of_binding_array : (base : ℕ) (size : ArraySize) → Contains (parts (BindingArray base size)) base
unfolding parts
parts_of_binding_array base size = (0, omega arith, refl)

pub parts_of_pointer : (base : ℕ) (space : AddressSpace) → Contains (parts (Pointer base space)) base
unfolding parts
parts_of_pointer base space = (0, omega arith, refl)

parts_of_struct : (members : List StructMember) (span : ℕ) (p : ℕ) → Contains (map (λ (m : StructMember). m.ty) members) p → Contains (parts (Struct members span)) p
unfolding parts
parts_of_struct members span p h = h

contains_image : {X : Type 0} (f : X → ℕ) (xs : List X) (k : ℕ) (d : X) → k < length xs → Contains (map f xs) (f (get_or xs k d))
contains_image f xs k d within = (k, omega (arith, within, length-map xs f), get_or-map f xs k d (f (get_or xs k d)) within)

pub members_are : (P : ℕ → Type 0) (inner : TypeInner) (members : List StructMember) (span : ℕ) → ((p : ℕ) → Contains (parts inner) p → P p) → inner ≡ Struct members span → All (λ (m : StructMember). P m.ty) members
members_are P inner members span all e k d within =
    let named : ℕ = (get_or members k d).ty in
    all named (subst (λ i. Contains (parts i) named) (sym e) (parts_of_struct members span named (contains_image (λ (m : StructMember). m.ty) members k d within)))
