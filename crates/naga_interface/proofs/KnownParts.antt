-- The types that the types of a module refer to exist.
use Rattle.std.proofs.Common.{◌≡◌, ◌<◌, All, ℕ, List, Option, Some, None, length, refl, slice_get, subst}
use Rattle.std.proofs.lemmas.Option.{same_Some}
use Rattle.std.specs.Option.{IfSome, option_map, unwrap_or}
use Rattle.naga_arena.proofs.Elements.{all_at}
use Rattle.naga_interface.specs.GlobalVariables.{binding_base}
use Rattle.naga_interface.specs.Surroundings.{AreTypesKnown, InterfaceSurroundings, form_of}
use Rattle.naga_ir.proofs.PartLemmas.{members_are, parts_of_binding_array}
use Rattle.naga_ir.specs.declared.types.StructMember.{StructMember}
use Rattle.naga_ir.specs.declared.types.«Type».{«Type»}
use Rattle.naga_ir.specs.declared.types.TypeInner.{TypeInner}
use Rattle.naga_ir.specs.declared.types.TypeInner.TheVariants.{BindingArray, Struct}
use Rattle.naga_typing.specs.Resolutions.{PartsExist}

-- the type of the bindings of a binding array exists
base_exists : (types : List «Type») (inner : TypeInner) → PartsExist types inner → IfSome (binding_base inner) (λ b. b < length types)
base_exists types (BindingArray base size) exist = exist base (parts_of_binding_array base size)
base_exists types _ exist = tt

-- what a pipeline binds to a variable has a type that exists
pub bound_exists : (o : Option ℕ) (t n : ℕ) → t < n → IfSome o (λ b. b < n) → unwrap_or o t < n
bound_exists None t n there exists = there
bound_exists (Some b) t n there exists = exists

module _ (s : InterfaceSurroundings) (known : AreTypesKnown s) (t : ℕ) (inner : TypeInner) where
  -- the parts of a type of the module exist
  pub parts_exist : form_of s t ≡ Some inner → PartsExist s.types inner
  parts_exist is = by_type (slice_get s.types t) refl is
    where
      by_type : (found : Option «Type») → slice_get s.types t ≡ found → option_map (λ (x : «Type»). x.inner) found ≡ Some inner → PartsExist s.types inner
      by_type None at is = cc is
      by_type (Some x) at is = subst (PartsExist s.types) (same_Some x.inner inner is) (all_at (λ (y : «Type»). PartsExist s.types y.inner) s.types t x known.parts at)

  -- the types of the members of a struct of the module exist
  pub members_exist : (members : List StructMember) (span : ℕ) → form_of s t ≡ Some inner → inner ≡ Struct members span → All (λ (m : StructMember). m.ty < length s.types) members
  members_exist members span is struct = members_are (λ p. p < length s.types) inner members span (parts_exist is) struct

  -- the type of the bindings of a binding array of the module exists
  pub binding_base_exists : form_of s t ≡ Some inner → IfSome (binding_base inner) (λ b. b < length s.types)
  binding_base_exists is = base_exists s.types inner (parts_exist is)
