-- The types of data that hosts may share, and what their parts may be used for.
use Rattle.std.proofs.Common.{◌≡◌, ◌<◌, ℕ, Bool, true, false, List, [], ◌∷◌, All, None, Ok, Result, if◌then◌else◌, length, refl, sym, ap, ◌∙◌, arith}
use Rattle.std.specs.Prelude.{◌==◌, not}
use Rattle.std.proofs.lemmas.Bool.{not-true, eqb-false}
use Rattle.naga_flags.specs.Bits.{ARGUMENT, COPY, CREATION_RESOLVED, SIZED, union_of}
use Rattle.naga_flags.specs.Flags.{has}
use Rattle.naga_ir.specs.declared.types.AddressSpace.{AddressSpace}
use Rattle.naga_ir.specs.declared.types.ArraySize.{ArraySize}
use Rattle.naga_ir.specs.declared.types.ArraySize.TheVariants.{Constant, Pending, Dynamic}
use Rattle.naga_ir.specs.declared.types.StructMember.{StructMember}
use Rattle.naga_ir.specs.declared.types.TypeInner.{TypeInner}
use Rattle.naga_ir.specs.declared.types.TypeInner.TheVariants as form
use Rattle.naga_typing.specs.Layout.{alignment_at}
use Rattle.naga_typing.specs.Leaves.{is_leaf}
use Rattle.naga_types.proofs.KeptConditions.{granted-none, granted-value, neither, unless-kept}
use Rattle.naga_types.proofs.StructFlags.{has-first, has-second, has-struct_flags}
use Rattle.naga_types.specs.FormFlags.{array_flags, binding_array_flags, is_argument_space, opaque_flags, pointer_flags, ray_query_flags}
use Rattle.naga_types.specs.HostLayouts.{data_for_hosts, IsForHosts}
use Rattle.naga_types.specs.Checks.{first}
use Rattle.naga_types.specs.Layouts.{storage_layout_of, uniform_layout_of}
use Rattle.naga_types.specs.StructRule.{struct_checks, struct_flags, struct_immediates}
use Rattle.naga_types.specs.Surroundings.{Surroundings, flags_at}
use Rattle.naga_types.specs.TypeRule.{array_info, type_rule}
use Rattle.naga_types.specs.declared.error.TypeError.{TypeError}
use Rattle.naga_types.specs.declared.error.TypeError.TheVariants.{EmptyStruct}
use Rattle.naga_types.specs.declared.info.TypeInfo.{TypeInfo}

-- the info of an accepted struct
abbrev pub struct_info : Surroundings → ℕ → List StructMember → ℕ → TypeInfo
struct_info s t members span = record {
  flags = record { 0 = struct_flags s members };
  uniform_layout = uniform_layout_of s t members span;
  storage_layout = storage_layout_of s t members span;
  immediates_compatibility = struct_immediates s members;
}

-- a type of data that hosts may share: a leaf, or an array or a struct of such data
pub data HostForm (s : Surroundings) (t : ℕ) (info : TypeInfo) : TypeInner → Type 0 where
  leaf : (inner : TypeInner) → is_leaf inner ≡ true → info.uniform_layout ≡ Ok (alignment_at s.layouts t) → info.storage_layout ≡ Ok (alignment_at s.layouts t) → HostForm s t info inner
  array : (base : ℕ) (size : ArraySize) (stride : ℕ) → has (flags_at s base) data_for_hosts ≡ true → array_info s t base size stride ≡ info → HostForm s t info (form.Array base size stride)
  struct : (members : List StructMember) (span : ℕ) → first (struct_checks s members span) ≡ None → All (λ (m : StructMember). has (flags_at s m.ty) data_for_hosts ≡ true) members
      → struct_info s t members span ≡ info → HostForm s t info (form.Struct members span)

-- flags that a type has not
lacking : {P : Type 0} (b : Bool) → b ≡ false → b ≡ true → P
lacking b capability_error has_it = absurd (impossible (sym capability_error ∙ has_it))
  where
    impossible : false ≡ true → ⊥
    impossible e = cc e

-- pointers are not data
pointers_lack : (space : AddressSpace) → has (pointer_flags space) data_for_hosts ≡ false
pointers_lack space = by (is_argument_space space)
  where
    by : (b : Bool) → has (if b then union_of (SIZED ∷ COPY ∷ CREATION_RESOLVED ∷ ARGUMENT ∷ []) else union_of (SIZED ∷ COPY ∷ CREATION_RESOLVED ∷ [])) data_for_hosts ≡ false
    by true = refl
    by false = refl

-- binding arrays are not data
binding_arrays_lack : (size : ArraySize) → has (binding_array_flags size) data_for_hosts ≡ false
binding_arrays_lack (Constant n) = refl
binding_arrays_lack (Pending o) = refl
binding_arrays_lack Dynamic = refl

module _ (s : Surroundings) (t : ℕ) (info : TypeInfo) (for_hosts : IsForHosts info) where
  has_flags : (i : TypeInfo) → i ≡ info → has i.flags.0 data_for_hosts ≡ true
  has_flags i e = ap (λ (x : TypeInfo). has x.flags.0 data_for_hosts) e ∙ for_hosts

  uniform_is : (i : TypeInfo) → i ≡ info → info.uniform_layout ≡ i.uniform_layout
  uniform_is i e = ap (λ (x : TypeInfo). x.uniform_layout) (sym e)

  storage_is : (i : TypeInfo) → i ≡ info → info.storage_layout ≡ i.storage_layout
  storage_is i e = ap (λ (x : TypeInfo). x.storage_layout) (sym e)

  -- an accepted type that is data which hosts may share is such a type
  pub host-form : (inner : TypeInner) → type_rule s t inner ≡ Ok info → HostForm s t info inner
  host-form (form.Scalar scalar) h = let e = granted-value _ _ info h in leaf (form.Scalar scalar) refl (uniform_is _ e) (storage_is _ e)
  host-form (form.Vector size scalar) h = let e = granted-value _ _ info h in leaf (form.Vector size scalar) refl (uniform_is _ e) (storage_is _ e)
  host-form (form.Matrix columns rows scalar) h = let e = granted-value _ _ info h in leaf (form.Matrix columns rows scalar) refl (uniform_is _ e) (storage_is _ e)
  host-form (form.CooperativeMatrix columns rows scalar role) h = let e = granted-value _ _ info h in leaf (form.CooperativeMatrix columns rows scalar role) refl (uniform_is _ e) (storage_is _ e)
  host-form (form.Atomic scalar) h = let e = granted-value _ _ info h in leaf (form.Atomic scalar) refl (uniform_is _ e) (storage_is _ e)
  host-form (form.Pointer base space) h = lacking _ (pointers_lack space) (has_flags _ (granted-value _ _ info h))
  host-form (form.ValuePointer size scalar space) h = lacking _ (pointers_lack space) (has_flags _ (granted-value _ _ info h))
  host-form (form.Array base size stride) h =
      let e = granted-value _ _ info h in
      array base size stride (has-first (flags_at s base) (array_flags size) data_for_hosts (has_flags (array_info s t base size stride) e)) e
  host-form (form.Struct members span) h =
      let e = granted-value _ (struct_info s t members span) info h in
      struct members span (granted-none (first (struct_checks s members span)) (struct_info s t members span) info h) (has-struct_flags s members data_for_hosts refl (has_flags (struct_info s t members span) e)) e
  host-form (form.Image dim arrayed class) h = lacking (has opaque_flags data_for_hosts) refl (has_flags _ (granted-value _ _ info h))
  host-form (form.Sampler comparison) h = lacking (has opaque_flags data_for_hosts) refl (has_flags _ (same_ok _ h))
    where
      same_ok : (i : TypeInfo) → (let left : Result TypeInfo TypeError = Ok i in left ≡ Ok info) → i ≡ info
      same_ok i e = cc e
  host-form (form.AccelerationStructure vertex_return) h = lacking (has opaque_flags data_for_hosts) refl (has_flags _ (granted-value _ _ info h))
  host-form (form.RayQuery vertex_return) h = lacking (has ray_query_flags data_for_hosts) refl (has_flags _ (granted-value _ _ info h))
  host-form (form.BindingArray base size) h =
      lacking (has (binding_array_flags size) data_for_hosts) (binding_arrays_lack size)
      (has-second (flags_at s base) (binding_array_flags size) data_for_hosts (has_flags _ (granted-value _ _ info h)))

-- an accepted struct has members
pub struct-has_members : (s : Surroundings) (members : List StructMember) (span : ℕ) → first (struct_checks s members span) ≡ None → 0 < length members
struct-has_members s members span none =
    let some : not (length members == 0) ≡ true = unless-kept (not (length members == 0)) EmptyStruct (neither _ _ none).0 in
    positive (length members) (eqb-false (length members) 0 (not-true (length members == 0) some))
  where
    positive : (n : ℕ) → (n ≡ 0 → ⊥) → 0 < n
    positive n h = omega (arith, h)
