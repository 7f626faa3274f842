-- The leaves of the buffers of a module whose variables are accepted.
use Rattle.std.proofs.Common.{◌≡◌, ◌∙◌, ◌⊎◌, ℕ, Bool, true, false, ◌∷◌, IsOk, IsTrue, Option, Some, None, Result, Ok, Err, IfSome, inl, inr, refl, sym, slice_get, subst}
use Rattle.std.specs.Cmp.Derive.{both_true}
use Rattle.std.specs.Prelude.{bit_or}
use Rattle.naga_arena.proofs.Elements.{all-unmap, all_at}
use Rattle.naga_flags.proofs.HasLemmas.{has-bit_or, has-trans}
use Rattle.naga_flags.specs.Bits.{SIZED, STRUCT_LAYOUTS}
use Rattle.naga_flags.specs.Flags.{has}
use Rattle.naga_info.specs.ModuleInfo.{ModuleInfoLists}
use Rattle.naga_interface.specs.GlobalVariables.{alignment_error, array_error, bindings_of, bound_type, declaration_checks, flags_error, global_variable_rule, layout_error, space_checks}
use Rattle.naga_interface.specs.Spaces.{space_row}
use Rattle.naga_interface.specs.Surroundings.{InterfaceSurroundings, KnownExpressions, flags_of, info_of}
use Rattle.naga_ir.specs.ItemReferences.{GlobalLists, global_lists}
use Rattle.naga_ir.specs.declared.ir.GlobalVariable.{GlobalVariable}
use Rattle.naga_ir.specs.declared.ir.Module.{Module}
use Rattle.naga_ir.specs.declared.types.AddressSpace.{AddressSpace}
use Rattle.naga_ir.specs.declared.types.AddressSpace.TheVariants as space
use Rattle.naga_types.proofs.KeptConditions.{granted-none, neither, unless-kept}
use Rattle.naga_types.specs.Checks.{first, when}
use Rattle.naga_types.specs.HostLeaves.{IsLaidOutForHosts, resolved_for_hosts, sized_for_hosts}
use Rattle.naga_types.specs.Layouts.{Layout}
use Rattle.naga_types.specs.Surroundings.{info_in}
use Rattle.naga_types.specs.declared.info.TypeInfo.{TypeInfo}
use Rattle.naga_typing.specs.Leaves.{AreSeparate, size_at_index}
use Rattle.naga_typing.specs.Typings.{Resolves}
use Rattle.naga_valid.proofs.ModuleLaws.{leaves_by_length, sized_leaves}
use Rattle.naga_valid.specs.Accepted.{AreValidTypes}
use Rattle.naga_valid.specs.Interfaces.{HasSeparateLeaves, IsBuffer, IsKnown, KeepVariables, is_buffer_space, surroundings_of}
use Rattle.naga_valid.specs.State.{State, settings_of}

-- a layout that is asked for is there
asked_layout : (asked : Bool) (a : AddressSpace) (layout : Layout) → asked ≡ true → when asked (alignment_error a layout) ≡ None → IsOk layout
asked_layout true a (Ok alignment) is none = refl
asked_layout true a (Err (ty, disalignment)) is none = cc none
asked_layout false a layout is none = cc is

-- the type of index `t` has these flags, and a layout in one of the address spaces
record IsForBuffers (s : InterfaceSurroundings) (t : ℕ) : Type 0 where
  has_flags : has (flags_of s t) resolved_for_hosts ≡ true
  has_layout : IsOk (info_of s t).uniform_layout ⊎ IsOk (info_of s t).storage_layout

module _ (s : InterfaceSurroundings) (layouts : has s.flags STRUCT_LAYOUTS ≡ true) (known : KnownExpressions) (v : GlobalVariable) (accepted : global_variable_rule s known v ≡ Ok tt) where
  abbrev t : ℕ
  t = bound_type s v.ty

  none : (first (array_error s v.space (bindings_of s v.ty) ∷ first (space_checks s v.space t) ∷ flags_error (space_row v.space).flags.0 (flags_of s t) ∷ declaration_checks s known (space_row v.space).is_resource v)) ≡ None
  none = granted-none _ _ _ accepted

  after_array : first (first (space_checks s v.space t) ∷ flags_error (space_row v.space).flags.0 (flags_of s t) ∷ declaration_checks s known (space_row v.space).is_resource v) ≡ None
  after_array = (neither (array_error s v.space (bindings_of s v.ty)) _ none).1

  spaces_kept : first (space_checks s v.space t) ≡ None
  spaces_kept = (neither (first (space_checks s v.space t)) _ after_array).0

  flags_kept : has (flags_of s t) (space_row v.space).flags.0 ≡ true
  flags_kept = unless-kept _ _ (neither (flags_error (space_row v.space).flags.0 (flags_of s t)) _ (neither (first (space_checks s v.space t)) _ after_array).1).0

  -- by the address space
  by_space : (a : AddressSpace) → IsTrue (is_buffer_space a) → first (space_checks s a t) ≡ None → has (flags_of s t) (space_row a).flags.0 ≡ true → IsForBuffers s t
  by_space space.Uniform buffer kept flags = record {
    has_flags = has-trans (flags_of s t) (space_row space.Uniform).flags.0 resolved_for_hosts flags refl;
    has_layout = inl (asked_layout (has s.flags STRUCT_LAYOUTS) space.Uniform (info_of s t).uniform_layout layouts (neither (layout_error s.flags space.Uniform (info_of s t).uniform_layout) None kept).0);
  }
  by_space (space.Storage access) buffer kept flags = record {
    has_flags = has-trans (flags_of s t) (space_row (space.Storage access)).flags.0 resolved_for_hosts flags refl;
    has_layout = inr (asked_layout (has s.flags STRUCT_LAYOUTS) (space.Storage access) (info_of s t).storage_layout layouts (neither (layout_error s.flags (space.Storage access) (info_of s t).storage_layout) _ kept).0);
  }
  by_space _ buffer kept flags = cc buffer

  -- the type of a buffer is laid out
  for_buffers : IsTrue (is_buffer_space v.space) → IsForBuffers s t
  for_buffers buffer = by_space v.space buffer spaces_kept flags_kept

-- a type with these flags has an info
has_info : (o : Option TypeInfo) → has (info_in o).flags.0 resolved_for_hosts ≡ true → (info : TypeInfo) × (o ≡ Some info) × (info ≡ info_in o)
has_info (Some info) flags = (info, refl, refl)
has_info None flags = cc flags

module _ {T : Type 0} (resolves : Resolves) (state : State T) (m : Module) (lists : ModuleInfoLists) (known : IsKnown resolves state m lists) (layouts : has state.flags.0 STRUCT_LAYOUTS ≡ true) (kept : KeepVariables state m lists) where
  abbrev g : GlobalLists
  g = global_lists m

  valid : AreValidTypes m (settings_of state known.resolved) state.infos
  valid = subst (AreValidTypes m (settings_of state known.resolved)) (sym known.accepted.infos_are) known.accepted.accepted.known.types

  -- the leaves of what is bound to a buffer are apart
  pub buffer_leaves : (v length ty : ℕ) → IsBuffer (surroundings_of state m) m v ty → HasSeparateLeaves g state.infos length ty
  buffer_leaves v length ty buffer =
      let s = surroundings_of state m in
      let expressions : KnownExpressions = record { types = lists.const_expression_types; kinds = kept.0 } in
      let rule = global_variable_rule s expressions in
      let accepted = all_at (λ (x : GlobalVariable). IsOk (rule x)) m.global_variables v buffer.variable (all-unmap IsOk rule m.global_variables kept.2) buffer.there in
      let fit = subst (IsForBuffers s) buffer.bound (for_buffers s layouts expressions buffer.variable (ok_is (rule buffer.variable) accepted) buffer.in_buffers) in
      let found = has_info (slice_get state.infos ty) fit.has_flags in
      let laid_out : (flags : ℕ) → has found.0.flags.0 flags ≡ true → IsLaidOutForHosts g state.infos ty flags = λ flags has_flags. record {
        info = found.0;
        info_is = found.1;
        has_flags = has_flags;
        has_layout = subst (λ (info : TypeInfo). IsOk info.uniform_layout ⊎ IsOk info.storage_layout) (sym found.2) fit.has_layout;
      } in
      let resolved : has found.0.flags.0 resolved_for_hosts ≡ true = subst (λ (info : TypeInfo). has info.flags.0 resolved_for_hosts ≡ true) (sym found.2) fit.has_flags in
      record {
        sized = subst (λ (o : Option TypeInfo). IfSome o (λ info. IsTrue (has info.flags.0 SIZED) → AreSeparate g length ty (size_at_index g ty))) (sym found.1)
            (λ is_sized. sized_leaves m (settings_of state known.resolved) state.infos valid ty length
            (laid_out sized_for_hosts (has-trans found.0.flags.0 (bit_or SIZED resolved_for_hosts) sized_for_hosts (has-bit_or found.0.flags.0 SIZED resolved_for_hosts ∙ both_true is_sized resolved) refl)));
        runtime_sized = leaves_by_length m (settings_of state known.resolved) state.infos valid ty length (laid_out resolved_for_hosts resolved);
      }
    where
      ok_is : {E : Type 0} (r : Result (Unit {0}) E) → IsOk r → r ≡ Ok tt
      ok_is (Ok u) ok = refl
      ok_is (Err e) ok = cc (ok)
