-- No rule of inputs and outputs gives that memory was refused.
use Rattle.std.proofs.Common.{◌≡◌, ◌+◌, ℕ, Bool, true, false, List, [], ◌∷◌, ◌++◌, Option, Some, None, map, take}
use Rattle.std.proofs.lemmas.Option.{same_Some}
use Rattle.std.specs.List.{enumerate_from}
use Rattle.std.specs.Option.{option_or}
use Rattle.std.specs.Prelude.{if◌then◌else◌}
use Rattle.naga_interface.specs.Surroundings.{form_of}
use Rattle.naga_interface.specs.Varyings.{VaryingSurroundings, binding_checks, bound_error, built_in_checks, capability_error, combination_error, member_bindings, member_error, members_error, missing_error, place_checks, primitive_checks, sampling_checks, scalar_error, scalar_in, source_checks, unbound_error, varying_error}
use Rattle.naga_ir.specs.declared.built_in.BuiltIn.{BuiltIn}
use Rattle.naga_ir.specs.declared.types.Binding.{Binding}
use Rattle.naga_ir.specs.declared.types.Binding.TheVariants as bound
use Rattle.naga_ir.specs.declared.types.Interpolation.{Interpolation}
use Rattle.naga_ir.specs.declared.types.Sampling.{Sampling}
use Rattle.naga_ir.specs.declared.types.Scalar.{Scalar}
use Rattle.naga_ir.specs.declared.types.StructMember.{StructMember}
use Rattle.naga_ir.specs.declared.types.TypeInner.{TypeInner}
use Rattle.naga_ir.specs.declared.types.TypeInner.TheVariants.{Struct}
use Rattle.naga_types.specs.Checks.{first, require, when}
use Rattle.naga_types.specs.TypeRule.{is_float}
use Rattle.naga_types.specs.declared.error.VaryingError.{VaryingError}
use Rattle.naga_types.specs.declared.error.VaryingError.TheVariants.{BindingCollisionBlendSrc, DuplicateBuiltIn, InvalidAttributeInStage, InvalidBlendSrcIndex, InvalidBuiltInStage, InvalidBuiltInType, InvalidInputAttributeInStage, InvalidMultiDimensionalSubgroupBuiltIn, OutOfMemory}

-- the error, if there is one, is not that memory was refused
abbrev pub IsDecided : Option VaryingError → Type 0
IsDecided o = o ≡ Some OutOfMemory → ⊥

nothing : IsDecided None
nothing h = cc h

required : (b : Bool) (e : VaryingError) → (e ≡ OutOfMemory → ⊥) → IsDecided (require b e)
required true e other h = cc h
required false e other h = other (same_Some e OutOfMemory h)

whenever : (b : Bool) (o : Option VaryingError) → IsDecided o → IsDecided (when b o)
whenever true o decided = decided
whenever false o decided = nothing

either : (a b : Option VaryingError) → IsDecided a → IsDecided b → IsDecided (option_or a b)
either None b first rest = rest
either (Some e) b first rest = first

-- no condition of a list gives that memory was refused
abbrev AreDecided : List (Option VaryingError) → Type 0
AreDecided [] = Unit {0}
AreDecided (o ∷ rest) = IsDecided o × AreDecided rest

all : (conditions : List (Option VaryingError)) → AreDecided conditions → IsDecided (first conditions)
all [] decided = nothing
all (o ∷ rest) decided = either o (first rest) decided.0 (all rest decided.1)

each : {X : Type 0} (f : ℕ × X → Option VaryingError) (k : ℕ) (xs : List X) → ((at : ℕ × X) → IsDecided (f at)) → IsDecided (first (map f (enumerate_from k xs)))
each f k [] decided = nothing
each f k (x ∷ xs) decided = either (f (k, x)) _ (decided (k, x)) (each f (k + 1) xs decided)

one_of : (a b : Option VaryingError) (t : Bool) → IsDecided a → IsDecided b → IsDecided (if t then a else b)
one_of a b true left right = left
one_of a b false left right = right

module _ (s : VaryingSurroundings) where
  capability : (flag : ℕ) → IsDecided (capability_error s flag)
  capability flag = required _ _ (λ e. cc e)

  missing : (e : VaryingError) → (e ≡ OutOfMemory → ⊥) → IsDecided (missing_error s e)
  missing e other = whenever _ (Some e) (λ h. other (same_Some e OutOfMemory h))

  built_in : (before : List Binding) (ty : ℕ) (b : BuiltIn) → IsDecided (first (built_in_checks s before ty b))
  built_in before ty b =
      all (built_in_checks s before ty b) (required _ (DuplicateBuiltIn b) (λ e. cc e), (capability _, (required _ InvalidMultiDimensionalSubgroupBuiltIn (λ e. cc e), (required _ (InvalidBuiltInStage b) (λ e. cc e), (required _ (InvalidBuiltInType b) (λ e. cc e), tt)))))

  source : (before : List Binding) (location n : ℕ) → IsDecided (first (source_checks s before location n))
  source before location n =
      all (source_checks s before location n) (capability _, (required _ (InvalidAttributeInStage s.stage) (λ e. cc e), (required _ (InvalidInputAttributeInStage s.stage) (λ e. cc e), (required _ (InvalidBlendSrcIndex location n) (λ e. cc e), (required _ (BindingCollisionBlendSrc n) (λ e. cc e), tt)))))

  place : (before : List Binding) (location : ℕ) (blend_src : Option ℕ) → IsDecided (first (place_checks s before location blend_src))
  place before location (Some n) = source before location n
  place before location None = all (place_checks s before location None) (whenever _ _ (required _ _ (λ e. cc e)), tt)

  combination : (interpolation : Option Interpolation) (sampling : Option Sampling) → IsDecided (combination_error interpolation sampling)
  combination None sampling = nothing
  combination (Some i) None = nothing
  combination (Some i) (Some m) = required _ _ (λ e. cc e)

  sampled : (interpolation : Option Interpolation) (sampling : Option Sampling) → IsDecided (first (sampling_checks s interpolation sampling))
  sampled interpolation sampling = all (sampling_checks s interpolation sampling) (combination interpolation sampling, (capability _, (capability _, tt)))

  scalar : (ty : ℕ) (interpolation : Option Interpolation) (o : Option Scalar) → IsDecided (scalar_error s ty interpolation o)
  scalar ty interpolation None = λ h. cc h
  scalar ty interpolation (Some x) = whenever _ _ (one_of _ _ (is_float x.kind) (required _ _ (λ e. cc e)) (required _ _ (λ e. cc e)))

  primitive : (per_primitive : Bool) → IsDecided (first (primitive_checks s per_primitive))
  primitive true = all (primitive_checks s true) (capability _, (required _ _ (λ e. cc e), tt))
  primitive false = nothing

  binding : (before : List Binding) (ty : ℕ) (b : Binding) → IsDecided (first (binding_checks s before ty b))
  binding before ty (bound.BuiltIn b) = built_in before ty b
  binding before ty (bound.Location location interpolation sampling blend_src per_primitive) =
      all (binding_checks s before ty (bound.Location location interpolation sampling blend_src per_primitive)) (required _ _ (λ e. cc e), (primitive per_primitive, (place before location blend_src, (sampled interpolation sampling, (scalar ty interpolation (scalar_in (form_of s.interface ty)), tt)))))

  bound_value : (before : List Binding) (i ty : ℕ) (o : Option Binding) → IsDecided (bound_error s before i ty o)
  bound_value before i ty (Some b) = binding before ty b
  bound_value before i ty None = missing _ (λ e. cc e)

  members : (before : List Binding) (ms : List StructMember) → IsDecided (members_error s before ms)
  members before ms = each (member_error s before ms) 0 ms (λ at. bound_value (before ++ member_bindings (take at.0 ms)) at.0 at.1.ty at.1.binding)

  unbound : (before : List Binding) (o : Option TypeInner) → IsDecided (unbound_error s before o)
  unbound before (Some (Struct ms span)) = members before ms
  unbound before _ = missing _ (λ e. cc e)

  -- the rule of an input or output never gives that memory was refused
  pub varying_decided : (before : List Binding) (ty : ℕ) (o : Option Binding) → IsDecided (varying_error s before ty o)
  varying_decided before ty (Some b) = binding before ty b
  varying_decided before ty None = unbound before (form_of s.interface ty)
