use Rattle.std.proofs.Common.{rules, ◌≡◌, IsTrue, ℕ, List, [], ◌∷◌, None, Option, inl, subst, sym}
use Rattle.std.specs.Prelude.{Err}
use Rattle.naga_arena.specs.Results.{IsResultOf}
use Rattle.naga_flags.specs.Bits.{IO_SHAREABLE}
use Rattle.naga_flags.specs.Flags.{has}
use Rattle.naga_interface.specs.Surroundings.{flags_of, form_of}
use Rattle.naga_interface.specs.Varyings as rule
use Rattle.naga_interface.specs.Varyings.{VaryingSurroundings}
use Rattle.naga_interface.specs.steps.VaryingContexts.{varyings_in}
use Rattle.naga_ir.specs.declared.types.Binding.{Binding}
use Rattle.naga_ir.specs.declared.types.Binding.TheVariants as bound
use Rattle.naga_types.specs.Checks.{first, require}
use Rattle.naga_types.specs.declared.error.VaryingError.{VaryingError}
use Rattle.naga_types.specs.declared.error.VaryingError.TheVariants.{NotIOShareableType, OutOfMemory}
use Rattle.naga_interface.proofs.Conditions.{Outcome, at_last, broken_here, broken_here_or, by_first, kept, kept_or, kept_then, kept_then_or}
use Rattle.naga_interface.proofs.varying.VaryingContext.check_binding.Goals as goal

-- what a call returns of a value with a binding
abbrev IsAnswered : VaryingSurroundings → List Binding → ℕ → Binding → Outcome VaryingError → Type 0
IsAnswered s earlier ty b r = IsResultOf (λ _. IsTrue (rule.is_far b)) OutOfMemory (by_first (rule.binding_checks s earlier ty b)) r

pub returns-in_err-check_primitive-in-Location-clause-checks : goal.returns-in_err-check_primitive-in-Location-clause-checks
returns-in_err-check_primitive-in-Location-clause-checks c = λ earlier are.
    let s = varyings_in c.args.self in
    let ty = c.args.ty in
    let l = c.in-Location in
    let here : Binding = bound.Location l.location l.interpolation l.sampling l.blend_src l.per_primitive in
    let last : List (Option VaryingError) = rule.scalar_error s ty l.interpolation (rule.scalar_in (form_of s.interface ty)) ∷ [] in
    let after_place : List (Option VaryingError) = first (rule.sampling_checks s l.interpolation l.sampling) ∷ last in
    let after_primitive : List (Option VaryingError) = first (rule.place_checks s earlier l.location l.blend_src) ∷ after_place in
    let after_type : List (Option VaryingError) = first (rule.primitive_checks s l.per_primitive) ∷ after_primitive in
    let shareable : Option VaryingError = require (has (flags_of s.interface ty) IO_SHAREABLE) (NotIOShareableType ty) in
    let shared : shareable ≡ None = search rules in
    let error = c.in_err-check_primitive-in-Location.field-0.0 in
    let is : c.from_residual.result ≡ Err error = search rules in
    subst (λ (b : Binding). IsAnswered s earlier ty b c.from_residual.result) (sym l.is)
    (subst (IsAnswered s earlier ty here) (sym is)
    (inl (kept_then shareable after_type _ shared (broken_here (first (rule.primitive_checks s l.per_primitive)) after_primitive error c.in_err-check_primitive-in-Location.ensures))))

pub returns-in_err-check_place-in-Location-clause-checks : goal.returns-in_err-check_place-in-Location-clause-checks
returns-in_err-check_place-in-Location-clause-checks c = λ earlier are.
    let s = varyings_in c.args.self in
    let ty = c.args.ty in
    let l = c.in-Location in
    let here : Binding = bound.Location l.location l.interpolation l.sampling l.blend_src l.per_primitive in
    let far = IsTrue (rule.is_far_place l.location l.blend_src) in
    let last : List (Option VaryingError) = rule.scalar_error s ty l.interpolation (rule.scalar_in (form_of s.interface ty)) ∷ [] in
    let after_place : List (Option VaryingError) = first (rule.sampling_checks s l.interpolation l.sampling) ∷ last in
    let after_primitive : List (Option VaryingError) = first (rule.place_checks s earlier l.location l.blend_src) ∷ after_place in
    let after_type : List (Option VaryingError) = first (rule.primitive_checks s l.per_primitive) ∷ after_primitive in
    let shareable : Option VaryingError = require (has (flags_of s.interface ty) IO_SHAREABLE) (NotIOShareableType ty) in
    let shared : shareable ≡ None = search rules in
    let primitive = first (rule.primitive_checks s l.per_primitive) in
    let error = c.in_err-check_place-in-Location.field-0.0 in
    let r = c.from_residual-in_err-check_place-in-Location.result in
    let is : r ≡ Err error = search rules in
    subst (λ (b : Binding). IsAnswered s earlier ty b r) (sym l.is)
    (subst (IsAnswered s earlier ty here) (sym is)
    (kept_then_or far OutOfMemory shareable after_type (Err error) shared (kept_then_or far OutOfMemory primitive after_primitive (Err error) (kept primitive c.in_ok-check_primitive-in-Location.ensures)
    (broken_here_or far OutOfMemory (first (rule.place_checks s earlier l.location l.blend_src)) after_place error (c.in_err-check_place-in-Location.ensures.checks earlier are)))))

pub returns-in_err-check_sampling-in-Location-clause-checks : goal.returns-in_err-check_sampling-in-Location-clause-checks
returns-in_err-check_sampling-in-Location-clause-checks c = λ earlier are.
    let s = varyings_in c.args.self in
    let ty = c.args.ty in
    let l = c.in-Location in
    let here : Binding = bound.Location l.location l.interpolation l.sampling l.blend_src l.per_primitive in
    let far = IsTrue (rule.is_far_place l.location l.blend_src) in
    let last : List (Option VaryingError) = rule.scalar_error s ty l.interpolation (rule.scalar_in (form_of s.interface ty)) ∷ [] in
    let after_place : List (Option VaryingError) = first (rule.sampling_checks s l.interpolation l.sampling) ∷ last in
    let after_primitive : List (Option VaryingError) = first (rule.place_checks s earlier l.location l.blend_src) ∷ after_place in
    let after_type : List (Option VaryingError) = first (rule.primitive_checks s l.per_primitive) ∷ after_primitive in
    let shareable : Option VaryingError = require (has (flags_of s.interface ty) IO_SHAREABLE) (NotIOShareableType ty) in
    let shared : shareable ≡ None = search rules in
    let primitive = first (rule.primitive_checks s l.per_primitive) in
    let place = first (rule.place_checks s earlier l.location l.blend_src) in
    let error = c.in_err-check_sampling-in-Location.field-0.0 in
    let r = c.from_residual-in_err-check_sampling-in-Location.result in
    let is : r ≡ Err error = search rules in
    subst (λ (b : Binding). IsAnswered s earlier ty b r) (sym l.is)
    (subst (IsAnswered s earlier ty here) (sym is)
    (inl (kept_then shareable after_type _ shared (kept_then primitive after_primitive _ (kept primitive c.in_ok-check_primitive-in-Location.ensures)
    (kept_then place after_place _ (kept_or far OutOfMemory place (c.in_ok-check_place-in-Location.ensures.checks earlier are))
    (broken_here (first (rule.sampling_checks s l.interpolation l.sampling)) last error c.in_err-check_sampling-in-Location.ensures))))))

pub returns-in_ok-check_sampling-in-Location-clause-checks : goal.returns-in_ok-check_sampling-in-Location-clause-checks
returns-in_ok-check_sampling-in-Location-clause-checks c = λ earlier are.
    let s = varyings_in c.args.self in
    let ty = c.args.ty in
    let l = c.in-Location in
    let here : Binding = bound.Location l.location l.interpolation l.sampling l.blend_src l.per_primitive in
    let far = IsTrue (rule.is_far_place l.location l.blend_src) in
    let last : List (Option VaryingError) = rule.scalar_error s ty l.interpolation (rule.scalar_in (form_of s.interface ty)) ∷ [] in
    let after_place : List (Option VaryingError) = first (rule.sampling_checks s l.interpolation l.sampling) ∷ last in
    let after_primitive : List (Option VaryingError) = first (rule.place_checks s earlier l.location l.blend_src) ∷ after_place in
    let after_type : List (Option VaryingError) = first (rule.primitive_checks s l.per_primitive) ∷ after_primitive in
    let shareable : Option VaryingError = require (has (flags_of s.interface ty) IO_SHAREABLE) (NotIOShareableType ty) in
    let shared : shareable ≡ None = search rules in
    let primitive = first (rule.primitive_checks s l.per_primitive) in
    let place = first (rule.place_checks s earlier l.location l.blend_src) in
    let sampling = first (rule.sampling_checks s l.interpolation l.sampling) in
    let r = c.check_interpolation.result in
    subst (λ (b : Binding). IsAnswered s earlier ty b r) (sym l.is)
    (inl (kept_then shareable after_type r shared (kept_then primitive after_primitive r (kept primitive c.in_ok-check_primitive-in-Location.ensures)
    (kept_then place after_place r (kept_or far OutOfMemory place (c.in_ok-check_place-in-Location.ensures.checks earlier are))
    (kept_then sampling last r (kept sampling c.in_ok-check_sampling-in-Location.ensures)
    (at_last (rule.scalar_error s ty l.interpolation (rule.scalar_in (form_of s.interface ty))) r c.check_interpolation.ensures))))))
