-- What an entry point returns for an argument or a result that is refused.
use Rattle.std.proofs.Common.{◌≡◌, ◌≢◌, ◌∙◌, ◌<◌, ℕ, IsTrue, List, [], Option, Some, ◌⊎◌, ap, drop, get_or, inl, inr, length, map, option_map, sym, take}
use Rattle.std.specs.List.{enumerate_from, list_any}
use Rattle.std.specs.Prelude.{Err}
use Rattle.naga_arena.specs.Results.{IsResultOf}
use Rattle.naga_interface.proofs.Conditions.{Outcome, broken, unless}
use Rattle.naga_interface.proofs.FirstErrors.{refused}
use Rattle.naga_interface.proofs.MoreBindings.{argument_passes}
use Rattle.naga_interface.proofs.NoMemory.{varying_decided}
use Rattle.naga_interface.specs.EntryPoints.{argument_bindings, input_error, inputs_error, output_error, result_bindings}
use Rattle.naga_interface.specs.Varyings.{VaryingSurroundings, bindings_of, is_far, varying_error}
use Rattle.naga_interface.specs.declared.error.EntryPointError.{EntryPointError}
use Rattle.naga_interface.specs.declared.error.EntryPointError.TheVariants as entry_point_error
use Rattle.naga_ir.specs.declared.ir.FunctionArgument.{FunctionArgument}
use Rattle.naga_ir.specs.declared.ir.FunctionResult.{FunctionResult}
use Rattle.naga_ir.specs.declared.types.Binding.{Binding}
use Rattle.naga_types.specs.Checks.{first}
use Rattle.naga_types.specs.declared.error.VaryingError.{VaryingError}
use Rattle.naga_types.specs.declared.error.VaryingError.TheVariants as varying_error_of

-- an error of an input or output, as the error of its entry point: whether memory was refused stays
pub record IsMappedBy (wrap : VaryingError → EntryPointError) (error : VaryingError) (mapped : EntryPointError) : Type 0 where
  pub memory : error ≡ varying_error_of.OutOfMemory → mapped ≡ entry_point_error.OutOfMemory
  pub other : error ≢ varying_error_of.OutOfMemory → mapped ≡ wrap error

abbrev as_error : VaryingError → Outcome VaryingError
as_error e = Err e

same_error : (d e : VaryingError) → as_error d ≡ as_error e → d ≡ e
same_error d e h = cc h

-- what is returned for an input or output that is refused
pub mapped_answer : (P : Type 0) (s : VaryingSurroundings) (before : List Binding) (ty : ℕ) (binding : Option Binding) (wrap : VaryingError → EntryPointError) (error : VaryingError) (mapped : EntryPointError)
    → IsMappedBy wrap error mapped
    → IsResultOf (λ _. P) varying_error_of.OutOfMemory (unless (varying_error s before ty binding)) (Err error)
    → ((mapped ≡ wrap error) × (varying_error s before ty binding ≡ Some error)) ⊎ ((mapped ≡ entry_point_error.OutOfMemory) × P)
mapped_answer P s before ty binding wrap error mapped is (inl h) =
    let found = broken (varying_error s before ty binding) error h in
    inl (is.other (λ e. varying_decided s before ty binding (found ∙ ap Some e)), found)
mapped_answer P s before ty binding wrap error mapped is (inr h) = inr (is.memory (same_error error varying_error_of.OutOfMemory h.0), h.1)

module _ (s : VaryingSurroundings) (arguments : List FunctionArgument) (i : ℕ) (a : FunctionArgument) (within : i < length arguments) (at : a ≡ get_or arguments i a) where
  -- what is returned for the first argument that is refused
  pub input_refused : (error : VaryingError) (mapped : EntryPointError)
      → first (map (input_error s arguments) (enumerate_from i (drop i arguments))) ≡ inputs_error s arguments
      → IsMappedBy (entry_point_error.Argument i) error mapped
      → IsResultOf (λ _. IsTrue (list_any is_far (bindings_of s.interface a.ty a.binding))) varying_error_of.OutOfMemory
      (unless (varying_error s (argument_bindings s.interface (take i arguments)) a.ty a.binding)) (Err error)
      → IsResultOf (λ _. IsTrue (list_any is_far (argument_bindings s.interface arguments))) entry_point_error.OutOfMemory (unless (inputs_error s arguments)) (Err mapped)
  input_refused error mapped so_far is h =
      elim (mapped_answer (IsTrue (list_any is_far (bindings_of s.interface a.ty a.binding))) s (argument_bindings s.interface (take i arguments)) a.ty a.binding (entry_point_error.Argument i) error mapped is h) [
        | inl found ↦ inl (ap Err found.0
            ∙ sym (ap (λ (o : Option EntryPointError). unless o) (refused (input_error s arguments) arguments i a within at so_far (entry_point_error.Argument i error) (ap (option_map (entry_point_error.Argument i)) found.1))))
        | inr memory ↦ inr (ap Err memory.0, argument_passes s.interface is_far arguments i a within at memory.1)
      ]

-- what is returned for a result that is refused
pub output_refused : (s : VaryingSurroundings) (r : FunctionResult) (error : VaryingError) (mapped : EntryPointError) → IsMappedBy entry_point_error.Result error mapped
    → IsResultOf (λ _. IsTrue (list_any is_far (bindings_of s.interface r.ty r.binding))) varying_error_of.OutOfMemory (unless (varying_error s [] r.ty r.binding)) (Err error)
    → IsResultOf (λ _. IsTrue (list_any is_far (result_bindings s.interface (Some r)))) entry_point_error.OutOfMemory (unless (output_error s (Some r))) (Err mapped)
output_refused s r error mapped is h =
    elim (mapped_answer (IsTrue (list_any is_far (bindings_of s.interface r.ty r.binding))) s [] r.ty r.binding entry_point_error.Result error mapped is h) [
      | inl found ↦ inl (ap Err found.0 ∙ sym (ap (λ (o : Option VaryingError). unless (option_map entry_point_error.Result o)) found.1))
      | inr memory ↦ inr (ap Err memory.0, memory.1)
    ]
