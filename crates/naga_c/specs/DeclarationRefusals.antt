-- Which variable, function or entry point a refusal is about, and why, in numbers.
use Rattle.std.specs.Prelude.{ℕ, Bool, true, false, [], ◌∷◌, Option, None, Some, if◌then◌else◌}
use Rattle.naga_interface.specs.declared.error.EntryPointError.{EntryPointError}
use Rattle.naga_interface.specs.declared.error.EntryPointError.TheVariants as entry_point_error
use Rattle.naga_interface.specs.declared.error.FunctionDeclarationError.{FunctionDeclarationError}
use Rattle.naga_interface.specs.declared.error.FunctionDeclarationError.TheVariants as declaration_error
use Rattle.naga_interface.specs.declared.error.GlobalVariableError.{GlobalVariableError}
use Rattle.naga_valid.specs.declared.interface.InterfacesError.{InterfacesError}
use Rattle.naga_valid.specs.declared.interface.InterfacesError.TheVariants as interfaces_error
use Rattle.naga_valid.specs.declared.interface.VariablesError.{VariablesError}
use Rattle.naga_valid.specs.declared.interface.VariablesError.TheVariants as variables_error
use Rattle.naga_c.specs.DeclarationCodes.{declaration_error_cause, declaration_error_code, entry_point_error_cause, entry_point_error_code, entry_point_error_second_cause, global_variable_error_cause, global_variable_error_code}
use Rattle.naga_c.specs.DeclarationValues.{declaration_error_values, entry_point_error_values, global_variable_error_values}
use Rattle.naga_c.specs.Refusals.{refusal}
use Rattle.naga_c.specs.declared.refusal.Refusal.{Refusal}

-- the refusal of the global variable of index `handle` with the error `e`
abbrev pub global_variable_refusal : (handle : ℕ) → (e : GlobalVariableError) → Refusal
global_variable_refusal handle e =
    refusal 10 4 handle (global_variable_error_code e ∷ global_variable_error_cause e ∷ 0 ∷ 0 ∷ [])
    (global_variable_error_values e)

-- the refusal of what the function of index `handle` declares with the error `e`
abbrev pub declaration_refusal : (handle : ℕ) → (e : FunctionDeclarationError) → Refusal
declaration_refusal handle e =
    refusal 11 7 handle (declaration_error_code e ∷ declaration_error_cause e ∷ 0 ∷ 0 ∷ [])
    (declaration_error_values e)

-- the refusal of the entry point of an index with the error `e`
abbrev pub entry_point_refusal : (index : ℕ) → (e : EntryPointError) → Refusal
entry_point_refusal index e =
    refusal 12 9 index
    (entry_point_error_code e ∷ entry_point_error_cause e ∷ entry_point_error_second_cause e ∷ 0 ∷ [])
    (entry_point_error_values e)

-- the error of what a function declares says that memory was refused
abbrev pub lacks_memory : FunctionDeclarationError → Bool
lacks_memory declaration_error.OutOfMemory = true
lacks_memory _ = false

-- the error of an entry point says that memory was refused
abbrev pub entry_point_lacks_memory : EntryPointError → Bool
entry_point_lacks_memory entry_point_error.OutOfMemory = true
entry_point_lacks_memory _ = false

-- the refusal of a module's variables with an error, unless memory was refused
abbrev pub variables_refusal : VariablesError → Option Refusal
variables_refusal (variables_error.GlobalVariable handle source) = Some (global_variable_refusal handle source)
variables_refusal variables_error.OutOfMemory = None

-- the refusal of what a module's functions and entry points declare with an error, unless memory was refused
abbrev pub interfaces_refusal : InterfacesError → Option Refusal
interfaces_refusal (interfaces_error.Function handle source) =
    if lacks_memory source then None else Some (declaration_refusal handle source)
interfaces_refusal (interfaces_error.EntryPoint index source) =
    if entry_point_lacks_memory source then None else Some (entry_point_refusal index source)
