-- The names of errors: of each variant its name in naga, or in the code if naga has no such variant.
use Rattle.std.specs.Prelude.{ℕ, List, codes}
use Rattle.naga_handles.specs.declared.error.InvalidHandleError.{InvalidHandleError}
use Rattle.naga_handles.specs.declared.error.InvalidHandleError.TheVariants as handle_error
use Rattle.naga_handles.specs.declared.error.ValidationFault.{ValidationFault}
use Rattle.naga_handles.specs.declared.error.ValidationFault.TheVariants as validation_fault

-- the name of what is wrong with a handle or a range
abbrev pub handle_error_name : InvalidHandleError → List ℕ
handle_error_name (handle_error.BadHandle _) = codes "BadHandle"
handle_error_name (handle_error.ForwardDependency _) = codes "ForwardDependency"
handle_error_name (handle_error.BadRange _) = codes "BadRange"

-- the name of what is wrong with the handles of a module
abbrev pub validation_fault_name : ValidationFault → List ℕ
validation_fault_name (validation_fault.Invalid _) = codes "Invalid"
validation_fault_name (validation_fault.MissingMember _ _) = codes "MissingMember"
validation_fault_name validation_fault.OutOfMemory = codes "OutOfMemory"
