-- The values that errors of variables, and of what functions and entry points declare, hold.
use Rattle.std.specs.Prelude.{ℕ, List, [], ◌∷◌}
use Rattle.naga_flags.specs.declared.width.ImmediateError.{ImmediateError}
use Rattle.naga_flags.specs.declared.width.ImmediateError.TheVariants as immediate_error
use Rattle.naga_interface.specs.declared.error.EntryPointError.{EntryPointError}
use Rattle.naga_interface.specs.declared.error.EntryPointError.TheVariants as entry_point_error
use Rattle.naga_interface.specs.declared.error.FunctionDeclarationError.{FunctionDeclarationError}
use Rattle.naga_interface.specs.declared.error.FunctionDeclarationError.TheVariants as declaration_error
use Rattle.naga_interface.specs.declared.error.GlobalVariableError.{GlobalVariableError}
use Rattle.naga_interface.specs.declared.error.GlobalVariableError.TheVariants as global_variable_error
use Rattle.naga_interface.specs.declared.error.LocalVariableError.{LocalVariableError}
use Rattle.naga_interface.specs.declared.error.LocalVariableError.TheVariants as local_variable_error
use Rattle.naga_types.specs.declared.error.Disalignment.{Disalignment}
use Rattle.naga_types.specs.declared.error.Disalignment.TheVariants as disalignment
use Rattle.naga_c.specs.Numbers.{scalar_kind_number, space_access, space_number}
use Rattle.naga_c.specs.Values.{varying_error_values}

-- the values of why immediates can't hold a type
abbrev pub immediate_error_values : ImmediateError → List ℕ
immediate_error_values (immediate_error.InvalidScalar scalar) = scalar_kind_number scalar.kind ∷ scalar.width ∷ []

-- the values of why a type has no layout in an address space
abbrev pub disalignment_values : Disalignment → List ℕ
disalignment_values (disalignment.ArrayStride stride alignment) = stride ∷ alignment ∷ []
disalignment_values (disalignment.StructSpan span alignment) = span ∷ alignment ∷ []
disalignment_values (disalignment.MemberOffset index offset alignment) = index ∷ offset ∷ alignment ∷ []
disalignment_values (disalignment.MemberOffsetAfterStruct index offset expected) = index ∷ offset ∷ expected ∷ []
disalignment_values (disalignment.UnsizedMember index) = index ∷ []
disalignment_values disalignment.NonHostShareable = []

-- the values of why a global variable is refused; of the address space of a layout only its number
abbrev pub global_variable_error_values : GlobalVariableError → List ℕ
global_variable_error_values (global_variable_error.InvalidUsage space) = space_number space ∷ space_access space ∷ []
global_variable_error_values (global_variable_error.InvalidType space) = space_number space ∷ space_access space ∷ []
global_variable_error_values (global_variable_error.InvalidBindingArray ty) = ty ∷ []
global_variable_error_values (global_variable_error.MissingTypeFlags required seen) = required.0 ∷ seen.0 ∷ []
global_variable_error_values (global_variable_error.UnsupportedCapability capabilities) = capabilities.0 ∷ []
global_variable_error_values (global_variable_error.Alignment space ty error) =
    space_number space ∷ ty ∷ disalignment_values error
global_variable_error_values (global_variable_error.InitializerNotAllowed space) =
    space_number space ∷ space_access space ∷ []
global_variable_error_values (global_variable_error.InvalidImmediateType error) = immediate_error_values error
global_variable_error_values _ = []

-- the values of why a local variable is refused
abbrev pub local_variable_error_values : LocalVariableError → List ℕ
local_variable_error_values (local_variable_error.InvalidType ty) = ty ∷ []
local_variable_error_values _ = []

-- the values of why what a function declares is refused
abbrev pub declaration_error_values : FunctionDeclarationError → List ℕ
declaration_error_values (declaration_error.LocalVariable handle source) = handle ∷ local_variable_error_values source
declaration_error_values (declaration_error.InvalidArgumentPointerSpace index space) =
    index ∷ space_number space ∷ space_access space ∷ []
declaration_error_values (declaration_error.InvalidArgumentType index) = index ∷ []
declaration_error_values (declaration_error.PipelineInputRegularFunction index) = index ∷ []
declaration_error_values _ = []

-- the values of why an entry point is refused
abbrev pub entry_point_error_values : EntryPointError → List ℕ
entry_point_error_values (entry_point_error.Argument index error) = index ∷ varying_error_values error
entry_point_error_values (entry_point_error.Result error) = varying_error_values error
entry_point_error_values (entry_point_error.Function error) = declaration_error_values error
entry_point_error_values _ = []
