-- The numbers of errors of variables and of what functions and entry points declare: of each enum from 1, in the order
-- of its variants.
use Rattle.std.specs.Prelude.{ℕ}
use Rattle.naga_flags.specs.declared.width.ImmediateError.{ImmediateError}
use Rattle.naga_flags.specs.declared.width.ImmediateError.TheVariants as immediate_error
use Rattle.naga_interface.specs.declared.error.EntryPointError.{EntryPointError}
use Rattle.naga_interface.specs.declared.error.EntryPointError.TheVariants as entry_point_error
use Rattle.naga_interface.specs.declared.error.FunctionDeclarationError.{FunctionDeclarationError}
use Rattle.naga_interface.specs.declared.error.FunctionDeclarationError.TheVariants as declaration_error
use Rattle.naga_interface.specs.declared.error.GlobalVariableError.{GlobalVariableError}
use Rattle.naga_interface.specs.declared.error.GlobalVariableError.TheVariants as global_variable_error
use Rattle.naga_interface.specs.declared.error.LocalVariableError.{LocalVariableError}
use Rattle.naga_interface.specs.declared.error.LocalVariableError.TheVariants as local_variable_error
use Rattle.naga_c.specs.Codes.{disalignment_code, varying_error_code}

-- the number of the reason why immediates can't hold a type
abbrev pub immediate_error_code : ImmediateError → ℕ
immediate_error_code (immediate_error.InvalidScalar _) = 1

-- the number of an error of a global variable
abbrev pub global_variable_error_code : GlobalVariableError → ℕ
global_variable_error_code (global_variable_error.InvalidUsage _) = 1
global_variable_error_code (global_variable_error.InvalidType _) = 2
global_variable_error_code (global_variable_error.InvalidBindingArray _) = 3
global_variable_error_code (global_variable_error.MissingTypeFlags _ _) = 4
global_variable_error_code (global_variable_error.UnsupportedCapability _) = 5
global_variable_error_code global_variable_error.InvalidBinding = 6
global_variable_error_code (global_variable_error.Alignment _ _ _) = 7
global_variable_error_code global_variable_error.InitializerExprType = 8
global_variable_error_code global_variable_error.InitializerType = 9
global_variable_error_code (global_variable_error.InitializerNotAllowed _) = 10
global_variable_error_code global_variable_error.StorageAddressSpaceWriteOnlyNotSupported = 11
global_variable_error_code (global_variable_error.InvalidImmediateType _) = 12
global_variable_error_code global_variable_error.InvalidMemoryDecorationsAddressSpace = 13
global_variable_error_code global_variable_error.CoherentNotSupported = 14
global_variable_error_code global_variable_error.VolatileNotSupported = 15

-- the number of an error of a local variable
abbrev pub local_variable_error_code : LocalVariableError → ℕ
local_variable_error_code (local_variable_error.InvalidType _) = 1
local_variable_error_code local_variable_error.InitializerType = 2
local_variable_error_code local_variable_error.NonConstOrOverrideInitializer = 3

-- the number of an error of what a function declares
abbrev pub declaration_error_code : FunctionDeclarationError → ℕ
declaration_error_code (declaration_error.LocalVariable _ _) = 1
declaration_error_code (declaration_error.InvalidArgumentPointerSpace _ _) = 2
declaration_error_code (declaration_error.InvalidArgumentType _) = 3
declaration_error_code (declaration_error.PipelineInputRegularFunction _) = 4
declaration_error_code declaration_error.NonConstructibleReturnType = 5
declaration_error_code declaration_error.PipelineOutputRegularFunction = 6
declaration_error_code declaration_error.OutOfMemory = 7

-- the number of an error of an entry point
abbrev pub entry_point_error_code : EntryPointError → ℕ
entry_point_error_code entry_point_error.Conflict = 1
entry_point_error_code entry_point_error.MissingVertexOutputPosition = 2
entry_point_error_code entry_point_error.UnexpectedEarlyDepthTest = 3
entry_point_error_code entry_point_error.UnexpectedWorkgroupSize = 4
entry_point_error_code entry_point_error.OutOfRangeWorkgroupSize = 5
entry_point_error_code entry_point_error.ForbiddenStageOperations = 6
entry_point_error_code (entry_point_error.Argument _ _) = 7
entry_point_error_code (entry_point_error.Result _) = 8
entry_point_error_code (entry_point_error.Function _) = 9
entry_point_error_code entry_point_error.StageNotCovered = 10
entry_point_error_code entry_point_error.OutOfMemory = 11

-- the number of the error within an error of a global variable, or 0
abbrev pub global_variable_error_cause : GlobalVariableError → ℕ
global_variable_error_cause (global_variable_error.Alignment space ty disalignment) = disalignment_code disalignment
global_variable_error_cause (global_variable_error.InvalidImmediateType error) = immediate_error_code error
global_variable_error_cause _ = 0

-- the number of the error within an error of what a function declares, or 0
abbrev pub declaration_error_cause : FunctionDeclarationError → ℕ
declaration_error_cause (declaration_error.LocalVariable handle source) = local_variable_error_code source
declaration_error_cause _ = 0

-- the number of the error within an error of an entry point, or 0
abbrev pub entry_point_error_cause : EntryPointError → ℕ
entry_point_error_cause (entry_point_error.Argument index error) = varying_error_code error
entry_point_error_cause (entry_point_error.Result error) = varying_error_code error
entry_point_error_cause (entry_point_error.Function error) = declaration_error_code error
entry_point_error_cause _ = 0

-- the number of the second error within an error of an entry point, or 0
abbrev pub entry_point_error_second_cause : EntryPointError → ℕ
entry_point_error_second_cause (entry_point_error.Function error) = declaration_error_cause error
entry_point_error_second_cause _ = 0
