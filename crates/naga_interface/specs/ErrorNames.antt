-- The names of errors: of each variant its name in naga, or in the code if naga has no such variant.
use Rattle.std.specs.Prelude.{ℕ, List, codes}
use Rattle.naga_interface.specs.declared.error.GlobalVariableError.{GlobalVariableError}
use Rattle.naga_interface.specs.declared.error.GlobalVariableError.TheVariants as global_variable_error
use Rattle.naga_interface.specs.declared.error.LocalVariableError.{LocalVariableError}
use Rattle.naga_interface.specs.declared.error.LocalVariableError.TheVariants as local_variable_error
use Rattle.naga_interface.specs.declared.error.FunctionDeclarationError.{FunctionDeclarationError}
use Rattle.naga_interface.specs.declared.error.FunctionDeclarationError.TheVariants as function_declaration_error
use Rattle.naga_interface.specs.declared.error.EntryPointError.{EntryPointError}
use Rattle.naga_interface.specs.declared.error.EntryPointError.TheVariants as entry_point_error

-- the name of the reason why a variable of a module is refused
abbrev pub global_variable_error_name : GlobalVariableError → List ℕ
global_variable_error_name (global_variable_error.InvalidUsage _) = codes "InvalidUsage"
global_variable_error_name (global_variable_error.InvalidType _) = codes "InvalidType"
global_variable_error_name (global_variable_error.InvalidBindingArray _) = codes "InvalidBindingArray"
global_variable_error_name (global_variable_error.MissingTypeFlags _ _) = codes "MissingTypeFlags"
global_variable_error_name (global_variable_error.UnsupportedCapability _) = codes "UnsupportedCapability"
global_variable_error_name global_variable_error.InvalidBinding = codes "InvalidBinding"
global_variable_error_name (global_variable_error.Alignment _ _ _) = codes "Alignment"
global_variable_error_name global_variable_error.InitializerExprType = codes "InitializerExprType"
global_variable_error_name global_variable_error.InitializerType = codes "InitializerType"
global_variable_error_name (global_variable_error.InitializerNotAllowed _) = codes "InitializerNotAllowed"
global_variable_error_name global_variable_error.StorageAddressSpaceWriteOnlyNotSupported =
    codes "StorageAddressSpaceWriteOnlyNotSupported"
global_variable_error_name (global_variable_error.InvalidImmediateType _) = codes "InvalidImmediateType"
global_variable_error_name global_variable_error.InvalidMemoryDecorationsAddressSpace =
    codes "InvalidMemoryDecorationsAddressSpace"
global_variable_error_name global_variable_error.CoherentNotSupported = codes "CoherentNotSupported"
global_variable_error_name global_variable_error.VolatileNotSupported = codes "VolatileNotSupported"

-- the name of the reason why a variable of a function is refused
abbrev pub local_variable_error_name : LocalVariableError → List ℕ
local_variable_error_name (local_variable_error.InvalidType _) = codes "InvalidType"
local_variable_error_name local_variable_error.InitializerType = codes "InitializerType"
local_variable_error_name local_variable_error.NonConstOrOverrideInitializer = codes "NonConstOrOverrideInitializer"

-- the name of the reason why a local variable, an argument or the result of a function is refused
abbrev pub function_declaration_error_name : FunctionDeclarationError → List ℕ
function_declaration_error_name (function_declaration_error.LocalVariable _ _) = codes "LocalVariable"
function_declaration_error_name (function_declaration_error.InvalidArgumentPointerSpace _ _) =
    codes "InvalidArgumentPointerSpace"
function_declaration_error_name (function_declaration_error.InvalidArgumentType _) = codes "InvalidArgumentType"
function_declaration_error_name (function_declaration_error.PipelineInputRegularFunction _) =
    codes "PipelineInputRegularFunction"
function_declaration_error_name function_declaration_error.NonConstructibleReturnType =
    codes "NonConstructibleReturnType"
function_declaration_error_name function_declaration_error.PipelineOutputRegularFunction =
    codes "PipelineOutputRegularFunction"
function_declaration_error_name function_declaration_error.OutOfMemory = codes "OutOfMemory"

-- the name of the reason why an entry point is refused
abbrev pub entry_point_error_name : EntryPointError → List ℕ
entry_point_error_name entry_point_error.Conflict = codes "Conflict"
entry_point_error_name entry_point_error.MissingVertexOutputPosition = codes "MissingVertexOutputPosition"
entry_point_error_name entry_point_error.UnexpectedEarlyDepthTest = codes "UnexpectedEarlyDepthTest"
entry_point_error_name entry_point_error.UnexpectedWorkgroupSize = codes "UnexpectedWorkgroupSize"
entry_point_error_name entry_point_error.OutOfRangeWorkgroupSize = codes "OutOfRangeWorkgroupSize"
entry_point_error_name entry_point_error.ForbiddenStageOperations = codes "ForbiddenStageOperations"
entry_point_error_name (entry_point_error.Argument _ _) = codes "Argument"
entry_point_error_name (entry_point_error.Result _) = codes "Result"
entry_point_error_name (entry_point_error.Function _) = codes "Function"
entry_point_error_name entry_point_error.StageNotCovered = codes "StageNotCovered"
entry_point_error_name entry_point_error.OutOfMemory = codes "OutOfMemory"
