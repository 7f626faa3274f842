-- Why variables, declarations of functions and entry points are refused.
use Rattle.std.specs.Prelude.{ℕ, List, [], ◌∷◌, codes, decimal, Option, Some, None}
use Rattle.naga_error_text.specs.declared.families.Family.{Family}
use Rattle.naga_error_text.specs.declared.families.Family.TheVariants as family
use Rattle.naga_error_text.specs.declared.names.Names.TheVariants.{Capabilities, Spaces}
use Rattle.naga_error_text.specs.declared.pieces.Values.{Values}
use Rattle.naga_error_text.specs.declared.declaration_errors.GlobalVariableError.{GlobalVariableError}
use Rattle.naga_error_text.specs.declared.declaration_errors.GlobalVariableError.TheVariants as global_variable_error
use Rattle.naga_error_text.specs.declared.declaration_errors.LocalVariableError.{LocalVariableError}
use Rattle.naga_error_text.specs.declared.declaration_errors.LocalVariableError.TheVariants as local_variable_error
use Rattle.naga_error_text.specs.declared.declaration_errors.FunctionDeclarationError.{FunctionDeclarationError}
use Rattle.naga_error_text.specs.declared.declaration_errors.FunctionDeclarationError.TheVariants as function_declaration_error
use Rattle.naga_error_text.specs.declared.declaration_errors.EntryPointError.{EntryPointError}
use Rattle.naga_error_text.specs.declared.declaration_errors.EntryPointError.TheVariants as entry_point_error
use Rattle.naga_error_text.specs.Flags.{flags_text}
use Rattle.naga_error_text.specs.Names.{named}
use Rattle.naga_error_text.specs.Spaces.{space_text}

-- the errors `GlobalVariableError` in the order of their numbers, which begin at 1
abbrev pub global_variable_errors : List GlobalVariableError
global_variable_errors =
    global_variable_error.InvalidUsage ∷ global_variable_error.InvalidType ∷ global_variable_error.InvalidBindingArray ∷
    global_variable_error.MissingTypeFlags ∷ global_variable_error.UnsupportedCapability ∷
    global_variable_error.InvalidBinding ∷ global_variable_error.Alignment ∷ global_variable_error.InitializerExprType ∷
    global_variable_error.InitializerType ∷ global_variable_error.InitializerNotAllowed ∷
    global_variable_error.StorageAddressSpaceWriteOnlyNotSupported ∷ global_variable_error.InvalidImmediateType ∷
    global_variable_error.InvalidMemoryDecorationsAddressSpace ∷ global_variable_error.CoherentNotSupported ∷
    global_variable_error.VolatileNotSupported ∷ []

-- what the text of each `GlobalVariableError` says of the values `v`, piece by piece
abbrev pub global_variable_error_parts : GlobalVariableError → Values → List (List ℕ)
global_variable_error_parts global_variable_error.InvalidUsage v =
    codes "Usage isn't compatible with address space " ∷ space_text v.first v.second ∷ []
global_variable_error_parts global_variable_error.InvalidType v =
    codes "Type isn't compatible with address space " ∷ space_text v.first v.second ∷ []
global_variable_error_parts global_variable_error.InvalidBindingArray v =
    codes "Type [" ∷ decimal v.first ∷ codes "] isn't compatible with binding arrays" ∷ []
global_variable_error_parts global_variable_error.MissingTypeFlags v =
    codes "Type flags TypeFlags(" ∷ flags_text v.second ∷ codes ") do not meet the required TypeFlags(" ∷
    flags_text v.first ∷ codes ")" ∷ []
global_variable_error_parts global_variable_error.UnsupportedCapability v =
    codes "Capability Capabilities(" ∷ named Capabilities v.first ∷ codes ") is not supported" ∷ []
global_variable_error_parts global_variable_error.InvalidBinding v =
    codes "Binding decoration is missing or not applicable" ∷ []
global_variable_error_parts global_variable_error.Alignment v =
    codes "Alignment requirements for address space " ∷ named Spaces v.first ∷ codes " are not met by [" ∷
    decimal v.second ∷ codes "]: " ∷ []
global_variable_error_parts global_variable_error.InitializerExprType v =
    codes "Initializer must be an override-expression" ∷ []
global_variable_error_parts global_variable_error.InitializerType v =
    codes "Initializer doesn't match the variable type" ∷ []
global_variable_error_parts global_variable_error.InitializerNotAllowed v =
    codes "Initializer can't be used with address space " ∷ space_text v.first v.second ∷ []
global_variable_error_parts global_variable_error.StorageAddressSpaceWriteOnlyNotSupported v =
    codes "Storage address space doesn't support write-only access" ∷ []
global_variable_error_parts global_variable_error.InvalidImmediateType v =
    codes "Type is not valid for use as immediate data: " ∷ []
global_variable_error_parts global_variable_error.InvalidMemoryDecorationsAddressSpace v =
    codes "Memory decorations can only be used in the storage address space" ∷ []
global_variable_error_parts global_variable_error.CoherentNotSupported v = codes "Coherent memory is not supported" ∷ []
global_variable_error_parts global_variable_error.VolatileNotSupported v = codes "Volatile memory is not supported" ∷ []

-- what the error within each `GlobalVariableError` is one of, if there is one
abbrev pub global_variable_error_cause : GlobalVariableError → Option Family
global_variable_error_cause global_variable_error.Alignment = Some family.Disalignment
global_variable_error_cause global_variable_error.InvalidImmediateType = Some family.Immediate
global_variable_error_cause e = None

-- the errors `LocalVariableError` in the order of their numbers, which begin at 1
abbrev pub local_variable_errors : List LocalVariableError
local_variable_errors =
    local_variable_error.InvalidType ∷ local_variable_error.InitializerType ∷
    local_variable_error.NonConstOrOverrideInitializer ∷ []

-- what the text of each `LocalVariableError` says of the values `v`, piece by piece
abbrev pub local_variable_error_parts : LocalVariableError → Values → List (List ℕ)
local_variable_error_parts local_variable_error.InvalidType v =
    codes "Local variable has a type [" ∷ decimal v.first ∷ codes "] that can't be stored in a local variable" ∷ []
local_variable_error_parts local_variable_error.InitializerType v =
    codes "Initializer doesn't match the variable type" ∷ []
local_variable_error_parts local_variable_error.NonConstOrOverrideInitializer v =
    codes "Initializer is not a const or override expression" ∷ []

-- the errors `FunctionDeclarationError` in the order of their numbers, which begin at 1
abbrev pub function_declaration_errors : List FunctionDeclarationError
function_declaration_errors =
    function_declaration_error.LocalVariable ∷ function_declaration_error.InvalidArgumentPointerSpace ∷
    function_declaration_error.InvalidArgumentType ∷ function_declaration_error.PipelineInputRegularFunction ∷
    function_declaration_error.NonConstructibleReturnType ∷ function_declaration_error.PipelineOutputRegularFunction ∷
    []

-- what the text of each `FunctionDeclarationError` says of the values `v`, piece by piece
abbrev pub function_declaration_error_parts : FunctionDeclarationError → Values → List (List ℕ)
function_declaration_error_parts function_declaration_error.LocalVariable v =
    codes "Local variable [" ∷ decimal v.first ∷ codes "] is invalid: " ∷ []
function_declaration_error_parts function_declaration_error.InvalidArgumentPointerSpace v =
    codes "Argument at index " ∷ decimal v.first ∷ codes " is a pointer of space " ∷ space_text v.second v.third ∷
    codes ", which can't be passed into functions" ∷ []
function_declaration_error_parts function_declaration_error.InvalidArgumentType v =
    codes "Argument at index " ∷ decimal v.first ∷ codes " has a type that can't be passed into functions" ∷ []
function_declaration_error_parts function_declaration_error.PipelineInputRegularFunction v =
    codes "Argument at index " ∷ decimal v.first ∷ codes " has a binding, but its function is not an entry point" ∷ []
function_declaration_error_parts function_declaration_error.NonConstructibleReturnType v =
    codes "The function's given return type cannot be returned from functions" ∷ []
function_declaration_error_parts function_declaration_error.PipelineOutputRegularFunction v =
    codes "The result has a binding, but its function is not an entry point" ∷ []

-- what the error within each `FunctionDeclarationError` is one of, if there is one
abbrev pub function_declaration_error_cause : FunctionDeclarationError → Option Family
function_declaration_error_cause function_declaration_error.LocalVariable = Some family.LocalVariable
function_declaration_error_cause e = None

-- the errors `EntryPointError` in the order of their numbers, which begin at 1
abbrev pub entry_point_errors : List EntryPointError
entry_point_errors =
    entry_point_error.Conflict ∷ entry_point_error.MissingVertexOutputPosition ∷
    entry_point_error.UnexpectedEarlyDepthTest ∷ entry_point_error.UnexpectedWorkgroupSize ∷
    entry_point_error.OutOfRangeWorkgroupSize ∷ entry_point_error.ForbiddenStageOperations ∷
    entry_point_error.Argument ∷ entry_point_error.Result ∷ entry_point_error.Function ∷
    entry_point_error.StageNotCovered ∷ []

-- what the text of each `EntryPointError` says of the values `v`, piece by piece
abbrev pub entry_point_error_parts : EntryPointError → Values → List (List ℕ)
entry_point_error_parts entry_point_error.Conflict v = codes "Multiple conflicting entry points" ∷ []
entry_point_error_parts entry_point_error.MissingVertexOutputPosition v =
    codes "Vertex shaders must return a `@builtin(position)` output value" ∷ []
entry_point_error_parts entry_point_error.UnexpectedEarlyDepthTest v = codes "Early depth test is not applicable" ∷ []
entry_point_error_parts entry_point_error.UnexpectedWorkgroupSize v = codes "Workgroup size is not applicable" ∷ []
entry_point_error_parts entry_point_error.OutOfRangeWorkgroupSize v = codes "Workgroup size is out of range" ∷ []
entry_point_error_parts entry_point_error.ForbiddenStageOperations v =
    codes "Uses operations forbidden at this stage" ∷ []
entry_point_error_parts entry_point_error.Argument v =
    codes "Argument " ∷ decimal v.first ∷ codes " varying error: " ∷ []
entry_point_error_parts entry_point_error.Result v = codes "Result varying error: " ∷ []
entry_point_error_parts entry_point_error.Function v = []
entry_point_error_parts entry_point_error.StageNotCovered v = codes "Entry points of this stage are not validated" ∷ []

-- what the error within each `EntryPointError` is one of, if there is one
abbrev pub entry_point_error_cause : EntryPointError → Option Family
entry_point_error_cause entry_point_error.Argument = Some family.Varying
entry_point_error_cause entry_point_error.Result = Some family.Varying
entry_point_error_cause entry_point_error.Function = Some family.FunctionDeclaration
entry_point_error_cause e = None
