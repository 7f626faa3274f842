-- The rule of an entry point.
use Rattle.std.specs.Prelude.{◌&&◌, ◌||◌, not, leb, ℕ, Bool as Boolean, true, false, List, [], ◌∷◌, Option, Some, None, IsTrue, Result, map, option_map, take, if◌then◌else◌}
use Rattle.std.specs.List.{enumerate_from, flat_map, list_all, list_any}
use Rattle.naga_arena.specs.Results.{IsResultOf}
use Rattle.naga_flags.specs.Bits.{COMPUTE_LIKE, EARLY_DEPTH_TEST, FRAGMENT, VERTEX}
use Rattle.naga_flags.specs.Flags.{has}
use Rattle.naga_info.specs.declared.module_info.FunctionInfo.{FunctionInfo}
use Rattle.naga_interface.specs.Functions.{declaration_checks, has_initialisers}
use Rattle.naga_interface.specs.Stages.{is_covered, stage_flag}
use Rattle.naga_interface.specs.Surroundings.{InterfaceSurroundings, KnownExpressions}
use Rattle.naga_interface.specs.Varyings.{VaryingSurroundings, bindings_of, is_built_in, is_far, varying_error}
use Rattle.naga_interface.specs.declared.error.EntryPointError.{EntryPointError}
use Rattle.naga_interface.specs.declared.error.EntryPointError.TheVariants.{Argument, ForbiddenStageOperations, Function, MissingVertexOutputPosition, OutOfMemory, OutOfRangeWorkgroupSize, Result as Result_, StageNotCovered, UnexpectedEarlyDepthTest, UnexpectedWorkgroupSize}
use Rattle.naga_interface.specs.declared.varying.Direction.{Direction}
use Rattle.naga_interface.specs.declared.varying.Direction.TheVariants.{Input, Output}
use Rattle.naga_ir.specs.declared.built_in.BuiltIn.TheVariants.{Position}
use Rattle.naga_ir.specs.declared.ir.EarlyDepthTest.{EarlyDepthTest}
use Rattle.naga_ir.specs.declared.ir.EntryPoint.{EntryPoint}
use Rattle.naga_ir.specs.declared.ir.FunctionArgument.{FunctionArgument}
use Rattle.naga_ir.specs.declared.ir.FunctionResult.{FunctionResult}
use Rattle.naga_ir.specs.declared.ir.ShaderStage.{ShaderStage}
use Rattle.naga_ir.specs.declared.types.Binding.{Binding}
use Rattle.naga_types.specs.Checks.{first, first_error_or, require}
use Rattle.naga_types.specs.declared.error.VaryingError.TheVariants.{UnsupportedCapability}
use Rattle.naga_typing.specs.Kinds.{AreKinds}
use Rattle.naga_typing.specs.declared.expression_kind.ExpressionKind.{ExpressionKind}

-- the stage `stage` is among the stages of a set of flags
abbrev pub is_among : ℕ → ShaderStage → Boolean
is_among stages stage = has stages (stage_flag stage)

-- the conditions of an early test of depths, if there is one: a capability, and that the shader is for fragments
abbrev pub early_depth_checks : ℕ → ShaderStage → Option EarlyDepthTest → List (Option EntryPointError)
early_depth_checks capabilities stage None = []
early_depth_checks capabilities stage (Some test) =
    require (has capabilities EARLY_DEPTH_TEST)
    (Result_ (UnsupportedCapability (record { 0 = EARLY_DEPTH_TEST }))) ∷
    require (is_among FRAGMENT stage) UnexpectedEarlyDepthTest ∷ []

-- the greatest size of a workgroup in a dimension
abbrev pub most_invocations : ℕ
most_invocations = 16384

-- a workgroup may have this size in a dimension
abbrev pub is_workgroup_size : ℕ → Boolean
is_workgroup_size n = leb 1 n && leb n most_invocations

-- the error of the sizes of a workgroup: stages with workgroups have one, and other stages none
abbrev pub workgroup_error : ShaderStage → List ℕ → Option EntryPointError
workgroup_error stage sizes =
    if is_among COMPUTE_LIKE stage then require (list_all is_workgroup_size sizes) OutOfRangeWorkgroupSize
    else require (list_all (λ n. leb n 0) sizes) UnexpectedWorkgroupSize

-- what the rule of the inputs, or of the outputs, of an entry point of this stage depends on
abbrev pub varyings : InterfaceSurroundings → EntryPoint → ShaderStage → Direction → VaryingSurroundings
varyings s e stage direction =
    record { interface = s; stage = stage; direction = direction; workgroup_size = e.workgroup_size }

-- the bindings of arguments, in order
abbrev pub argument_bindings : InterfaceSurroundings → List FunctionArgument → List Binding
argument_bindings s arguments = flat_map (λ (a : FunctionArgument). bindings_of s a.ty a.binding) arguments

-- the error of the argument `at.1` of index `at.0` as an input, after those before it
abbrev pub input_error : VaryingSurroundings → List FunctionArgument → ℕ × FunctionArgument → Option EntryPointError
input_error s arguments at =
    option_map (Argument at.0)
    (varying_error s (argument_bindings s.interface (take at.0 arguments)) at.1.ty at.1.binding)

-- the error of the first argument that is refused as an input
abbrev pub inputs_error : VaryingSurroundings → List FunctionArgument → Option EntryPointError
inputs_error s arguments = first (map (input_error s arguments) (enumerate_from 0 arguments))

-- the error of a result as an output, if there is one
abbrev pub output_error : VaryingSurroundings → Option FunctionResult → Option EntryPointError
output_error s (Some r) = option_map Result_ (varying_error s [] r.ty r.binding)
output_error s None = None

-- the bindings of a result, if there is one
abbrev pub result_bindings : InterfaceSurroundings → Option FunctionResult → List Binding
result_bindings s (Some r) = bindings_of s r.ty r.binding
result_bindings s None = []

-- the conditions of the outputs of an entry point: those of its result, and that a vertex shader gives the position
abbrev pub output_checks : VaryingSurroundings → Option FunctionResult → List (Option EntryPointError)
output_checks s result =
    output_error s result ∷
    require
    (not (is_among VERTEX s.stage) || list_any (is_built_in (Position false)) (result_bindings s.interface result))
    MissingVertexOutputPosition ∷ []

-- the conditions of what an entry point of this stage takes and gives
abbrev pub varying_checks : InterfaceSurroundings → EntryPoint → ShaderStage → List (Option EntryPointError)
varying_checks s e stage =
    inputs_error (varyings s e stage Input) e.function.arguments ∷
    output_checks (varyings s e stage Output) e.function.result

-- the error of what the function of an entry point declares
abbrev pub function_error : InterfaceSurroundings → KnownExpressions → EntryPoint → Option EntryPointError
function_error s known e = option_map Function (first (declaration_checks s known true e.function))

-- the conditions of an entry point of this stage, whose function may be used by the stages of these flags
abbrev pub covered_checks : InterfaceSurroundings → KnownExpressions → ℕ → EntryPoint → ShaderStage
    → List (Option EntryPointError)
covered_checks s known stages e stage =
    first (early_depth_checks s.capabilities stage e.early_depth_test) ∷
    workgroup_error stage e.workgroup_size ∷
    function_error s known e ∷
    require (is_among stages stage) ForbiddenStageOperations ∷
    varying_checks s e stage

-- the conditions of an entry point, by its stage, if that is known
abbrev pub entry_point_checks : InterfaceSurroundings → KnownExpressions → ℕ → EntryPoint → Option ShaderStage
    → List (Option EntryPointError)
entry_point_checks s known stages e (Some stage) =
    require (is_covered stage) StageNotCovered ∷ covered_checks s known stages e stage
entry_point_checks s known stages e None = Some StageNotCovered ∷ []

-- an entry point keeps its rule, or the first condition that it breaks gives the error; no other entry point is looked
-- at
abbrev pub entry_point_rule : InterfaceSurroundings → KnownExpressions → ℕ → EntryPoint
    → Result (Unit {0}) EntryPointError
entry_point_rule s known stages e = first_error_or (entry_point_checks s known stages e e.stage) tt

-- whether the validation of an entry point takes memory: for a location that is far, or an initialiser
abbrev pub takes_memory : InterfaceSurroundings → EntryPoint → Boolean
takes_memory s e =
    has_initialisers e.function || list_any is_far (argument_bindings s e.function.arguments)
    || list_any is_far (result_bindings s e.function.result)

-- a call returns `result`, which is what the rule says of `e`, whose function has the info `info`, or that memory was
-- refused if it takes any
abbrev pub IsEntryPointResult : InterfaceSurroundings → FunctionInfo → EntryPoint → Result (Unit {0}) EntryPointError
    → Type 0
IsEntryPointResult s info e result =
    (kinds : List ExpressionKind) × AreKinds e.function.expressions kinds
    × IsResultOf (λ _. IsTrue (takes_memory s e)) OutOfMemory
    (entry_point_rule s (record { types = info.types; kinds = kinds }) info.available_stages.0 e) result
