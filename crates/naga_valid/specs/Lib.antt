-- To read first, after the definitions of naga_ir, naga_handles, naga_typing, naga_types and naga_exprs:
-- Accepted.IsAccepted: a module keeps all rules, and these are its facts
-- Accepted.IsRefusal: a fault of its handles, else the first refusal of its layouts, its types, the types of its
-- global expressions, and its values
-- Accepted.Accepts, Refuses: what validate promises of a module that it accepts, and of one that it refuses; AcceptsBy:
-- Accepts by any rule of types
-- Values.constant_rule, override_rule, value_results: the rules of constants and
-- overrides, and of all values of a module
-- Functions.IsFunctionAccepted, IsFunctionRefusal, RefusesFunction: when the expressions of a function are accepted,
-- what is known of it then, and the first that is refused
-- Functions.AreFunctionsReadyInOrder: the functions of a module can be validated in order
-- AllFunctions.ValidatesFunctions, AddsInfos: what is known of all functions and entry points, each by those before
-- it, or the first that is refused
-- Interfaces.KeepVariables, IsVariableRefusal: the variables of a module are accepted, or the first that is refused
-- Interfaces.IsInterfacesResult, IsDeclarationsResult: the same of what functions declare and of entry points, and of
-- all that is declared
-- MoreCapabilities.HasMoreCapabilities, KnowsMoreStages: when a validator allows what another does, and when no fewer
-- stages may use what is known of a module
-- State.State, Settings, new_state: what a validator keeps from call to call, and begins with
-- ErrorNames.constant_error_name, override_error_name, validation_error_name, function_error_name: the
-- name of each variant of an error
pub mod Accepted
pub mod AllFunctions
pub mod ErrorNames
pub mod Faults
pub mod Functions
pub mod Interfaces
pub mod MoreCapabilities
pub mod State
pub mod Values
pub mod steps
