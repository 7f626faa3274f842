-- To read first:
-- ModuleInfo.ModuleInfoLists: what is known of an accepted module, a list for each kind of item
-- ModuleInfo.ModuleInfoWithRoom: what is known of an accepted module, with the room that takes no more memory
-- FunctionTypes.function_resolves, AreFunctionTypes: the type of an expression of a function, and of all of them
-- FunctionTypes.AreTypesBefore, IsUntyped: the types of the expressions before a place; why the one there has none
-- Surroundings.ExpressionSurroundings: what the validation of an expression of a function
-- depends on, besides the expression
-- Surroundings.IsReady, AreSound, IsReadySomewhere: what has to be known of an expression that is validated
-- Surroundings.kind_operands: the operands whose kinds the rule of an expression needs
-- Integers.ContainsInteger: the integers in a constant expression
-- Sources.IsLastSource, AreSources: where an expression has its integers from, and what is kept of that
-- Results.IsRuleResult: what a call returns, out of memory aside
-- Stages.every_stage: the stages that may use most expressions
-- ErrorNames.literal_error_name, const_expression_error_name, expression_error_name: the
-- name of each variant of an error
pub mod ErrorNames
pub mod FunctionTypes
pub mod Integers
pub mod ModuleInfo
pub mod Results
pub mod Sources
pub mod Stages
pub mod Surroundings
pub mod Words
pub mod steps
