-- To read first:
-- GlobalVariables.global_variable_rule: the rule of a variable of a module
-- Spaces.space_row: the table of address spaces
-- Functions.declaration_rule: the rule of the local variables, the arguments and the result of a function
-- Varyings.varying_error: why an input or output of an entry point is refused
-- BuiltIns.built_in_row: the table of built-in values
-- EntryPoints.entry_point_rule: the rule of an entry point
-- Surroundings.InterfaceSurroundings, KnownExpressions: what the rules depend on, besides the item
-- ErrorNames: the name of each variant of an error
pub mod BuiltIns
pub mod EntryPoints
pub mod ErrorNames
pub mod Functions
pub mod GlobalVariables
pub mod Spaces
pub mod Stages
pub mod Surroundings
pub mod Varyings
pub mod steps
